-- The size is that of the file that comes back.
use Rattle.std.proofs.Common.{rules}
use Rattle.dsf_files.proofs.plain.back_size.Goals as goal

pub returns-clause-size : goal.returns-clause-size
returns-clause-size c = search rules
