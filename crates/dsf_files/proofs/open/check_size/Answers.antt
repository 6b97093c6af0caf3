-- Too many samples are refused first, then blocks behind the end.
use Rattle.std.proofs.Common.{rules}
use Rattle.dsf_files.proofs.open.check_size.Goals as goal

pub returns-clause-fault : goal.returns-clause-fault
returns-clause-fault c = search rules

pub returns-clause-blocks : goal.returns-clause-blocks
returns-clause-blocks c = search rules
