-- A plain file that is finished is settled.
use Rattle.std.proofs.Common.{rules}
use Rattle.dst_pipes.proofs.pipe.finish.Goals as goal

pub returns-clause-settled : goal.returns-clause-settled
returns-clause-settled c = search rules
