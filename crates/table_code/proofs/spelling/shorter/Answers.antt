-- The shorter spelling stays, and the first of two that are as short.
use Rattle.std.proofs.Common.{rules}
use Rattle.table_code.proofs.spelling.shorter.Goals as goal

pub returns-then-length-best : goal.returns-then-length-best
returns-then-length-best c = search rules
