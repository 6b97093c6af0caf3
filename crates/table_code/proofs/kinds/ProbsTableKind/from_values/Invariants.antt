-- The entries so far are the numbers that the loop has passed.
use Rattle.std.proofs.Common.{◌≡◌, take, map, pos}
use Rattle.table_code.proofs.kinds.ProbsTableKind.from_values.Given as goal

abbrev pub invariant-loop-number : goal.invariant-loop-number
invariant-loop-number l = map pos l.entries.items ≡ take l.number-index l.numbers
