-- The coefficients so far are the numbers that the loop has passed.
use Rattle.std.proofs.Common.{◌≡◌, take}
use Rattle.table_code.proofs.kinds.FiltersTableKind.from_values.Given as goal

abbrev pub invariant-loop-number : goal.invariant-loop-number
invariant-loop-number l = l.coefs.items ≡ take l.number-index l.numbers
