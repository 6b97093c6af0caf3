-- The size is that of the coefficients so far, and at most 32,768 for each of them.
use Rattle.std.proofs.Common.{◌≡◌, ◌*◌, ◌≤◌, take}
use Rattle.byte_predictor.specs.Upward.{size_sum}
use Rattle.byte_predictor.proofs.row_filter.size_of_all.Given as goal

abbrev pub invariant-loop-coef : goal.invariant-loop-coef
invariant-loop-coef l = (l.size ≡ size_sum (take l.coef-index l.coefs)) × (l.size ≤ 32768 * l.coef-index)
