-- The error begins at 2 ^ 44 at most, never rises and stays 1 or more; a step stops before a value passes 40 bits.
use Rattle.std.proofs.Common.{◌^◌, pos, ◌≤ℤ◌, arith}
use Rattle.std.proofs.lemmas.Int.{ints}
use Rattle.level_spec.specs.Recursion.{lag}
use Rattle.level_spec.proofs.Steps.{length-after}
use Rattle.level_spec.proofs.Bounds.{after-small}
use Rattle.level_spec.proofs.laws.bounds_law.Goals as goal

pub returns : goal.returns
returns c = λ lags n h.
    let small = after-small lags n h.least in
    let most : lag lags 0 ≤ℤ pos (2 ^ 20) = h.most in
    (small.positive, omega (arith, ints, small.fallen), length-after lags n, small.values)
