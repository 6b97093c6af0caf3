-- The sum of eight samples 0, coefficient by coefficient.
use Rattle.std.proofs.Common.{◌≡◌, ◌+◌, ◌≤◌, drop, neg_ℤ, FitsSigned, ap, ◌∙◌, rules, arith}
use mir.Syntax.{w16}
use Rattle.std.proofs.lemmas.Int.{to_z-of_z}
use Rattle.byte_predictor.specs.Samples.{rising_bits}
use Rattle.byte_predictor.specs.Upward.{above_zero, upward_sum}
use Rattle.byte_predictor.proofs.Upward.{upward_sum-no_bits}
use Rattle.byte_predictor.proofs.Lanes.{zeros-step}
use Rattle.byte_predictor.proofs.rows.zeros_sum.Goals as goal

pub loop-i-init : goal.loop-i-init
loop-i-init c = upward_sum-no_bits (drop c.args.first c.args.coefs.now)

-- the sum with a coefficient more
grown : (c : goal.After-below_zero-size) → let sum = c.loop-i.sum + c.below_zero-size.result in
    (sum ≡ upward_sum (drop c.args.first c.args.coefs.now) (rising_bits (c.loop-i.i + 1) 0)) × (sum ≤ 2048)
grown c =
    let fits : FitsSigned w16 c.coef_at.result = search rules in
    let size = c.below_zero-size.ensures ∙ ap (λ a. above_zero (neg_ℤ a)) (to_z-of_z w16 c.coef_at.result fits) in
    zeros-step c.args.coefs.now c.args.first c.loop-i.i c.loop-i.sum c.below_zero-size.result c.coef_at.result c.requires.range
    (omega arith) c.loop-i.invariant c.coef_at.ensures size

pub overflow_add-sum : goal.overflow_add-sum
overflow_add-sum c = omega (arith, (grown c).1)

pub loop-i-preserved : goal.loop-i-preserved
loop-i-preserved c = (grown c).0
