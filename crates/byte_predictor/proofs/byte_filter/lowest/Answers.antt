-- The coefficients are subtracted one by one, and the sum stays from -2,048 to 2,048.
use Rattle.std.proofs.Common.{◌≡◌, ◌+◌, ◌≤ℤ◌, pos, neg_ℤ, ◌-ℤ◌, drop, FitsSigned, to_z, rules, arith}
use mir.Syntax.{w16}
use Rattle.std.proofs.lemmas.Int.{ints}
use Rattle.byte_predictor.specs.Samples.{rising_bits, signed_sum}
use Rattle.byte_predictor.proofs.Sums.{signed_sum-no_bits, lowest-step}
use Rattle.byte_predictor.proofs.byte_filter.lowest.Goals as goal

pub loop-i-init : goal.loop-i-init
loop-i-init c = signed_sum-no_bits (drop c.args.first c.args.coefs.now)

pub overflow_sub-sum : goal.overflow_sub-sum
overflow_sub-sum c =
    let sum = to_z w16 c.loop-i.sum-bits in
    let coef = c.coef_at-sum.result in
    let step = lowest-step c.args.coefs.now c.args.first c.loop-i.i sum coef c.requires.table.each (omega arith) c.loop-i.invariant c.coef_at-sum.ensures in
    let low : neg_ℤ (pos 2048) ≤ℤ (sum -ℤ coef) = step.1.0 in
    let high : (sum -ℤ coef) ≤ℤ pos 2048 = step.1.1 in
    let fits : FitsSigned w16 coef = search rules in
    omega (arith, ints)

pub loop-i-preserved : goal.loop-i-preserved
loop-i-preserved c =
    let sum = to_z w16 c.loop-i.sum-bits in
    let coef = c.coef_at-sum.result in
    let step = lowest-step c.args.coefs.now c.args.first c.loop-i.i sum coef c.requires.table.each (omega arith) c.loop-i.invariant c.coef_at-sum.ensures in
    let is : sum -ℤ coef ≡ signed_sum (drop c.args.first c.args.coefs.now) (rising_bits (c.loop-i.i + 1) 0) = step.0 in
    let low : neg_ℤ (pos 2048) ≤ℤ (sum -ℤ coef) = step.1.0 in
    let high : (sum -ℤ coef) ≤ℤ pos 2048 = step.1.1 in
    let fits : FitsSigned w16 coef = search rules in
    omega (arith, ints)
