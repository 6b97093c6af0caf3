-- One lane more adds how it agrees with its half byte's bit, and the sum fits.
use Rattle.std.proofs.Common.{◌≡◌, ◌+◌, ◌-◌, ◌*◌, ◌/◌, ◌%◌, ℕ, ◌+ℤ◌, to_z, of_z, ap, sym, ◌∙◌, arith}
use mir.Syntax.{w64}
use Rattle.std.proofs.lemmas.Int.{ints}
use Rattle.level_spec.specs.Correlation.{sum_over}
use Rattle.filter_refiner.specs.Cells.{agreeing, place_before, bytes_before}
use Rattle.filter_refiner.proofs.Numbers.{sum_over-next}
use Rattle.filter_refiner.proofs.gradient.lag_sum.Goals as goal

pub loop-lane-init : goal.loop-lane-init
unfolding sum_over
loop-lane-init c = record { sum = omega (arith, ints); most = omega (arith, ints) }

pub overflow_add-sum : goal.overflow_add-sum
overflow_add-sum c =
    let most = c.loop-lane.invariant.most in
    let part = c.half_sum-part.ensures.most in
    omega (arith, ints)

pub loop-lane-preserved : goal.loop-lane-preserved
loop-lane-preserved c =
    let v = c.loop-lane.lane in
    let lag = c.args.lag in
    let F = λ (lane : ℕ). agreeing c.args.cells.now (2 * bytes_before lane lag + place_before lane lag / 4) (3 - place_before lane lag % 4) lane in
    let most = c.loop-lane.invariant.most in
    let part = c.half_sum-part.ensures.most in
    let is : c.half_sum-part.result ≡ F v = c.half_sum-part.ensures.sum in
    let new : to_z w64 (of_z w64 (to_z w64 c.loop-lane.sum-bits +ℤ to_z w64 (of_z w64 c.half_sum-part.result)))
    ≡ to_z w64 c.loop-lane.sum-bits +ℤ c.half_sum-part.result = omega (arith, ints) in
    let next : sum_over F 0 (v + 1) ≡ sum_over F 0 v +ℤ F v = sum_over-next F 0 v ∙ (let z : 0 + v ≡ v = omega arith in ap (λ k. sum_over F 0 v +ℤ F k) z) in
    record {
      sum = new ∙ ap (λ z. z +ℤ c.half_sum-part.result) c.loop-lane.invariant.sum ∙ ap (λ z. sum_over F 0 v +ℤ z) is ∙ sym next;
      most = rw new (omega (arith, ints));
    }
