-- One value more of the half byte adds its cell, with the sign of the bit, and the sum fits.
use Rattle.std.proofs.Common.{◌≡◌, ◌+◌, ◌*◌, ◌/◌, ◌%◌, ◌^◌, ℕ, ◌+ℤ◌, to_z, of_z, ap, sym, ◌∙◌, arith}
use mir.Syntax.{w64}
use Rattle.std.proofs.lemmas.Int.{ints}
use Rattle.dst_spec.specs.Guess.{signed}
use Rattle.level_spec.specs.Correlation.{sum_over}
use Rattle.filter_refiner.specs.Cells.{in_cell}
use Rattle.filter_refiner.proofs.Numbers.{same_32, sum_over-next}
use Rattle.filter_refiner.proofs.gradient.half_sum.Goals as goal

pub loop-value-init : goal.loop-value-init
unfolding sum_over
loop-value-init c = record { sum = omega (arith, ints); most = omega (arith, ints) }

pub signed_part-part-requires-clause-number : goal.signed_part-part-requires-clause-number
signed_part-part-requires-clause-number c =
    let small = c.requires.cells (16 * c.args.back + c.loop-value.value) c.args.lane in
    rw (same_32 (in_cell c.args.cells.now (16 * c.args.back + c.loop-value.value) c.args.lane) (omega arith)) small

pub overflow_add-sum : goal.overflow_add-sum
overflow_add-sum c =
    let most = c.loop-value.invariant.most in
    let part = c.signed_part-part.ensures.small in
    omega (arith, ints)

pub loop-value-preserved : goal.loop-value-preserved
loop-value-preserved c =
    let v = c.loop-value.value in
    let x = in_cell c.args.cells.now (16 * c.args.back + v) c.args.lane in
    let small = c.requires.cells (16 * c.args.back + v) c.args.lane in
    let F = λ (v : ℕ). signed (v / 2 ^ c.args.bit % 2) (in_cell c.args.cells.now (16 * c.args.back + v) c.args.lane) in
    let most = c.loop-value.invariant.most in
    let part = c.signed_part-part.ensures.small in
    let is : c.signed_part-part.result ≡ F v = c.signed_part-part.ensures.part ∙ ap (signed (v / 2 ^ c.args.bit % 2)) (same_32 x (omega arith)) in
    let new : to_z w64 (of_z w64 (to_z w64 c.loop-value.sum-bits +ℤ to_z w64 (of_z w64 c.signed_part-part.result)))
    ≡ to_z w64 c.loop-value.sum-bits +ℤ c.signed_part-part.result = omega (arith, ints) in
    let next : sum_over F 0 (v + 1) ≡ sum_over F 0 v +ℤ F v = sum_over-next F 0 v ∙ (let z : 0 + v ≡ v = omega arith in ap (λ k. sum_over F 0 v +ℤ F k) z) in
    record {
      sum = new ∙ ap (λ z. z +ℤ c.signed_part-part.result) c.loop-value.invariant.sum ∙ ap (λ z. sum_over F 0 v +ℤ z) is ∙ sym next;
      most = rw new (omega (arith, ints));
    }
