-- The upper half of a table from its lower half, coefficient by coefficient.
use Rattle.std.proofs.Common.{◌≡◌, ◌+◌, ◌*◌, ◌<◌, ◌≤◌, ◌^◌, pos, ◌+ℤ◌, ◌*ℤ◌, length, get_or, drop, to_z, of_z, arith, ◌∙◌}
use mir.Syntax.{w16}
use Rattle.std.proofs.lemmas.Int.{ints}
use Rattle.std.proofs.lemmas.List.{length-set}
use Rattle.byte_predictor.specs.Samples.{rising_bits, signed_sum}
use Rattle.byte_predictor.proofs.Sums.{Within, raised-step, within-bits, table-more, half-below}
use Rattle.byte_predictor.proofs.byte_filter.fill_part.Goals as goal

-- what one coefficient more at a sample 1 makes of the sum of a byte; neither is large
upper : (c : goal.After-part-1) → let low = get_or c.loop-byte.part c.loop-byte.byte (pos 0) in
    let sum = low +ℤ (c.coef_at-coef.result +ℤ c.coef_at-coef.result) in
    (sum ≡ signed_sum (drop c.args.first c.args.coefs.now) (rising_bits 8 (c.loop-i.half + c.loop-byte.byte))) × Within 2048 sum × Within 2048 low
upper c =
    let low = get_or c.loop-byte.part c.loop-byte.byte (pos 0) in
    let here : low ≡ signed_sum (drop c.args.first c.args.coefs.now) (rising_bits 8 c.loop-byte.byte) =
    c.loop-byte.invariant.0 c.loop-byte.byte (omega arith) in
    let step = raised-step c.args.coefs.now c.args.first c.loop-i.i c.loop-i.half c.loop-byte.byte low c.coef_at-coef.result c.requires.table.each
    (omega arith) c.loop-i.invariant.0 (omega arith) here c.coef_at-coef.ensures in
    (step.0, step.1, rw here (within-bits c.args.coefs.now c.args.first 8 c.loop-byte.byte (omega arith) c.requires.table.each))

pub overflow_add-part : goal.overflow_add-part
overflow_add-part c =
    let u = upper c in
    omega (arith, ints, u.1.0, u.1.1, u.2.0, u.2.1)

pub loop-byte-preserved : goal.loop-byte-preserved
loop-byte-preserved c =
    let low = get_or c.loop-byte.part c.loop-byte.byte (pos 0) in
    let place = c.loop-i.half + c.loop-byte.byte in
    let u = upper c in
    let stored = to_z w16 (of_z w16 (to_z w16 (of_z w16 low) +ℤ to_z w16 (of_z w16 (pos 2 *ℤ to_z w16 (of_z w16 c.coef_at-coef.result))))) in
    let stored_is : stored ≡ signed_sum (drop c.args.first c.args.coefs.now) (rising_bits 8 (c.loop-i.half + c.loop-byte.byte)) =
    omega (arith, ints, u.0, u.1.0, u.1.1, u.2.0, u.2.1) in
    let eighth : 2 * 2 ^ c.loop-i.i ≤ 256 = half-below c.loop-i.i (omega arith) in
    let power : c.loop-i.half ≡ 2 ^ c.loop-i.i = c.loop-i.invariant.0 in
    let inside : place < length c.loop-byte.part = omega arith in (
      λ b lt. table-more c.loop-byte.part place stored (λ k.
          signed_sum (drop c.args.first c.args.coefs.now) (rising_bits 8 k)) inside c.loop-byte.invariant.0 stored_is b (omega arith),
      length-set c.loop-byte.part place stored ∙ c.loop-byte.invariant.1,
    )
