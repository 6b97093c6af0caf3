-- The upper half of a row from its lower half, coefficient by coefficient.
use Rattle.std.proofs.Common.{◌≡◌, ℕ, ◌+◌, ◌*◌, ◌<◌, ◌≤◌, ◌^◌, pos, ◌+ℤ◌, length, get_or, FitsSigned, ap, ◌∙◌, sym, rules, arith}
use mir.Syntax.{w16}
use Rattle.std.proofs.lemmas.Int.{ints}
use Rattle.std.proofs.lemmas.List.{length-set}
use Rattle.byte_predictor.specs.Samples.{rising_bits}
use Rattle.byte_predictor.specs.Upward.{upward_sum}
use Rattle.byte_predictor.proofs.Sums.{half-below}
use Rattle.byte_predictor.proofs.Lanes.{raised-lane, row-more}
use Rattle.byte_predictor.proofs.row_filter.fill_near.Goals as goal
use Rattle.byte_predictor.proofs.row_filter.fill_near.Goals.{In-loop-byte}

-- a place counted from 0
from_zero : (k : ℕ) → k ≡ 0 + k
from_zero k = omega arith

-- what one coefficient more makes of the sum of a byte
raised : (c : In-loop-byte) → let sum = upward_sum c.args.coefs.now (rising_bits 8 (c.loop-i.half + c.loop-byte.byte)) in
    (pos (get_or c.loop-byte.near c.loop-byte.byte 0) +ℤ c.coef_at-coef.result ≡ pos sum) × (sum ≤ 2048) × FitsSigned w16 c.coef_at-coef.result
raised c =
    let coefs = c.args.coefs.now in
    let i = c.loop-i.i in
    let step = raised-lane coefs 0 i c.loop-i.half c.loop-byte.byte (get_or c.loop-byte.near c.loop-byte.byte 0) c.requires (omega arith)
    c.loop-i.invariant.0 (omega arith) (c.loop-byte.invariant.0 c.loop-byte.byte (omega arith)) in
    let at : get_or coefs (0 + i) (pos 0) ≡ c.coef_at-coef.result = sym (c.coef_at-coef.ensures ∙ ap (λ k. get_or coefs k (pos 0)) (from_zero i)) in
    (ap (λ z. pos (get_or c.loop-byte.near c.loop-byte.byte 0) +ℤ z) (sym at) ∙ step.0, step.1, search rules)

pub moved-sum-requires-clause-least : goal.moved-sum-requires-clause-least
moved-sum-requires-clause-least c =
    let r = raised c.before.before.before in
    omega (arith, ints, r.0, r.1, r.2)

pub moved-sum-requires-clause-most : goal.moved-sum-requires-clause-most
moved-sum-requires-clause-most c =
    let r = raised c.before.before.before in
    omega (arith, ints, r.0, r.1, r.2)

pub loop-byte-preserved : goal.loop-byte-preserved
loop-byte-preserved c =
    let r = raised c.before.before.before in
    let place = c.loop-i.half + c.loop-byte.byte in
    let stored_is : c.moved-sum.result ≡ upward_sum c.args.coefs.now (rising_bits 8 (c.loop-i.half + c.loop-byte.byte)) =
    omega (arith, ints, r.0, r.1, r.2, c.moved-sum.ensures) in
    let eighth : 2 * 2 ^ c.loop-i.i ≤ 256 = half-below c.loop-i.i (omega arith) in
    let power : c.loop-i.half ≡ 2 ^ c.loop-i.i = c.loop-i.invariant.0 in
    let inside : place < length c.loop-byte.near = omega arith in (
      λ b lt. row-more c.loop-byte.near place c.moved-sum.result
          (λ k. upward_sum c.args.coefs.now (rising_bits 8 k)) inside c.loop-byte.invariant.0 stored_is b (omega arith),
      length-set c.loop-byte.near place c.moved-sum.result ∙ c.loop-byte.invariant.1,
    )
