-- Each coefficient makes as many rows again from those that stand; no sum is above 2,048, so all fit.
use Rattle.std.proofs.Common.{◌≡◌, ℕ, ◌+◌, ◌*◌, ◌<◌, ◌≤◌, ◌^◌, pos, ◌+ℤ◌, length, [], get_or, drop, ◌∙◌, arith}
use Rattle.std.proofs.lemmas.Int.{ints}
use Rattle.std.proofs.lemmas.List.{length-set}
use Rattle.byte_predictor.specs.Samples.{rising_bits}
use Rattle.byte_predictor.specs.Upward.{upward_sum}
use Rattle.byte_predictor.proofs.Sums.{half-below}
use Rattle.byte_predictor.proofs.Lanes.{raised-lane, rows-more}
use Rattle.byte_predictor.proofs.rows.fill_rows.Given.{Over}
use Rattle.byte_predictor.proofs.rows.fill_rows.Goals as goal

-- what one coefficient more makes of the sum of a byte, in a lane
raised : (g : Over) (c : goal.After-low-in-loop-byte-1 g) (lane : ℕ) → lane < g.row.L →
    let upward = upward_sum (drop lane c.args.later.now) (rising_bits 8 (c.loop-i.half + c.loop-byte.byte)) in
    (pos (get_or (get_or c.loop-byte.rows c.loop-byte.byte []) lane 0) +ℤ get_or c.args.later.now (lane + c.loop-i.i) (pos 0) ≡ pos upward) × (upward ≤ 2048)
raised g c lane h =
    let low = get_or (get_or c.loop-byte.rows c.loop-byte.byte []) lane 0 in
    let here : low ≡ upward_sum (drop lane c.args.later.now) (rising_bits 8 c.loop-byte.byte) = c.loop-byte.invariant.0 c.loop-byte.byte lane (omega arith) h in
    raised-lane c.args.later.now lane c.loop-i.i c.loop-i.half c.loop-byte.byte low c.requires.range (omega arith) c.loop-i.invariant.0 (omega arith) here

pub raise_row-requires : goal.raise_row-requires
raise_row-requires g c =
    let few : g.row.L ≤ 136 = c.requires.few in (
      omega arith,
      (
        omega arith,
        (
          c.requires.inside,
          (
            c.requires.long,
            (
              λ lane h. let r = raised g c lane h in omega (arith, ints, r.0, r.1),
              λ lane h. let r = raised g c lane h in omega (arith, ints, r.0, r.1),
            ),
          ),
        ),
      ),
    )

pub loop-byte-preserved : goal.loop-byte-preserved
loop-byte-preserved g c =
    let place = c.loop-i.half + c.loop-byte.byte in
    let stored_is : (lane : ℕ) → lane < g.row.L → get_or c.raise_row.new.high lane 0 ≡ upward_sum (drop lane c.args.later.now)
    (rising_bits 8 (c.loop-i.half + c.loop-byte.byte)) = λ lane h.
    let r = raised g c.before lane h in
    omega (arith, ints, r.0, r.1, c.raise_row.ensures lane h) in
    let eighth : 2 * 2 ^ c.loop-i.i ≤ 256 = half-below c.loop-i.i (omega arith) in
    let power : c.loop-i.half ≡ 2 ^ c.loop-i.i = c.loop-i.invariant.0 in
    let inside : place < length c.loop-byte.rows = omega arith in (
      λ b lane lt h. rows-more g.row.L c.loop-byte.rows place c.raise_row.new.high
          (λ k m. upward_sum (drop m c.args.later.now) (rising_bits 8 k)) inside c.loop-byte.invariant.0 stored_is b lane (omega arith) h,
      length-set c.loop-byte.rows place c.raise_row.new.high ∙ c.loop-byte.invariant.1,
    )
