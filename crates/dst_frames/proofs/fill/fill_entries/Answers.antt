-- Entry by entry: those far below, one for each sum, those far above.
use Rattle.std.proofs.Common.{◌≡◌, ℕ, ◌+◌, List, inl, inr, ◌-◌, ◌*◌, ◌≤◌, min, pos, ◌-ℤ◌, length, map, get_or, sym, subst, arith}
use Rattle.std.proofs.lemmas.Bool.{cases_lt}
use Rattle.std.proofs.lemmas.List.{length-map}
use Rattle.byte_predictor.specs.Upward.{upward_sum, size_sum}
use Rattle.dst_frames.specs.Tables.{IsEntry}
use Rattle.dst_frames.specs.Entries.{entry_for}
use Rattle.dst_frames.proofs.Entries.{HasFirst, far_below, far_above, one_more}
use Rattle.dst_frames.proofs.fill.fill_entries.Goals as goal

-- a table has 64 probabilities at most
few : (probs : List ℕ) → length (map (λ x. pos x) probs) ≤ 64 → length probs ≤ 64
few probs most = omega (arith, length-map probs (λ x. pos x), most)

-- the entry of a sum that is no greater than the size
found : (entries probs : List ℕ) (size u end : ℕ) → length probs ≤ 64 → size ≤ 32768 → u ≤ size → min (size + 1) 32768 ≤ end →
    HasFirst entries probs size end → IsEntry (pos (2 * u) -ℤ pos size) probs (entry_for entries u)
found entries probs size u end few most inside past has = elim (cases_lt u 32768) [
  | inl lt ↦
      let same : u ≡ min u 32767 = omega arith in
      subst (λ k. IsEntry (pos (2 * u) -ℤ pos size) probs (get_or entries k 0)) same (has.first u (omega arith))
  | inr le ↦
      let same : 32767 ≡ min u 32767 = omega arith in
      let far = far_above probs (get_or entries 32767 0) 65534 (2 * u) size few (omega arith) (omega arith) (has.first 32767 (omega arith)) in
      subst (λ k. IsEntry (pos (2 * u) -ℤ pos size) probs (get_or entries k 0)) same far
]

pub loop-below-init : goal.loop-below-init
loop-below-init c = record { long = omega arith; first = λ k h. absurd (omega arith) }

pub loop-below-preserved : goal.loop-below-preserved
loop-below-preserved c =
    let u = c.loop-below.below in
    let probs = c.args.probs.now in
    let size = size_sum c.args.filter.now in
    let same = c.size-size.ensures.size in
    let x = c.entry_at-least in
    let own = far_below probs x.result 0 (2 * u) size (few probs c.requires.most) (omega (arith, same)) (omega (arith, same)) x.ensures in
    one_more c.loop-below.entries probs size u x.result (omega (arith, same)) c.loop-below.invariant own

pub loop-upward-init : goal.loop-upward-init
loop-upward-init c = subst (HasFirst c.loop-below.entries c.args.probs.now (size_sum c.args.filter.now)) (omega arith) c.loop-below.invariant

pub loop-upward-preserved : goal.loop-upward-preserved
loop-upward-preserved c =
    let x = c.entry_at-own in
    one_more c.loop-upward.entries c.args.probs.now (size_sum c.args.filter.now) c.loop-upward.upward x.result (omega arith) c.loop-upward.invariant x.ensures

pub loop-above-init : goal.loop-above-init
loop-above-init c = subst (HasFirst c.loop-upward.entries c.args.probs.now (size_sum c.args.filter.now)) (omega arith) c.loop-upward.invariant

pub loop-above-preserved : goal.loop-above-preserved
loop-above-preserved c =
    let u = c.loop-above.above in
    let probs = c.args.probs.now in
    let size = size_sum c.args.filter.now in
    let same = c.size-size.ensures.size in
    let x = c.entry_at-greatest in
    let own = far_above probs x.result (2 * (c.min-end.result - 1)) (2 * u) size (few probs c.requires.most) (omega (arith, same)) (omega (arith, same))
    x.ensures in
    one_more c.loop-above.entries probs size u x.result (omega arith) c.loop-above.invariant own

pub returns : goal.returns
returns c = λ samples long.
    let s = c.size-size.ensures in
    let u = upward_sum c.args.filter.now samples in
    subst (λ z. IsEntry z c.args.probs.now (entry_for c.loop-above.entries u)) (sym (s.signed samples long))
    (found c.loop-above.entries c.args.probs.now (size_sum c.args.filter.now) u c.loop-above.above (few c.args.probs.now c.requires.most)
    (omega (arith, s.most, s.size)) (omega (arith, s.upward samples, s.size)) (omega (arith, s.size)) c.loop-above.invariant)
