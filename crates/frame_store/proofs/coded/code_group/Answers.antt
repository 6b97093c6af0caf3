-- The channels of one candidate more are coded; the rows of those before stay, so their lanes still are right.
use Rattle.std.proofs.Common.{◌≡◌, ◌≢◌, ℕ, ◌+◌, ◌*◌, ◌<◌, false, [], length, get_or, set, ap, sym, subst, subst₂, ◌∙◌, arith}
use Rattle.std.proofs.Common.{below_more, get_or-set_same, get_or-set_other, length-set}
use Rattle.std.proofs.lemmas.List.{get_or_default}
use Rattle.dst_spec.specs.Header.{Params}
use Rattle.dst_spec.specs.Symbols.{reserved_probability}
use Rattle.arith_encoder.specs.Lanes.{IsStep}
use Rattle.frame_store.specs.Coded.{AreCoded}
use Rattle.frame_store.proofs.Runs.{all-stay}
use Rattle.frame_store.proofs.coded.code_group.Goals as goal

pub loop-lane-preserved : goal.loop-lane-preserved
loop-lane-preserved c =
    let v = c.loop-lane.invariant in
    let lane = c.loop-lane.lane in
    let group = c.args.group.now in
    let n = c.args.predictions.now.channels.channels in
    let old = c.loop-lane.lanes in
    let x = c.code_channels.new.coded in
    let rows = c.code_channels.new.predictions.rows in
    let e = c.code_channels.ensures in
    let R : ℕ → Type 0 = λ l. (other : Params) → AreCoded (get_or group l other) rows (get_or (set old lane x) l []) n in
    let eight = v.eight in
    let inside : lane < length old = omega (arith, c.requires.few, c.loop-lane-test.true) in
    let same : c.loop-lane.predictions.channels.channels ≡ n = ap (λ f. f.channels) v.channels in
    let below : (l : ℕ) → l < lane → R l = λ l lt other.
    let ne : l ≢ lane = omega arith in
    subst (λ coded. AreCoded (get_or group l other) rows coded n) (sym (get_or-set_other old lane l x [] ne))
    (all-stay (get_or group l other) c.loop-lane.predictions.rows rows (get_or old l []) n e.stay (v.coded l other lt)) in
    let is_at : (other : Params) → c.index-group-lane.result ≡ get_or group lane other = λ other.
    c.index-group-lane.is ∙ get_or_default group lane c.index-group-lane.result other c.loop-lane-test.true in
    let here : R lane = λ other.
    subst (λ P. AreCoded P rows (get_or (set old lane x) lane []) n) (is_at other)
    (subst (λ coded. AreCoded c.index-group-lane.result rows coded n) (sym (get_or-set_same old lane x [] inside))
    (subst (AreCoded c.index-group-lane.result rows x) same e.coded)) in
    let few = v.few in
    let fewer = e.few in
    let eight_reserved = v.eight_reserved in
    let s = c.step_of.result in
    let steps = c.loop-lane.reserved in
    let S : ℕ → Type 0 = λ l. (other : Params) → IsStep false (reserved_probability (get_or group l other)) (get_or (set steps lane s) l 0) in
    let s_below : (l : ℕ) → l < lane → S l = λ l lt other.
    let ne : l ≢ lane = omega arith in
    subst (IsStep false (reserved_probability (get_or group l other))) (sym (get_or-set_other steps lane l s 0 ne)) (v.reserved l other lt) in
    let room : lane < length steps = omega (arith, c.requires.few, c.loop-lane-test.true) in
    let s_here : S lane = λ other.
    subst₂ (λ p step. IsStep false p step) (c.reserved_probability.ensures ∙ ap reserved_probability (is_at other))
    (sym (get_or-set_same steps lane s 0 room)) c.step_of.ensures in
    let next : (lane + 1) * n ≡ lane * n + n = omega arith in
    record {
      eight = length-set old lane x ∙ v.eight;
      sound = e.sound ∙ v.sound;
      channels = e.channels ∙ v.channels;
      few = omega arith;
      eight_reserved = length-set steps lane s ∙ v.eight_reserved;
      reserved = λ l other lt. below_more S lane s_below s_here l lt other;
      coded = λ l other lt. below_more R lane below here l lt other;
    }

pub returns-clause-reserved : goal.returns-clause-reserved
returns-clause-reserved c = λ lane other lt. c.loop-lane.invariant.reserved lane other (omega (arith, c.loop-lane-test.false))
