-- Early samples of a channel take the steps of the first table, later ones its own; the other channels stay.
use Rattle.std.proofs.Common.{◌≡◌, ◌≢◌, ◌⊎◌, inl, inr, ℕ, ◌+◌, ◌-◌, ◌*◌, ◌<◌, ◌≤◌, [], length, get_or, take, drop, ap, sym, ◌∙◌, arith, below_more}
use Rattle.std.proofs.Common.{length-drop, length-take-le, get_or-take, get_or-drop}
use Rattle.std.proofs.lemmas.Bool.{cases_lt}
use Rattle.std.proofs.lemmas.List.{get_or_default}
use Rattle.frame_predictions.specs.Codes.{codes}
use Rattle.frame_predictions.specs.Predicting.{nothing}
use Rattle.frame_store.specs.declared.coded.ChannelSteps.{ChannelSteps}
use Rattle.frame_store.specs.Coded.{step_at}
use Rattle.frame_store.proofs.Runs.{step-early, step-later}
use Rattle.frame_store.proofs.lanes.fill_lane.Goals as goal

before_or_behind : (t early a b : ℕ) → (t < early → a ≡ b) → (early ≤ t → a ≡ b) → a ≡ b
before_or_behind t early a b before behind = at (cases_lt t early)
  where
    at : (t < early) ⊎ (early ≤ t) → a ≡ b
    at (inl lt) = before lt
    at (inr le) = behind le

pub loop-c-preserved : goal.loop-c-preserved
loop-c-preserved c =
    let v = c.loop-c.invariant in
    let f = c.args.predictions.now.channels in
    let sound = c.args.predictions.now.sound in
    let rows = c.args.predictions.now.rows in
    let table = c.args.first.now in
    let coded = c.args.coded.now in
    let lane = c.args.lane in
    let from = c.args.from in
    let count = c.args.count in
    let place = c.loop-c.c in
    let old = c.loop-c.steps in
    let new = c.fill_run-in-loop-c.new.steps in
    let early = c.min-early.result in
    let early_is = c.min-early.ensures in
    let behind_from = c.saturating_sub.ensures in
    let none : ChannelSteps = record { row = 0; early = 0; later = [] } in
    let one = get_or coded place none in
    let k = from + count - from in
    let all : k ≡ count = omega arith in
    let whole = c.codes.result.now in
    let rest = drop from whole in
    let part = take k rest in
    let enough : k ≤ length rest = omega (arith, length-drop from whole, c.codes.ensures.long, c.requires.inside) in
    let long : length part ≡ k = length-take-le k rest enough in
    let wide : c.count-channels.result ≡ f.channels = c.count-channels.ensures.count ∙ ap (λ g. g.channels) c.channels.ensures in
    let six : place < length coded = omega (arith, c.told-coded, c.loop-c-test.true, c.count-channels.ensures.count, c.count-channels.ensures.shape.most) in
    let at : (t : ℕ) → t < count →
    get_or part t 0 ≡ get_or (codes f sound (get_or rows one.row nothing).channel (get_or rows one.row nothing).filter) (from + t) 0 = λ t h.
    get_or-take k rest t 0 (omega (arith, h, all)) ∙ get_or-drop from whole t 0 ∙ ap (λ xs. get_or xs (from + t) 0) c.codes.ensures.codes in
    let R : ℕ → Type 0 = λ d. (t : ℕ) (other : ChannelSteps) → t < count →
    get_or (get_or new (t * f.channels + d) []) lane 0 ≡ step_at f sound rows table (get_or coded d other) (from + t) in
    let below : (d : ℕ) → d < place → R d = λ d lt t other h.
    let ne : d ≢ place = omega arith in
    let inside : d < c.count-channels.result = omega (arith, lt, c.loop-c-test.true) in
    ap (λ m. get_or (get_or new (t * m + d) []) lane 0) (sym wide) ∙ c.fill_run-in-loop-c.ensures.channels t d inside ne
    ∙ c.fill_run.ensures.channels t d inside ne ∙ ap (λ m. get_or (get_or old (t * m + d) []) lane 0) wide ∙ v.here d t other lt h in
    let here : R place = λ t other h.
    ap (λ m. get_or (get_or new (t * m + place) []) lane 0) (sym wide)
    ∙ before_or_behind t early (get_or (get_or new (t * c.count-channels.result + place) []) lane 0) (step_at f sound rows table one (from + t))
    (λ lt.
    let short : early ≤ length part = omega arith in
    let inside : t < length (take early part) = omega (arith, length-take-le early part short, lt) in
    c.fill_run-in-loop-c.ensures.before t lt ∙ c.fill_run.ensures.here t (omega arith) inside ∙ ap (λ code. get_or table code 0) (get_or-take early part t 0 lt)
    ∙ step-early f sound rows table one (from + t) (get_or part t 0) (omega arith) (at t h))
    (λ le. c.fill_run-in-loop-c.ensures.here t le (omega arith) ∙ step-later f sound rows table one (from + t) (get_or part t 0) (omega arith) (at t h))
    ∙ ap (λ channel. step_at f sound rows table channel (from + t)) (get_or_default coded place none other six) in
    record {
      long = c.fill_run-in-loop-c.ensures.long ∙ c.fill_run.ensures.long ∙ v.long;
      here = λ d t other lt h. below_more R place below here d lt t other h;
      lanes = λ k other ne. c.fill_run-in-loop-c.ensures.lanes k other ne ∙ c.fill_run.ensures.lanes k other ne ∙ v.lanes k other ne;
    }
