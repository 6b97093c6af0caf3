-- The lengths are those of the spellings by each candidate.
use Rattle.std.proofs.Common.{◌≡◌, ℕ, ◌+◌, ◌/◌, ◌<◌, ◌≤◌, false, List, [], length, take, get_or, ap, ap₂}
use Rattle.std.proofs.Common.{sym, subst, subst₂, ◌∙◌, arith, length-take-le, get_or-take}
use Rattle.dst_spec.specs.Header.{Params}
use Rattle.std.proofs.lemmas.List.{get_or_default}
use Rattle.dst_spec.specs.Symbols.{symbols}
use Rattle.dst_spec.specs.Spell.{spell, header_spelling, code_spelling}
use Rattle.frame_predictions.specs.Predicting.{Predicted}
use Rattle.frame_store.specs.declared.coded.ChannelSteps.{ChannelSteps}
use Rattle.frame_store.specs.Coded.{AreCoded}
use Rattle.frame_store.specs.Pairs.{all_pairs}
use Rattle.frame_store.proofs.Laid.{same-at}
use Rattle.frame_store.proofs.Spelled.{spelled-length, symbols-length}
use Rattle.frame_store.proofs.measure.spelling_lengths.Goals as goal

pub returns-then-group-eq1-clause-lengths : goal.returns-then-group-eq1-clause-lengths
returns-then-group-eq1-clause-lengths c = λ lane other lt.
    let f = c.args.predictions.now.channels in
    let sound = c.args.predictions.now.sound in
    let group = c.args.group.now in
    let P = get_or group 0 other in
    let none : lane ≡ 0 = omega (arith, c.if-group-eq1.true) in
    let some : 0 < length group = c.requires.some in
    let one = c.index-group-0.is ∙ get_or_default group 0 c.index-group-0.result other some in
    let two = c.index-group-0-then-group-eq1.is ∙ get_or_default group 0 c.index-group-0-then-group-eq1.result other some in
    let xs = c.lay_out.new.symbols in
    let is : all_pairs P xs ≡ symbols f P sound false = subst (λ Q. all_pairs Q xs ≡ symbols f Q sound false) one c.lay_out.ensures.symbols in
    let length_is = c.spelling_length.ensures ∙ ap (λ Q. (length (header_spelling Q) + length (code_spelling (all_pairs Q xs)) + 7) / 8) two in
    same-at 8 c.spelling_length.result lane (omega arith) ∙ length_is ∙ sym (spelled-length f P sound xs is)
    ∙ ap (λ l. length (spell f (get_or group l other) sound)) (sym none)

-- the candidates that are handed on are as many as there are, and each is coded
front-coded : (group : List Params) (lanes : List (List ChannelSteps)) {rows : List Predicted} {n m : ℕ} → m ≡ n → length group ≤ length lanes →
    ((lane : ℕ) (other : Params) → lane < length group → AreCoded (get_or group lane other) rows (get_or lanes lane []) n) →
    (length (take (length group) lanes) ≡ length group)
    × ((lane : ℕ) (other : Params) → lane < length group → AreCoded (get_or group lane other) rows (get_or (take (length group) lanes) lane []) m)
front-coded group lanes {rows} e few coded = (
  length-take-le (length group) lanes few,
  λ lane other lt. subst₂ (AreCoded (get_or group lane other) rows) (sym (get_or-take (length group) lanes lane [] lt)) (sym e) (coded lane other lt),
)

pub returns-clause-lengths : goal.returns-clause-lengths
returns-clause-lengths c = λ lane other lt.
    let f = c.args.predictions.now.channels in
    let sound = c.args.predictions.now.sound in
    let P = get_or c.args.group.now lane other in
    let e = c.code_group-reserved.ensures in
    let front = front-coded c.args.group.now c.code_group-reserved.new.lanes (ap (λ g. g.channels) e.channels)
    (omega (arith, c.requires.few, c.code_group-reserved.array_long)) e.coded in
    let code = c.code_lengths-codes.ensures.lengths lane P (omega (arith, front.0, lt)) (e.reserved lane other lt) (front.1 lane other lt) in
    c.loop-lane.invariant.lengths lane other (omega (arith, c.loop-lane-test.false))
    ∙ ap (λ n. (length (header_spelling P) + n + 7) / 8) (code ∙ ap₂ (λ g s. length (code_spelling (symbols g P s false)))
    (e.channels ∙ c.release.ensures.channels) (e.sound ∙ c.release.ensures.sound))
    ∙ sym (symbols-length f P sound)

pub code_lengths-codes-requires-clause-rows : goal.code_lengths-codes-requires-clause-rows
code_lengths-codes-requires-clause-rows c = λ lane place other lt h.
    let e = c.code_group-reserved.ensures in
    let front = front-coded c.args.group.now c.code_group-reserved.new.lanes (ap (λ g. g.channels) e.channels)
    (omega (arith, c.requires.few, c.code_group-reserved.array_long)) e.coded in
    let coded = front.1 lane (record { filter_map = []; prob_map = []; half_prob = []; filters = []; probs = [] }) (omega (arith, front.0, lt)) in
    (coded.each place other h).inside
