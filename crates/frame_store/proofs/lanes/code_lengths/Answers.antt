-- The steps of a part are those of its symbols, so each lane measures on from the symbols in front of it.
use Rattle.std.proofs.Common.{◌≡◌, ℕ, pos, ◌+◌, ◌*◌, ◌<◌, ◌≤◌, false, [], ◌∷◌, length, get_or, replicate, ap, sym, subst, ◌∙◌, arith, length-set}
use Rattle.dst_spec.specs.Guess.{filter_of, probs_of, probability, as_guessed}
use Rattle.arith_encoder.specs.Lanes.{IsStep}
use Rattle.dst_spec.specs.Symbols.{reserved_probability, symbols, symbols_before}
use Rattle.dst_spec.proofs.SymbolsBefore.{no_symbols, all_symbols}
use Rattle.std.proofs.lemmas.List.{length-map}
use Rattle.frame_predictions.specs.Codes.{code_at}
use Rattle.frame_store.specs.declared.coded.ChannelSteps.{ChannelSteps}
use Rattle.frame_store.specs.Measured.{IsMeasured}
use Rattle.frame_store.proofs.Laid.{measured-more, none-measured, all-measured, first-step, same-at_most, same-at}
use Rattle.frame_store.proofs.Placed.{Tells}
use Rattle.frame_store.proofs.Runs.{symbols_from, symbols-more, part-steps, step-is}
use Rattle.frame_store.proofs.lanes.code_lengths.Goals as goal

pub loop-from-init : goal.loop-from-init
loop-from-init c = record {
  inside = omega arith;
  room = length-set c.args.steps.now 0 c.args.reserved.now;
  few = λ lane. omega (arith, c.add_each.ensures.most lane, same-at_most 8 13 lane);
  measured = λ lane P lt is coded.
      let p = reserved_probability P in
      let eight : lane < 8 = omega (arith, c.requires.few) in
      let none = none-measured (get_or (replicate 8 4095) lane 0) (get_or (replicate 8 13) lane 0) (same-at 8 4095 lane eight) (same-at 8 13 lane eight) in
      let some : 0 < length c.args.steps.now = omega (arith, c.requires.some) in
      let leaves = c.narrow_lanes-doublings.ensures lane ((false, p) ∷ []) eight (first-step lane p c.args.steps.now c.args.reserved.now some is)
      none.in_range in
      subst (λ pairs. IsMeasured pairs (get_or c.narrow_lanes-doublings.new.ranges lane 0) (get_or c.add_each.new.totals lane 0))
      (sym (no_symbols c.args.predictions.now.channels P c.args.predictions.now.sound false))
      (measured-more [] ((false, p) ∷ []) (get_or (replicate 8 4095) lane 0) (get_or (replicate 8 13) lane 0)
      (get_or c.narrow_lanes-doublings.new.ranges lane 0)
      (get_or c.narrow_lanes-doublings.result lane 0) (get_or c.add_each.new.totals lane 0) none leaves (c.add_each.ensures.added lane eight));
}

pub loop-from-preserved : goal.loop-from-preserved
loop-from-preserved c =
    let v = c.loop-from.invariant in
    let f = c.args.predictions.now.channels in
    let sound = c.args.predictions.now.sound in
    let from = c.loop-from.from in
    let count = c.part_samples-count.result in
    let part = c.part_samples-count.ensures in
    let channels : c.count-channels.result ≡ f.channels = c.count-channels.ensures.count ∙ ap (λ g. g.channels) c.channels.ensures in
    let whole : 37632 * c.multiple.result ≡ 8 * f.octets = omega (arith, c.multiple.ensures.multiple, ap (λ g. g.octets) c.channels-2.ensures) in
    let least : 0 < f.channels = omega (arith, channels, c.count-channels.ensures.shape.least, c.count-channels.ensures.count) in
    let inside : from + count ≤ 37632 * c.multiple.result = omega (arith, part.inside, v.inside, c.loop-from-test.true) in
    record {
      inside = inside;
      room = c.fill_part.ensures.long ∙ v.room;
      few = λ lane. omega (arith, c.add_each-in-loop-from.ensures.most lane, v.few lane, part.some);
      measured = λ lane P lt is coded.
          let old = v.measured lane P lt is coded in
          let eight : lane < 8 = omega (arith, c.requires.few) in
          let none : ChannelSteps = record { row = 0; early = 0; later = [] } in
          let each : (t place : ℕ) → t < count → place < f.channels → IsStep (as_guessed f P sound place (from + t)) (probability f P sound place (from + t))
          (get_or (get_or c.fill_part.new.steps (t * f.channels + place) []) lane 0) = λ t place h k.
          let one = get_or (get_or c.args.lanes.now lane []) place none in
          let is_coded = coded.each place none k in
          let code = code_at f sound place (filter_of P place) (from + t) in
          let table = is_coded.table in
          let entries = length-map (probs_of P place) (λ x. pos x) in
          let some : 1 ≤ length (probs_of P place) = omega (arith, table.least, entries) in
          let few : length (probs_of P place) ≤ 64 = omega (arith, table.most, entries) in
          let tells : Tells f P sound place (from + t) code = record {
            guess = c.code_tells.ensures.guess f P sound place (from + t);
            probability_is = c.code_tells.ensures.probability f P sound place (from + t) some few;
          } in
          let filled = c.fill_part.ensures.here lane t place none lt h k in
          subst (IsStep (as_guessed f P sound place (from + t)) (probability f P sound place (from + t))) (sym filled)
          (step-is f P sound c.args.predictions.now.rows c.steps_of_codes-first.result one place (from + t) code is_coded c.steps_of_codes-first.ensures
          (c.code_tells.ensures.small f sound place (filter_of P place) (from + t))
          (c.row_of_codes.ensures.each f sound place (filter_of P place) (from + t) (omega (arith, h, inside, whole))) tells) in
          let symbols = symbols_from f P sound from count in
          let steps = part-steps lane c.fill_part.new.steps f P sound from count (count * c.count-channels.result)
          (ap (λ w. count * w) channels) least (omega (arith, part.room, c.fill_part.ensures.long)) each in
          let leaves = c.narrow_lanes-more.ensures lane symbols eight steps old.in_range in
          subst (λ pairs. IsMeasured pairs (get_or c.narrow_lanes-more.new.ranges lane 0) (get_or c.add_each-in-loop-from.new.totals lane 0))
          (sym (symbols-more f P sound false from count))
          (measured-more (symbols_before f P sound false from) symbols (get_or c.loop-from.ranges lane 0) (get_or c.loop-from.totals lane 0)
          (get_or c.narrow_lanes-more.new.ranges lane 0) (get_or c.narrow_lanes-more.result lane 0) (get_or c.add_each-in-loop-from.new.totals lane 0)
          old leaves (c.add_each-in-loop-from.ensures.added lane eight));
    }

pub returns-clause-lengths : goal.returns-clause-lengths
returns-clause-lengths c = λ lane P lt is coded.
    let f = c.args.predictions.now.channels in
    let sound = c.args.predictions.now.sound in
    let whole : 37632 * c.multiple.result ≡ 8 * f.octets = omega (arith, c.multiple.ensures.multiple, ap (λ g. g.octets) c.channels-2.ensures) in
    let all : c.loop-from.from ≡ 8 * f.octets = omega (arith, whole, c.loop-from.invariant.inside, c.loop-from-test.false) in
    all-measured (symbols f P sound false) (get_or c.loop-from.ranges lane 0) (get_or c.loop-from.totals lane 0)
    (subst (λ pairs. IsMeasured pairs (get_or c.loop-from.ranges lane 0) (get_or c.loop-from.totals lane 0))
    (ap (symbols_before f P sound false) all ∙ all_symbols f P sound false) (c.loop-from.invariant.measured lane P lt is coded))
