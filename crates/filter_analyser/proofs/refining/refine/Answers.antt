-- One step more keeps the filter of the lesser size; where no filter comes next, refining ends.
use Rattle.std.proofs.Common.{◌≡◌, ◌+◌, ◌-◌, ◌<◌, ◌≤◌, List, ℤ, Some, None, refl, ap, sym, ◌∙◌, arith}
use Rattle.std.proofs.lemmas.List.FromFn.{length-range_with_len}
use Rattle.std.specs.List.{range_with_len}
use Rattle.level_spec.specs.Correlation.{correlations}
use Rattle.level_spec.specs.Recursion.{lag}
use Rattle.level_spec.specs.Rows.{rows}
use Rattle.level_spec.specs.Refining.{Refined, next_filter, filter_size, refine, refined_from}
use Rattle.filter_analyser.proofs.Stepped.{AreCounts, counted-same, size-is, refine-copied, refine-ended, refine-moved, refine-stopped}
use Rattle.filter_analyser.proofs.Shares.{first-held}
use Rattle.filter_analyser.proofs.refining.refine.Goals as goal
use Rattle.filter_analyser.proofs.refining.refine.Goals.{then-size-least, else-size-least, else-loop-step-test, then-loop-step-test+in_default}

pub loop-step-init : goal.loop-step-init
loop-step-init c =
    let f = c.args.channels in
    let sound = c.args.predictions.now.sound in
    let members = range_with_len c.args.members.first c.args.members.count in
    let first = c.args.first.now in
    let counted = c.count_members-counts.ensures in
    record {
      whole = refine-copied (next_filter f sound members) (filter_size f sound members) c.args.steps first c.copy-best.result c.copy-last.result
          c.copy-best.ensures
          c.copy-last.ensures;
      counts = λ q h. counted.counts q h ∙ counted-same f sound sound members first c.copy-last.result q refl (sym c.copy-last.ensures);
      most = counted.most;
      least = c.size_of-least.ensures
          ∙ size-is f sound members first c.count_members-counts.result c.args.members.count counted.counts
          (sym (length-range_with_len c.args.members.first c.args.members.count))
          ∙ ap (filter_size f sound members) (sym c.copy-best.ensures);
      sound = counted.sound;
      channels = counted.channels ∙ c.requires.channels;
    }

pub size_of-least-requires-clause-counts : goal.size_of-least-requires-clause-counts
size_of-least-requires-clause-counts c = λ q. omega (arith, c.count_members-counts.ensures.most q)

pub next_filter-requires-clause-channels : goal.next_filter-requires-clause-channels
next_filter-requires-clause-channels c = c.loop-step.invariant.channels

pub next_filter-requires-clause-r0 : goal.next_filter-requires-clause-r0
next_filter-requires-clause-r0 c =
    let members = c.args.members in
    (first-held c.args.channels c.args.predictions.now.sound members.first members.count c.args.r0 c.count_members-counts.ensures.shape c.requires.some
    c.requires.within c.requires.r0).0
    ∙ c.requires.r0
    ∙ ap (λ s. lag (correlations c.args.channels s (range_with_len members.first members.count)) 0) (sym c.loop-step.invariant.sound)

pub next_filter-requires-clause-rows : goal.next_filter-requires-clause-rows
next_filter-requires-clause-rows c = c.requires.rows
    ∙ ap (λ s. rows (correlations c.args.channels s (range_with_len c.args.members.first c.args.members.count)) 128) (sym c.loop-step.invariant.sound)

pub next_filter-requires-clause-counts : goal.next_filter-requires-clause-counts
next_filter-requires-clause-counts c = λ q h.
    c.loop-step.invariant.counts q h
    ∙ counted-same c.args.channels _ _ (range_with_len c.args.members.first c.args.members.count) c.loop-step.last c.loop-step.last q
    (sym c.loop-step.invariant.sound) refl

pub next_filter-requires-clause-few : goal.next_filter-requires-clause-few
next_filter-requires-clause-few c = c.loop-step.invariant.most

pub size_of-size-requires-clause-counts : goal.size_of-size-requires-clause-counts
size_of-size-requires-clause-counts c = λ q. omega (arith, c.count_members-counts-in-loop-step.ensures.most q)

pub loop-step-preserved : goal.loop-step-preserved
loop-step-preserved c =
    let f = c.args.channels in
    let sound = c.args.predictions.now.sound in
    let members = range_with_len c.args.members.first c.args.members.count in
    let next = next_filter f sound members in
    let sizes = filter_size f sound members in
    let end = refine next sizes c.args.steps (record { best = c.args.first.now; last = c.args.first.now }) in
    let q = c.in-Some.next in
    let left = c.args.steps - (c.loop-step._step + 1) in
    let counts = c.count_members-counts-in-loop-step in
    let heard : c.next_filter.new.predictions.sound ≡ sound = c.next_filter.ensures.sound ∙ c.loop-step.invariant.sound in
    let taken : next c.loop-step.last ≡ Some q =
    ap (λ s. next_filter f s members c.loop-step.last) (sym c.loop-step.invariant.sound) ∙ c.in-Some.ensures.some in
    let one : c.args.steps - c.loop-step._step ≡ left + 1 = omega (arith, c.loop-step-test.true) in
    let counted : AreCounts f sound members q counts.result = λ p h.
    counts.ensures.counts p h ∙ counted-same f c.next_filter.new.predictions.sound sound members q q p heard refl in
    let size : c.size_of-size.result ≡ sizes q = c.size_of-size.ensures ∙ size-is f sound members q counts.result c.args.members.count counted
    (sym (length-range_with_len c.args.members.first c.args.members.count)) in
    let chosen = refine-moved next sizes (c.args.steps - c.loop-step._step) left c.loop-step.best c.loop-step.last q end one taken
    c.loop-step.invariant.whole in
    let parts : (refine next sizes left (record { best = c.if-size-least.best; last = q }) ≡ end) × (c.if-size-least.least ≡ sizes c.if-size-least.best) =
    elim c.if-size-least.branch [
      | then-size-least w ↦
          let is : c.if-size-least.best ≡ q = w.best-is ∙ w.copy-best-then-size-least.ensures in
          let less : sizes q < sizes c.loop-step.best = omega (arith, w.if-size-least.true, size, c.loop-step.invariant.least) in
          (ap (λ b. refine next sizes left (record { best = b; last = q })) is ∙ chosen.0 less, w.least-is ∙ size ∙ ap sizes (sym is))
      | else-size-least w ↦
          let more : sizes c.loop-step.best ≤ sizes q = omega (arith, w.if-size-least.false, size, c.loop-step.invariant.least) in (
            ap (λ b. refine next sizes left (record { best = b; last = q })) w.best-is ∙ chosen.1 more,
            w.least-is ∙ c.loop-step.invariant.least
                ∙ ap sizes (sym w.best-is),
          )
    ] in
    record {
      whole = parts.0;
      counts = counted;
      most = counts.ensures.most;
      least = parts.1;
      sound = counts.ensures.sound ∙ heard;
      channels = counts.ensures.channels ∙ c.next_filter.ensures.channels ∙ c.loop-step.invariant.channels;
    }

pub returns : goal.returns
unfolding refined_from
returns c =
    let next = next_filter c.args.channels c.args.predictions.now.sound (range_with_len c.args.members.first c.args.members.count) in
    let sizes = filter_size c.args.channels c.args.predictions.now.sound (range_with_len c.args.members.first c.args.members.count) in
    let left = c.args.steps - c.loop-step._step in
    let pair : List ℤ → List ℤ → Refined = λ b l. record { best = b; last = l } in
    let end = refine next sizes c.args.steps (pair c.args.first.now c.args.first.now) in
    let pieces : (pair c.loop-step.best c.loop-step.last ≡ end) × (c.loop-step-test.predictions.sound ≡ c.args.predictions.now.sound)
    × (c.loop-step-test.predictions.channels ≡ c.args.predictions.now.channels) = elim c.loop-step-test.branch [
      | else-loop-step-test w ↦
          let none : left ≡ 0 = omega (arith, w.loop-step-test.false) in (
            refine-ended next sizes left (pair c.loop-step.best c.loop-step.last) end none c.loop-step.invariant.whole,
            ap (λ p. p.sound) w.predictions-is ∙ c.loop-step.invariant.sound,
            ap (λ p. p.channels) w.predictions-is ∙ c.loop-step.invariant.channels ∙ sym c.requires.channels,
          )
      | then-loop-step-test+in_default w ↦
          let ends : next c.loop-step.last ≡ None =
          ap (λ s. next_filter c.args.channels s (range_with_len c.args.members.first c.args.members.count) c.loop-step.last)
          (sym c.loop-step.invariant.sound) ∙ w.in_default.ensures.none in (
            refine-stopped next sizes left (pair c.loop-step.best c.loop-step.last) end ends c.loop-step.invariant.whole,
            ap (λ p. p.sound) w.predictions-is ∙ w.next_filter.ensures.sound ∙ c.loop-step.invariant.sound,
            ap (λ p. p.channels) w.predictions-is ∙ w.next_filter.ensures.channels ∙ c.loop-step.invariant.channels ∙ sym c.requires.channels,
          )
    ] in
    record { best = ap (λ r. r.best) pieces.0; last = ap (λ r. r.last) pieces.0; sound = pieces.1; channels = pieces.2 }
