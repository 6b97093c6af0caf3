-- A candidate that is shorter than the least is the choice now, and one that isn't leaves it.
use Rattle.std.proofs.Common.{◌≡◌, ◌+◌, ◌<◌, [], length, get_or, ap, sym, subst, subst₂, arith}
use Rattle.std.proofs.lemmas.List.{get_or_default}
use Rattle.dst_spec.specs.Header.{Params}
use Rattle.frame_store.specs.Choosing.{IsChosen}
use Rattle.frame_store.proofs.Spelled.{chosen-new, chosen-old}
use Rattle.frame_store.proofs.store.choose.Goals as goal
use Rattle.frame_store.proofs.store.choose.Goals.{then-length-choice, else-length-choice}

pub loop-lane-preserved : goal.loop-lane-preserved
loop-lane-preserved c =
    let old = c.loop-lane.choice in
    let new = c.if-length-choice.choice in
    let lane = c.loop-lane.lane in
    let v = c.loop-lane.invariant in
    let few = v.fits in
    record {
      fits = elim c.if-length-choice.branch [
        | then-length-choice w ↦ let is = ap (λ x. x.least) w.choice-is in omega arith
        | else-length-choice w ↦ let is = ap (λ x. x.least) w.choice-is in omega arith
      ];
      chosen = λ f sound found inside lengths start.
          let n = c.args.first + lane in
          let none : Params = record { filter_map = []; prob_map = []; half_prob = []; filters = []; probs = [] } in
          let P = get_or found n none in
          let lt : n < length found = omega arith in
          let at = get_or_default found n none P lt in
          let long = lengths lane none c.loop-lane-test.true in
          let before = v.chosen f sound found inside lengths start in
          let next : n + 1 ≡ c.args.first + (lane + 1) = omega arith in
          subst (λ m. IsChosen f sound found m new.best new.least) next (elim c.if-length-choice.branch [
            | then-length-choice w ↦ subst₂ (λ b l. IsChosen f sound found (n + 1) b l) (sym (ap (λ x. x.best) w.choice-is))
                (sym (ap (λ x. x.least) w.choice-is))
                (chosen-new f sound found n P old.best old.least (get_or c.args.lengths.now lane 0) lt at before long w.if-length-choice.true)
            | else-length-choice w ↦ subst₂ (λ b l. IsChosen f sound found (n + 1) b l) (sym (ap (λ x. x.best) w.choice-is))
                (sym (ap (λ x. x.least) w.choice-is))
                (chosen-old f sound found n P old.best old.least (get_or c.args.lengths.now lane 0) lt at before long w.if-length-choice.false)
          ]);
    }
