-- Of the 16 cells of a half byte the one of its value takes the samples, and the others nothing.
use Rattle.std.proofs.Common.{◌≡◌, ◌≢◌, ◌+◌, ◌*◌, ◌<◌, ◌≤◌, ℕ, ℤ, pos, ◌+ℤ◌, List, get_or, set, inl, inr}
use Rattle.std.proofs.Common.{length-set, ap, ◌∙◌, arith}
use Rattle.std.proofs.lemmas.Bool.{cases_lt}
use Rattle.filter_refiner.specs.Cells.{taken, in_cell}
use Rattle.filter_refiner.proofs.Celled.{after-add, other-cell}
use Rattle.filter_refiner.proofs.gradient.add_samples.Goals as goal

pub loop-back-preserved : goal.loop-back-preserved
loop-back-preserved c =
    let k = c.loop-back.back in
    let at = 16 * k + c.half.result in
    let small = c.half.ensures.small in
    let next : (cell lane : ℕ) → cell < 16 * (k + 1) → 16 * k ≤ cell → in_cell (set c.loop-back.cells at c.add_lanes.new.cell) cell lane
    ≡ in_cell c.loop-back.cells cell lane +ℤ taken c.args.bytes.now c.args.place cell (get_or c.args.samples.now lane (pos 0)) =
    λ cell lane most least. after-add c.loop-back.cells c.args.bytes.now c.args.place k c.half.result cell lane c.add_lanes.new.cell c.args.samples.now
    small c.half.ensures.half (omega (arith, c.loop-back.invariant.long)) most least c.add_lanes.ensures.added in
    record {
      long = omega (arith, length-set {A = List ℤ}, c.loop-back.invariant.long);
      done = λ cell lane h. elim (cases_lt cell (16 * k)) [
        | inl less ↦ let ne : cell ≢ at = omega arith in
            other-cell c.loop-back.cells at cell lane c.add_lanes.new.cell ne ∙ c.loop-back.invariant.done cell lane less
        | inr more ↦ next cell lane h more ∙ ap (λ z. z +ℤ taken c.args.bytes.now c.args.place cell (get_or c.args.samples.now lane (pos 0)))
            (c.loop-back.invariant.rest cell lane more)
      ];
      rest = λ cell lane h.
          let ne : cell ≢ at = omega arith in
          other-cell c.loop-back.cells at cell lane c.add_lanes.new.cell ne ∙ c.loop-back.invariant.rest cell lane (omega arith);
    }

pub add_lanes-requires-clause-cell : goal.add_lanes-requires-clause-cell
add_lanes-requires-clause-cell c = λ lane.
    let at = 16 * c.loop-back.back + c.half.result in
    rw (c.loop-back.invariant.rest at lane (omega arith)) (c.requires.cells at lane)

pub returns-clause-cells : goal.returns-clause-cells
returns-clause-cells c = λ cell lane h. c.loop-back.invariant.done cell lane (omega arith)
