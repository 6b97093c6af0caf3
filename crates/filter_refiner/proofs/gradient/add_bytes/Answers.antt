-- One byte more adds its eight samples, each of at most 255, to the cells of the half bytes before it.
use Rattle.std.proofs.Common.{◌≡◌, ◌+◌, ◌*◌, ℕ, pos, ◌+ℤ◌, nat_abs, [], get_or, inl, inr}
use Rattle.std.proofs.Common.{ap, sym, ◌∙◌, arith}
use Rattle.std.proofs.lemmas.Int.{ints}
use Rattle.std.proofs.lemmas.Bool.{cases_lt}
use Rattle.std.proofs.lemmas.List.{get_or_past}
use Rattle.level_spec.specs.Correlation.{sum_over}
use Rattle.filter_refiner.specs.Cells.{weighted, taken, in_cell}
use Rattle.filter_refiner.proofs.Numbers.{sum_over-next}
use Rattle.filter_refiner.proofs.Celled.{taken-most}
use Rattle.filter_refiner.proofs.gradient.add_bytes.Goals as goal

pub loop-place-init : goal.loop-place-init
unfolding sum_over
loop-place-init c = record {
  long = c.told-cells;
  cells = λ cell lane h k. c.requires.zeros cell lane;
  most = λ cell lane. omega (arith, ap nat_abs (c.requires.zeros cell lane));
}

pub add_samples-requires-clause-cells : goal.add_samples-requires-clause-cells
add_samples-requires-clause-cells c = λ cell lane. omega (arith, c.loop-place.invariant.most cell lane, c.requires.count)

pub loop-place-preserved : goal.loop-place-preserved
loop-place-preserved c =
    let m = c.loop-place.place in
    let bytes = c.args.bytes.now in
    let W = λ (m lane : ℕ). weighted bytes c.args.codes.now c.args.weights.now c.args.first (8 * m + lane) in
    let samples = c.weighted_samples-samples.result in
    record {
      long = c.add_samples.ensures.long;
      cells = λ cell lane inside near.
          let F = λ (m : ℕ). taken bytes m cell (W m lane) in
          c.add_samples.ensures.cells cell lane inside
          ∙ ap (λ z. z +ℤ taken bytes m cell (get_or samples lane (pos 0))) (c.loop-place.invariant.cells cell lane inside near)
          ∙ ap (λ e. sum_over F 0 m +ℤ taken bytes m cell e) (c.weighted_samples-samples.ensures.samples lane near)
          ∙ sym (sum_over-next F 0 m ∙ (let z : 0 + m ≡ m = omega arith in ap (λ k. sum_over F 0 m +ℤ F k) z));
      most = λ cell lane. elim (cases_lt cell 544) [
        | inl inside ↦
            let before = c.loop-place.invariant.most cell lane in
            let more = taken-most bytes m cell 255 (get_or samples lane (pos 0)) (c.weighted_samples-samples.ensures.small lane) in
            rw (c.add_samples.ensures.cells cell lane inside) (omega (arith, ints))
        | inr past ↦
            let none : in_cell c.add_samples.new.cells cell lane ≡ pos 0 =
            ap (λ xs. get_or xs lane (pos 0)) (get_or_past c.add_samples.new.cells cell [] (omega (arith, c.add_samples.ensures.long))) in
            omega (arith, ap nat_abs none)
      ];
    }
