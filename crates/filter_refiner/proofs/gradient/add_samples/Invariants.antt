-- The cells of the half bytes so far have taken the samples, and those to come are as at first.
use Rattle.std.proofs.Common.{◌≡◌, ℕ, ◌*◌, ◌<◌, ◌≤◌, pos, ◌+ℤ◌, length, get_or}
use Rattle.filter_refiner.specs.Cells.{taken, in_cell}
use Rattle.filter_refiner.proofs.gradient.add_samples.Given as goal

abbrev pub invariant-loop-back : goal.invariant-loop-back
invariant-loop-back l = record {
  long : length l.cells ≡ 544;
  done : (cell lane : ℕ) → cell < 16 * l.back → in_cell l.cells cell lane
      ≡ in_cell l.initial.cells cell lane +ℤ taken l.bytes l.place cell (get_or l.samples lane (pos 0));
  rest : (cell lane : ℕ) → 16 * l.back ≤ cell → in_cell l.cells cell lane ≡ in_cell l.initial.cells cell lane;
}
