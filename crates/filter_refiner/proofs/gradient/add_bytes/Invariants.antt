-- Each cell has what it takes of the bytes so far, at most 255 of each.
use Rattle.std.proofs.Common.{◌≡◌, ℕ, ◌+◌, ◌*◌, ◌<◌, ◌≤◌, nat_abs, length}
use Rattle.level_spec.specs.Correlation.{sum_over}
use Rattle.filter_refiner.specs.Cells.{weighted, taken, in_cell}
use Rattle.filter_refiner.proofs.gradient.add_bytes.Given as goal

abbrev pub invariant-loop-place : goal.invariant-loop-place
invariant-loop-place l = record {
  long : length l.cells ≡ 544;
  cells : (cell lane : ℕ) → cell < 544 → lane < 8 → in_cell l.cells cell lane
      ≡ sum_over (λ m. taken l.bytes m cell (weighted l.bytes l.codes l.weights l.first (8 * m + lane))) 0 l.place;
  most : (cell lane : ℕ) → nat_abs (in_cell l.cells cell lane) ≤ 255 * l.place;
}
