-- The values so far have grown by the rows so far, those behind are 0, and no growth was above 2 ^ 62.
use Rattle.std.proofs.Common.{◌≡◌, ℕ, ◌*◌, ◌^◌, ◌<◌, ◌≤◌, pos, nat_abs, length, get_or}
use Rattle.level_spec.specs.Solving.{growth}
use Rattle.filter_refiner.proofs.Solved.{grown_by}
use Rattle.filter_refiner.proofs.solving.solve.Given as goal

abbrev pub invariant-loop-place : goal.invariant-loop-place
invariant-loop-place l = record {
  long : length l.grown ≡ 128;
  known : (k : ℕ) → k < l.place → get_or l.grown k (pos 0) ≡ grown_by l.rows l.wanted l.place k;
  rest : (k : ℕ) → l.place ≤ k → get_or l.grown k (pos 0) ≡ pos 0;
  most : (k : ℕ) → nat_abs (get_or l.grown k (pos 0)) ≤ l.place * 2 ^ 70;
  solved : (k : ℕ) → k < l.place → nat_abs (growth l.rows l.wanted k) ≤ 2 ^ 62;
}
