-- The frames so far have the probability 128 where their sample is early, and the other chances are untouched.
use Rattle.std.proofs.Common.{◌≡◌, ℕ, ◌/◌, ◌%◌, ◌<◌, ◌≤◌, nat_lt, if◌then◌else◌, length, get_or}
use Rattle.arith_lanes.specs.Chances.{IsChance}
use Rattle.dst_frames.specs.Eight.{table_at}
use Rattle.dst_frames.proofs.eight.early_chances.Given as goal

abbrev pub invariant-loop-n : goal.invariant-loop-n
invariant-loop-n l = record {
  many : length l.early ≡ 8;
  early : (m p : ℕ) → m < l.n → IsChance p (get_or l.chances m 0) →
      IsChance (if nat_lt l.t (table_at l.tables l.from m).early then 128 else p) (get_or l.early m 0);
  mark : (m : ℕ) → m < l.n → get_or l.early m 0 / 128 % 2 ≡ get_or l.chances m 0 / 128 % 2;
  left : (m : ℕ) → l.n ≤ m → get_or l.early m 0 ≡ get_or l.chances m 0;
}
