-- The frames so far have the chances of their next samples, and the other chances are as they were.
use Rattle.std.proofs.Common.{◌≡◌, ℕ, ◌+◌, ◌<◌, ◌≤◌, length, get_or}
use Rattle.byte_predictor.specs.Eight.{ahead_at}
use Rattle.dst_frames.specs.Batch.{IsChanceOf}
use Rattle.dst_frames.specs.Eight.{entry_in, table_at}
use Rattle.dst_frames.proofs.OneOfEight.{TellsNext}
use Rattle.dst_frames.proofs.eight.EightStates.take.Given as goal

abbrev pub invariant-loop-n : goal.invariant-loop-n
invariant-loop-n l = record {
  many : length l.self.chances ≡ 8;
  ahead : l.self.ahead ≡ l.initial.self.ahead;
  tells : (m : ℕ) → m < l.n →
      TellsNext (l.place + 1) (table_at l.tables l.from m) (ahead_at l.initial.self.ahead m) (get_or l.self.chances m 0);
  chance : (m : ℕ) → m < l.n → IsChanceOf (entry_in (get_or l.self.chances m 0)) (get_or l.self.chances m 0);
  left : (m : ℕ) → l.n ≤ m → get_or l.self.chances m 0 ≡ get_or l.initial.self.chances m 0;
}
