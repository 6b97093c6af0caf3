-- The frames so far have begun in their lanes, and the other lanes are empty.
use Rattle.std.proofs.Common.{◌≡◌, ℕ, ◌<◌, ◌≤◌, [], length, get_or}
use Rattle.arith_lanes.specs.Chances.{IsChance}
use Rattle.arith_lanes.specs.Lanes.{Begins}
use Rattle.dst_frames.specs.Eight.{states_at, tables_in}
use Rattle.dst_frames.specs.Batch.{HasBegun, stored_in}
use Rattle.dst_frames.specs.Running.{IsPool, AreTaken, AreChances}
use Rattle.dst_frames.specs.declared.stored.StoredFrame.{StoredFrame}
use Rattle.dst_frames.proofs.batch.begin_all.Given as goal

abbrev pub invariant-loop-n : goal.invariant-loop-n
invariant-loop-n l = record {
  many : length l.chances ≡ 8;
  begun : (m : ℕ) (frame : StoredFrame) → m < l.n →
      HasBegun l.channels l.lanes m (stored_in (get_or l.frames m frame)) (tables_in l.eight m) (states_at l.rows m) (get_or l.chances m 0);
  empty : (m : ℕ) → l.n ≤ m → m < 8 → Begins l.lanes m [] 0 × IsChance 1 (get_or l.chances m 0);
  eight : IsPool l.eight l.channels.channels;
  taken : AreTaken l.eight l.n 0;
  chances : AreChances l.rows l.n;
}
