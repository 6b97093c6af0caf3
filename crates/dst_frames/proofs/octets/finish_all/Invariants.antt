-- The frames so far have given out their bytes, those behind are untouched, and all chances stay.
use Rattle.std.proofs.Common.{◌≡◌, ℕ, ◌<◌, ◌≤◌, length, get_or}
use Rattle.dst_frames.specs.Eight.{states_at, tables_at}
use Rattle.dst_frames.specs.Running.{FinishesSound}
use Rattle.dst_frames.specs.declared.eight.EightStates.{EightStates}
use Rattle.dst_frames.specs.declared.stored.DecodedFrame.{DecodedFrame}
use Rattle.dst_frames.proofs.octets.finish_all.Given as goal

abbrev pub invariant-loop-n : goal.invariant-loop-n
invariant-loop-n l = record {
  done : (m : ℕ) (frame : DecodedFrame) → m < l.n →
      FinishesSound l.byte (length l.initial.rows) (tables_at l.tables l.numbers m) (states_at l.initial.rows m) (states_at l.rows m)
      (get_or l.initial.heard m frame).sound.items (get_or l.heard m frame).sound.items;
  rows_left : (m : ℕ) → l.n ≤ m → states_at l.rows m ≡ states_at l.initial.rows m;
  heard_left : (m : ℕ) (frame : DecodedFrame) → l.n ≤ m → get_or l.heard m frame ≡ get_or l.initial.heard m frame;
  chances : (c : ℕ) (row : EightStates) → (get_or l.rows c row).chances ≡ (get_or l.initial.rows c row).chances;
}
