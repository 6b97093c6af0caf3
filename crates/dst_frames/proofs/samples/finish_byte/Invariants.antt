-- The channels so far have given out their newest samples and added them, and the others are untouched.
use Rattle.std.proofs.Common.{◌≡◌, ℕ, ◌/◌, ◌%◌, ◌^◌, ◌<◌, ◌≤◌, ℤ, List, get_or}
use Rattle.dst_frames.specs.Ready.{IsReady}
use Rattle.dst_frames.specs.declared.state.ChannelState.{ChannelState}
use Rattle.dst_frames.specs.declared.tables.ChannelTables.{ChannelTables}
use Rattle.dst_frames.proofs.samples.finish_byte.Given as goal

abbrev pub invariant-loop-c : goal.invariant-loop-c
invariant-loop-c l = record {
  newest : (c : ℕ) (other : ChannelState) (filter : List ℤ) (probs samples : List ℕ) (place : ℕ) → c < l.c →
      IsReady filter probs place samples (get_or l.initial.states c other)
      → (k : ℕ) → k < 8 → get_or l.out c 0 / 2 ^ k % 2 ≡ get_or samples k 0;
  added : (c : ℕ) (table : ChannelTables) (other : ChannelState) (probs samples : List ℕ) → c < l.c
      → IsReady (get_or l.tables c table).filter probs 8 samples (get_or l.initial.states c other) →
      IsReady (get_or l.tables c table).filter probs 0 samples (get_or l.states c other);
  next : (c : ℕ) (other : ChannelState) → (get_or l.states c other).next ≡ (get_or l.initial.states c other).next;
  left : (c : ℕ) (other : ChannelState) → l.c ≤ c → get_or l.states c other ≡ get_or l.initial.states c other;
}
