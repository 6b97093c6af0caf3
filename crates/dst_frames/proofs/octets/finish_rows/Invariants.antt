-- The channels so far have given out their newest samples and added them, and the others are untouched.
use Rattle.std.proofs.Common.{◌≡◌, ◌≢◌, ℕ, ◌/◌, ◌%◌, ◌^◌, ◌<◌, ◌≤◌, ℤ, List, get_or}
use Rattle.dst_frames.specs.Ready.{IsReady}
use Rattle.dst_frames.specs.Eight.{states_at, tables_at}
use Rattle.dst_frames.specs.declared.state.ChannelState.{ChannelState}
use Rattle.dst_frames.specs.declared.tables.ChannelTables.{ChannelTables}
use Rattle.dst_frames.specs.declared.eight.EightStates.{EightStates}
use Rattle.dst_frames.proofs.octets.finish_rows.Given as goal

abbrev pub invariant-loop-c : goal.invariant-loop-c
invariant-loop-c l = record {
  newest : (c : ℕ) (other : ChannelState) (filter : List ℤ) (probs samples : List ℕ) (place : ℕ) → c < l.c →
      IsReady filter probs place samples (get_or (states_at l.initial.rows l.n) c other)
      → (k : ℕ) → k < 8 → get_or l.out c 0 / 2 ^ k % 2 ≡ get_or samples k 0;
  added : (c : ℕ) (table : ChannelTables) (other : ChannelState) (probs samples : List ℕ) → c < l.c
      → IsReady (get_or (tables_at l.tables l.numbers l.n) c table).filter probs 8 samples (get_or (states_at l.initial.rows l.n) c other) →
      IsReady (get_or (tables_at l.tables l.numbers l.n) c table).filter probs 0 samples (get_or (states_at l.rows l.n) c other);
  left : (c : ℕ) (row : EightStates) → l.c ≤ c → get_or l.rows c row ≡ get_or l.initial.rows c row;
  others : (m : ℕ) → m ≢ l.n → states_at l.rows m ≡ states_at l.initial.rows m;
  chances : (c : ℕ) (row : EightStates) → (get_or l.rows c row).chances ≡ (get_or l.initial.rows c row).chances;
}
