-- The channels so far have their tables and first chances, and those of the frames before are untouched.
use Rattle.std.proofs.Common.{◌≡◌, ◌≢◌, ℕ, ◌<◌, false, length, get_or, replicate}
use Rattle.dst_spec.specs.Guess.{filter_of, probs_of}
use Rattle.byte_predictor.specs.Samples.{samples_of}
use Rattle.dst_frames.specs.Tables.{IsBuilt}
use Rattle.dst_frames.specs.Ready.{IsReady}
use Rattle.dst_frames.specs.Eight.{state_in, states_at, table_at, tables_in}
use Rattle.dst_frames.specs.Batch.{IsChanceOf}
use Rattle.dst_frames.specs.Running.{IsPool, AreTaken, AreChances}
use Rattle.dst_frames.specs.declared.state.ChannelState.{ChannelState}
use Rattle.dst_frames.specs.declared.eight.TableNumbers.{TableNumbers}
use Rattle.dst_frames.specs.declared.eight.EightStates.{EightStates}
use Rattle.dst_frames.proofs.batch.build_all_in.Given as goal

abbrev pub invariant-loop-c : goal.invariant-loop-c
invariant-loop-c l = record {
  built : (d : ℕ) (other : TableNumbers) → d < l.c → IsBuilt (filter_of l.params d) (probs_of l.params d) (get_or l.params.half_prob d false)
      (table_at l.eight.tables.items (get_or l.eight.numbers.items d other).of l.n);
  fresh : (d : ℕ) (other : ChannelState) → d < l.c →
      IsReady (filter_of l.params d) (probs_of l.params d) 0 (samples_of (replicate 16 170)) (get_or (states_at l.rows l.n) d other);
  chance : (d : ℕ) (row : EightStates) → d < l.c → IsChanceOf (state_in (get_or l.rows d row) l.n).next (get_or (get_or l.rows d row).chances l.n 0);
  chances : AreChances l.rows l.n;
  tables : (m : ℕ) → m < l.n → tables_in l.eight m ≡ tables_in l.initial.eight m;
  states : (m : ℕ) → m ≢ l.n → states_at l.rows m ≡ states_at l.initial.rows m;
  eight : IsPool l.eight (length l.initial.rows);
  taken : AreTaken l.eight l.n l.c;
}
