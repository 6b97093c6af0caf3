-- The channels so far have their tables, and states that are ready for the first sample.
use Rattle.std.proofs.Common.{ℕ, ◌<◌, false, get_or, replicate}
use Rattle.dst_spec.specs.Guess.{filter_of, probs_of}
use Rattle.byte_predictor.specs.Samples.{samples_of}
use Rattle.dst_frames.specs.Ready.{IsReady}
use Rattle.dst_frames.specs.declared.state.ChannelState.{ChannelState}
use Rattle.dst_frames.specs.Tables.{IsBuilt}
use Rattle.dst_frames.specs.declared.tables.ChannelTables.{ChannelTables}
use Rattle.dst_frames.proofs.code.build_all.Given as goal

abbrev pub invariant-loop-c : goal.invariant-loop-c
invariant-loop-c l = record {
  built : (c : ℕ) (other : ChannelTables) → c < l.c → IsBuilt (filter_of l.params c) (probs_of l.params c) (get_or l.params.half_prob c false)
      (get_or l.tables c other);
  fresh : (c : ℕ) (other : ChannelState) → c < l.c → IsReady (filter_of l.params c) (probs_of l.params c) 0 (samples_of (replicate 16 170))
      (get_or l.states c other);
}
