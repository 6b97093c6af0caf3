-- All sums below the place of the loop have the entries of their predictions.
use Rattle.byte_predictor.specs.Upward.{size_sum}
use Rattle.dst_frames.proofs.Entries.{HasFirst}
use Rattle.dst_frames.proofs.fill.fill_entries.Given as goal

abbrev pub invariant-loop-below : goal.invariant-loop-below
invariant-loop-below l = HasFirst l.entries l.probs (size_sum l.filter) l.below

abbrev pub invariant-loop-upward : goal.invariant-loop-upward
invariant-loop-upward l = HasFirst l.entries l.probs (size_sum l.filter) l.upward

abbrev pub invariant-loop-above : goal.invariant-loop-above
invariant-loop-above l = HasFirst l.entries l.probs (size_sum l.filter) l.above
