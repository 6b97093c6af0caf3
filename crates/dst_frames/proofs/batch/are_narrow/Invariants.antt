-- No channel so far has a filter that gives the greatest of all sums.
use Rattle.std.proofs.Common.{ℕ, ◌<◌}
use Rattle.dst_spec.specs.Guess.{filter_of}
use Rattle.byte_predictor.specs.Upward.{size_sum}
use Rattle.dst_frames.proofs.batch.are_narrow.Given as goal

abbrev pub invariant-loop-c : goal.invariant-loop-c
invariant-loop-c l = (k : ℕ) → k < l.c → size_sum (filter_of l.params k) < 32768
