-- No table so far has a filter that gives the greatest of all sums.
use Rattle.std.proofs.Common.{ℕ, ◌<◌, get_or}
use Rattle.byte_predictor.specs.Upward.{size_sum}
use Rattle.dst_frames.specs.declared.tables.ChannelTables.{ChannelTables}
use Rattle.dst_frames.proofs.eight.keep_narrow.Given as goal

abbrev pub invariant-loop-k : goal.invariant-loop-k
invariant-loop-k l = (j : ℕ) (other : ChannelTables) → j < l.k → size_sum (get_or l.tables j other).filter < 32768
