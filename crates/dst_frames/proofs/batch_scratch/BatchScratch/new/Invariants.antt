-- There are as many states as channels so far.
use Rattle.std.proofs.Common.{◌≡◌, length}
use Rattle.dst_frames.proofs.batch_scratch.BatchScratch.new.Given as goal

abbrev pub invariant-loop : goal.invariant-loop
invariant-loop l = length l.states.items ≡ l.counter
