-- There are as many tables and states as channels so far.
use Rattle.std.proofs.Common.{◌≡◌, length}
use Rattle.dst_frames.proofs.scratch.Scratch.new.Given as goal

abbrev pub invariant-loop : goal.invariant-loop
invariant-loop l = (length l.tables.items ≡ l.counter) × (length l.states.items ≡ l.counter)
