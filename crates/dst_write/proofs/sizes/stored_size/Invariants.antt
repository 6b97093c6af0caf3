-- The bytes of the frames that the loop has passed.
use Rattle.std.proofs.Common.{◌≡◌, ◌*◌, ◌≤◌, take}
use Rattle.std.specs.Prelude.{sum}
use Rattle.dst_write.proofs.sizes.stored_size.Given as goal

abbrev pub invariant-loop-size : goal.invariant-loop-size
invariant-loop-size l = (l.bytes ≡ sum (take l.size-index l.sizes)) × (l.bytes ≤ l.size-index * 4294967295)
