-- The bytes of the frames that the loop has passed.
use Rattle.std.proofs.Common.{◌≡◌, ◌*◌, ◌≤◌, map, take}
use Rattle.std.specs.Prelude.{sum}
use Rattle.dst_show.proofs.summary.stored_bytes.Given as goal

abbrev pub invariant-loop-k : goal.invariant-loop-k
invariant-loop-k l = (l.stored ≡ sum (map (λ e. e.size) (take l.k l.index))) × (l.stored ≤ l.k * 4294967295)
