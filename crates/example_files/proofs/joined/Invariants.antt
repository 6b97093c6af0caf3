-- The parts that the loop has passed stand one behind the other.
use Rattle.std.proofs.Common.{◌≡◌, flat_map, take}
use Rattle.example_files.proofs.joined.Given as goal

abbrev pub invariant-loop-part : goal.invariant-loop-part
invariant-loop-part l = l.bytes.items ≡ flat_map (λ p. p.now) (take l.part-index l.parts)
