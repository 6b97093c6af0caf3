-- Two readings of a frame have one header, one sound and the same symbols, so they leave the same tail.
use Rattle.dst_spec.proofs.Unique.{tail_law as law}
use Rattle.dst_spec.proofs.laws.tail_law.Goals as goal

pub returns : goal.returns
returns c = law
