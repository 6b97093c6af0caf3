-- A writer that comes back without bits has no bytes.
use Rattle.std.proofs.Common.{ap}
use Rattle.dst_spec.specs.Bits.{octets}
use Rattle.frame_store.proofs.spell.write_into.Goals as goal

pub returns-in-Err-clause-nothing : goal.returns-in-Err-clause-nothing
unfolding octets
returns-in-Err-clause-nothing c = λ _. ap octets c.in-Err.ensures.cleared
