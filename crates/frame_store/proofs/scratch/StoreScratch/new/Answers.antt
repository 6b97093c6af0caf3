-- A fresh writer has no bits, and so no bytes.
use Rattle.std.proofs.Common.{ap}
use Rattle.dst_spec.specs.Bits.{octets}
use Rattle.frame_store.proofs.scratch.StoreScratch.new.Goals as goal

pub returns-clause-no_spelling : goal.returns-clause-no_spelling
unfolding octets
returns-clause-no_spelling c = ap octets c.in_ok-new-2.ensures.bits
