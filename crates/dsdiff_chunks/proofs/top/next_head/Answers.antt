-- A chunk that reaches past the end is refused by its head, and the head that was read is the file's.
use Rattle.std.proofs.Common.{◌≡◌, false, not, Bool, Some, ap, sym, ◌∙◌}
use Rattle.dsdiff_spec.specs.Faults.{◌when◌}
use Rattle.dsdiff_spec.specs.Chunks.{fits}
use Rattle.dsdiff_spec.specs.declared.faults.FileFault.{FileFault}
use Rattle.dsdiff_chunks.specs.Opening.{may_lack_pad}
use Rattle.dsdiff_chunks.proofs.top.next_head.Goals as goal

fault_at : (b : Bool) (fault : FileFault) → b ≡ false → (fault when not b) ≡ Some fault
fault_at b fault e = rw e

pub returns-then-not-lies_before-clause-stops : goal.returns-then-not-lies_before-clause-stops
returns-then-not-lies_before-clause-stops g c xs told =
    fault_at _ _ (ap (fits may_lack_pad c.args.end) (c.in-Ok.ensures.head xs told) ∙ sym c.lies_before.ensures.fits ∙ c.if-not-lies_before.true)
