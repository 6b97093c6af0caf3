-- Where the number of bits is a multiple of 8 none are pending, so the whole bytes are all.
use Rattle.std.proofs.Common.{ap, sym, ◌∙◌}
use Rattle.dst_spec.specs.Bits.{bits, octets}
use Rattle.bit_io.proofs.Buffers.{no_pending}
use Rattle.bit_io.proofs.writer.BitWriter.bytes.Goals as goal

pub returns-clause-bits : goal.returns-clause-bits
returns-clause-bits c =
    let f = c.self.inside in
    let whole = rw (← c.self.view_is) at c.requires in
    rw (← c.self.view_is, c.as_octets.ensures.same, c.deref.ensures.value) (no_pending f.bytes.items f.count f.pending c.self.invariant.few whole)

pub returns-clause-bytes : goal.returns-clause-bytes
returns-clause-bytes c =
    c.as_octets.ensures.same ∙ sym c.as_octets.ensures.bytes ∙ ap (λ bytes. octets (bits bytes)) (sym c.as_octets.ensures.same)
    ∙ ap octets (returns-clause-bits c)
