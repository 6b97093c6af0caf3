-- The number at the place is that in front of the bits that are left.
use Rattle.std.proofs.Common.{sym, ◌∙◌}
use Rattle.dst_spec.specs.Bits.{bits}
use Rattle.bit_io.proofs.Windows.{number_left}
use Rattle.bit_io.proofs.reader.BitReader.read_or_zero.Goals as goal

pub returns-clause-first : goal.returns-clause-first
returns-clause-first c =
    let r = c.self.inside in
    rw (← c.self.view_is) (c.number_at-value.ensures.number ∙ sym (number_left (bits r.bytes.now) r.place c.args.n))
