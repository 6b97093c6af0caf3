-- Eight bits for each byte less those that are passed are left, and past the end none.
use Rattle.std.proofs.Common.{arith}
use Rattle.std.proofs.lemmas.List.{length-drop}
use Rattle.dst_spec.specs.Bits.{bits}
use Rattle.dst_spec.proofs.Numbers.{length-bits, AreBits-bits}
use Rattle.dst_spec.proofs.Lists.{AreBits-drop}
use Rattle.bit_io.proofs.reader.BitReader.left.Goals as goal

pub returns-clause-left : goal.returns-clause-left
returns-clause-left c =
    let r = c.self.inside in
    rw (← c.self.view_is) (omega (arith, c.saturating_sub.ensures, length-drop r.place (bits r.bytes.now), length-bits r.bytes.now))

pub returns-clause-bits : goal.returns-clause-bits
returns-clause-bits c = AreBits-drop c.args.self.now.place (bits c.args.self.now.bytes) (AreBits-bits c.args.self.now.bytes)
