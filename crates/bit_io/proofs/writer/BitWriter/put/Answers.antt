-- The pending bits and those of the value are one number, of which the whole bytes go into the buffer.
use Rattle.std.proofs.Common.{◌≡◌, ◌+◌, ◌*◌, ◌%◌, ◌^◌, bit_or, arith}
use Rattle.std.proofs.lemmas.Nat.{one_shl, shl_whole, or_shifted}
use Rattle.bit_io.proofs.Buffers.{bits_put}
use Rattle.bit_io.proofs.writer.BitWriter.put.Goals as goal

pub returns-clause-bits : goal.returns-clause-bits
returns-clause-bits c written =
    let f = c.self.inside in
    let rest = c.push_bytes-self-inside.result in
    let shifted : c.from-2.result * 2 ^ c.args.n % 18446744073709551616 ≡ f.pending * 2 ^ c.args.n =
    rw c.from-2.ensures (shl_whole f.pending f.count c.args.n 64 c.self.invariant.low (omega (arith, c.self.invariant.few, c.requires.most))) in
    let number : bit_or (c.from-2.result * 2 ^ c.args.n % 18446744073709551616) c.from-3.result ≡ f.pending * 2 ^ c.args.n + c.args.value =
    rw (shifted, c.from-3.ensures) (or_shifted f.pending c.args.n c.args.value c.requires.fits) in
    let one : 1 * 2 ^ rest % 18446744073709551616 ≡ 2 ^ rest = one_shl rest 64 (omega (arith, c.push_bytes-self-inside.ensures.rest)) in
    rw (← c.self.view_is, one) (bits_put f.bytes.items c.push_bytes-self-inside.new.bytes.items f.count f.pending c.args.n c.args.value _ rest
    c.requires.fits number c.push_bytes-self-inside.ensures.bits)
