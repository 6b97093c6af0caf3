-- Zeros up to the end of the last byte.
use Rattle.std.proofs.Common.{◌≡◌, ◌-◌, ℕ, IsTrue, length, ap, sym, ◌∙◌, arith, append-nil, length-append}
use Rattle.dst_spec.specs.Bits.{low_bits}
use Rattle.dst_spec.proofs.Numbers.{length-low_bits}
use Rattle.bit_io.specs.Writing.{Writing, to_byte_end}
use Rattle.bit_io.proofs.Buffers.{length-buffer, zeros_put, length-to_byte_end}
use Rattle.bit_io.proofs.ByteLists.{octets-zeros}
use Rattle.bit_io.proofs.writer.BitWriter.finish.Goals as goal

abbrev length_of : Writing → ℕ
length_of w = length w.bits

abbrev room_of : Writing → ℕ
room_of w = w.room

-- the zeros up to the byte's end fit
were_put : (c : goal.After-put) → IsTrue c.put.result
were_put c =
    let room = ap room_of c.self.view_is in
    c.put.ensures.written.1 (omega (arith, room, c.self.invariant.within, c.self.invariant.few, c.if-count-gt0.true))

pub returns-then-count-gt0-clause-zeros : goal.returns-then-count-gt0-clause-zeros
returns-then-count-gt0-clause-zeros c =
    let f = c.self.inside in
    let long = sym (ap length_of c.self.view_is) ∙ length-buffer f.bytes.items f.count f.pending in
    zeros_put c.args.self.now.bits c.put.new.self.bits (length f.bytes.items) f.count long c.if-count-gt0.true c.self.invariant.few
    (c.put.ensures.bits (were_put c))

pub returns-then-count-gt0-clause-whole : goal.returns-then-count-gt0-clause-whole
returns-then-count-gt0-clause-whole c =
    let zeros = returns-then-count-gt0-clause-zeros c in
    let long = length-to_byte_end c.args.self.now.bits in
    rw zeros (omega (arith, long))

pub returns-then-count-gt0-clause-bytes : goal.returns-then-count-gt0-clause-bytes
returns-then-count-gt0-clause-bytes c = rw (returns-then-count-gt0-clause-zeros c) (octets-zeros c.args.self.now.bits)

pub returns-then-count-gt0-clause-room : goal.returns-then-count-gt0-clause-room
returns-then-count-gt0-clause-room c =
    let zeros = low_bits (8 - c.self.inside.count) 0 in
    let more = ap length (c.put.ensures.bits (were_put c)) ∙ length-append c.args.self.now.bits zeros in
    omega (arith, more, length-low_bits (8 - c.self.inside.count) 0, c.put.ensures.room (were_put c))

pub returns-else-count-gt0-clause-whole : goal.returns-else-count-gt0-clause-whole
returns-else-count-gt0-clause-whole c =
    let f = c.self.inside in
    let long = sym (ap length_of c.self.view_is) ∙ length-buffer f.bytes.items f.count f.pending in
    omega (arith, long)

pub returns-else-count-gt0-clause-zeros : goal.returns-else-count-gt0-clause-zeros
returns-else-count-gt0-clause-zeros c =
    let whole = returns-else-count-gt0-clause-whole c in
    let none : to_byte_end (length c.args.self.now.bits) ≡ 0 = omega (arith, whole) in
    rw none (sym (append-nil c.args.self.now.bits))
