-- The highest eight bits left of the number are one byte more, for which there is capacity.
use Rattle.std.proofs.Common.{◌≡◌, ◌+◌, ◌-◌, ◌/◌, ◌%◌, ◌^◌, ◌++◌, ◌∷◌, [], vec_len, arith}
use Rattle.bit_io.proofs.Buffers.{byte_pushed}
use Rattle.bit_io.proofs.writer.push_bytes.Goals as goal

pub loop-rest-preserved : goal.loop-rest-preserved
loop-rest-preserved c =
    let next = byte_pushed c.loop-rest.bytes.items _ c.loop-rest.rest c.args.number (omega arith) c.loop-rest.invariant.bits in
    let ok = c.push.ensures.succeeds (omega (arith, c.requires.room, c.loop-rest.invariant.len, c.loop-rest.invariant.capacity)) in
    let items : c.push.new.self.items ≡ c.loop-rest.bytes.items ++ (c.args.number / 2 ^ (c.loop-rest.rest - 8) % 256) ∷ [] = rw ok at c.push.ensures.items in
    let len : vec_len c.push.new.self ≡ vec_len c.loop-rest.bytes + 1 = rw ok at c.push.ensures.len in
    record {
      bits = rw items next;
      len = omega (arith, len, c.loop-rest.invariant.len);
      same = omega (arith, c.loop-rest.invariant.same);
      most = omega (arith, c.loop-rest.invariant.most);
      capacity = omega (arith, c.loop-rest.invariant.capacity, c.push.ensures.capacity);
    }
