-- The bits so far, and those of the channels that are left, are those of all channels.
use Rattle.std.proofs.Common.{◌≡◌, ◌+◌, ◌++◌, length, map, drop}
use Rattle.dst_spec.specs.Header.{bit_of}
use Rattle.frame_header.proofs.front.Front.put_half_bits.Given as goal

abbrev pub invariant-loop-bit : goal.invariant-loop-bit
invariant-loop-bit l = record {
  whole : l.self ++ map bit_of (drop l.bit-index l.half_prob) ≡ l.initial.self ++ map bit_of l.half_prob;
  long : length l.self ≡ length l.initial.self + l.bit-index;
}
