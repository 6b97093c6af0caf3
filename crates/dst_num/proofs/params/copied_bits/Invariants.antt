-- The bits so far are copied.
use Rattle.std.proofs.Common.{◌≡◌, take}
use Rattle.dst_num.proofs.params.copied_bits.Given as goal

abbrev pub invariant-loop-bit : goal.invariant-loop-bit
invariant-loop-bit l = l.copied.items ≡ take l.bit-index l.bits
