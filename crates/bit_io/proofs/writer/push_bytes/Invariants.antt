-- The bytes, with the bits left of the number behind them, have the bits of all; and those left grow fewer.
use Rattle.std.proofs.Common.{◌≡◌, ◌+◌, ◌/◌, ◌%◌, ◌≤◌, ◌++◌, vec_len, vec_capacity}
use Rattle.dst_spec.specs.Bits.{bits, low_bits}
use Rattle.bit_io.proofs.writer.push_bytes.Given as goal

abbrev pub invariant-loop-rest : goal.invariant-loop-rest
invariant-loop-rest l = record {
  bits : bits l.bytes.items ++ low_bits l.rest l.number ≡ bits l.fn.bytes.items ++ low_bits l.count l.number;
  len : vec_len l.bytes + l.rest / 8 ≡ vec_len l.fn.bytes + l.count / 8;
  same : l.rest % 8 ≡ l.count % 8;
  most : l.rest ≤ l.count;
  capacity : vec_capacity l.fn.bytes ≤ vec_capacity l.bytes;
}

abbrev pub decreases-loop-rest : goal.decreases-loop-rest
decreases-loop-rest l = l.rest
