-- There is a half bit for each channel so far, and those of the others are to come.
use Rattle.std.proofs.Common.{◌≡◌, map}
use Rattle.dst_spec.specs.Header.{bit_of}
use Rattle.dst_spec.specs.Fields.{number}
use Rattle.arrayvec.specs.ArrayVec.{array_vec_len}
use Rattle.frame_header.proofs.Coming.{TimesToCome}
use Rattle.frame_header.proofs.tables.read_half_bits.Given as goal

abbrev pub invariant-loop-channel : goal.invariant-loop-channel
invariant-loop-channel l = record {
  bytes : l.reader.bytes ≡ l.initial.reader.bytes;
  long : array_vec_len l.half_prob ≡ l.channel;
  coming : TimesToCome (number 1) l.channels l.initial.reader l.channel (map bit_of l.half_prob.items) l.reader;
}
