-- There is a number for each channel so far, and the others are to come, by the count of different ones.
use Rattle.std.proofs.Common.{◌≡◌}
use Rattle.arrayvec.specs.ArrayVec.{array_vec_len}
use Rattle.frame_header.proofs.Coming.{NumbersToCome}
use Rattle.frame_header.proofs.maps.read_numbers.Given as goal

abbrev pub invariant-loop-channel : goal.invariant-loop-channel
invariant-loop-channel l = record {
  bytes : l.reader.bytes ≡ l.initial.reader.bytes;
  long : array_vec_len l.elements ≡ l.channel;
  coming : NumbersToCome l.channels l.initial.reader l.channel l.count l.elements.items l.reader;
}
