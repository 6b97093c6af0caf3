-- The codes of the bytes so far are there, and the sums ahead are those after them.
use Rattle.std.proofs.Common.{◌≡◌, ◌*◌, length}
use Rattle.dst_spec.specs.Sample.{Shape}
use Rattle.frame_predictions.specs.Filling.{IsFilling}
use Rattle.frame_predictions.proofs.fill.fill.Given as goal

abbrev pub invariant-loop-byte : goal.invariant-loop-byte
invariant-loop-byte l = record {
  long : length l.codes ≡ 8 * l.octets;
  filling : (f : Shape) → f.channels ≡ l.channels → IsFilling f l.sound l.channel l.filter l.byte l.codes l.ahead;
}
