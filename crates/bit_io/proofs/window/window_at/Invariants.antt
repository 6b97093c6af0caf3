-- The window is the number of the bytes so far.
use Rattle.std.proofs.Common.{◌≡◌, ◌*◌}
use Rattle.dst_spec.specs.Bits.{bits, number_from}
use Rattle.bit_io.proofs.window.window_at.Given as goal

abbrev pub invariant-loop-k : goal.invariant-loop-k
invariant-loop-k l = l.window ≡ number_from (bits l.bytes) (8 * l.first) (8 * l.k)
