-- The block and those behind it so far are written, turned over where there is a carry.
use Rattle.std.proofs.Common.{◌≡◌, ◌+◌, ◌*◌, ◌++◌}
use Rattle.dst_spec.specs.Bits.{low_bits}
use Rattle.arith_encoder.proofs.Carrying.{turned}
use Rattle.arith_encoder.proofs.held.let_go.Given as goal

abbrev pub invariant-loop-turn : goal.invariant-loop-turn
invariant-loop-turn l = record {
  bits : l.writer.bits ≡ l.fn.writer.bits ++ low_bits (l.width + 32 * l.turn) (turned l.carry l.block l.turn);
  room : l.writer.room + (l.width + 32 * l.turn) ≡ l.fn.writer.room;
}
