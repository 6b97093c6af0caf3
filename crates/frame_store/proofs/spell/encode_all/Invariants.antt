-- The encoder stands for the reserved symbol and the bytes so far, which fit the room.
use Rattle.std.proofs.Common.{◌≡◌, ◌+◌, ◌≤◌, false, ◌∷◌, map, take}
use Rattle.dst_spec.specs.Interval.{interval}
use Rattle.arith_encoder.specs.Encoding.{StandsFor}
use Rattle.frame_store.specs.Pairs.{pair_of}
use Rattle.frame_store.proofs.spell.encode_all.Given as goal

abbrev pub invariant-loop-byte : goal.invariant-loop-byte
invariant-loop-byte l = record {
  stands : StandsFor l.encoder ((false, l.fn.reserved) ∷ map pair_of (take l.byte-index l.symbols));
  fits : 13 + (interval ((false, l.fn.reserved) ∷ map pair_of (take l.byte-index l.symbols))).doublings ≤ l.fn.encoder.room;
  before : l.encoder.before ≡ l.fn.encoder.before;
  room : l.encoder.room ≡ l.fn.encoder.room;
}
