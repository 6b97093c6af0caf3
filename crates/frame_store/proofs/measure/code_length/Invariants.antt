-- The bits of the reserved symbol and of the bytes so far are measured, at most 8 doublings for each.
use Rattle.std.proofs.Common.{◌+◌, ◌*◌, ◌≤◌, false, ◌∷◌, map, take}
use Rattle.arith_encoder.specs.Measuring.{Measures}
use Rattle.frame_store.specs.Pairs.{pair_of}
use Rattle.frame_store.proofs.measure.code_length.Given as goal

abbrev pub invariant-loop-byte : goal.invariant-loop-byte
invariant-loop-byte l = record {
  few : l.length.doublings ≤ 8 * (l.byte-index + 1);
  measures : Measures l.length ((false, l.fn.reserved) ∷ map pair_of (take l.byte-index l.symbols));
}
