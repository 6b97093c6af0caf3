-- The channels so far have their sample at this place, and a lane has used at most 8 bits for each.
use Rattle.std.proofs.Common.{◌≡◌, ℕ, ◌+◌, ◌*◌, ◌<◌, Bool, List, length}
use Rattle.dst_spec.specs.Sample.{Shape}
use Rattle.dst_spec.specs.Header.{Params}
use Rattle.arith_lanes.specs.Lanes.{decoding_at}
use Rattle.dst_frames.specs.Tables.{AreBuilt}
use Rattle.dst_frames.specs.Underway.{IsUnderway}
use Rattle.dst_frames.specs.Eight.{states_at, tables_at}
use Rattle.dst_frames.specs.Batch.{IsLaneFurther, code_at}
use Rattle.dst_frames.specs.Running.{AreChances}
use Rattle.dst_frames.proofs.Rows.{IsRow}
use Rattle.dst_frames.proofs.octets.decode_place.Given as goal

abbrev pub invariant-loop-c : goal.invariant-loop-c
invariant-loop-c l = record {
  lanes : (n : ℕ) → n < 8 → IsLaneFurther l.initial.lanes l.lanes n (code_at l.frames n) (8 * l.c);
  chances : AreChances l.rows l.count;
  rows : (n : ℕ) (f : Shape) (P : Params) (reserved : Bool) (samples : ℕ → List ℕ) → n < l.count →
      f.channels ≡ length l.initial.rows → AreBuilt f P (tables_at l.tables l.numbers n) →
      IsUnderway f P reserved (8 * l.byte + l.place) l.place samples (decoding_at l.initial.lanes n (code_at l.frames n)) (states_at l.initial.rows n) →
      IsRow f P reserved (8 * l.byte + l.place) l.place samples l.c (decoding_at l.lanes n (code_at l.frames n)) (states_at l.rows n);
}
