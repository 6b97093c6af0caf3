-- Each channel has a sample for each place so far, and a lane has used at most 48 bits for a place.
use Rattle.std.proofs.Common.{◌≡◌, ℕ, ◌+◌, ◌*◌, ◌<◌, Bool, List, length, drop}
use Rattle.dst_spec.specs.Sample.{Shape}
use Rattle.dst_spec.specs.Header.{Params}
use Rattle.arith_lanes.specs.Lanes.{decoding_at}
use Rattle.dst_frames.specs.Tables.{AreBuilt}
use Rattle.dst_frames.specs.Underway.{IsUnderway}
use Rattle.dst_frames.specs.Eight.{states_at, tables_at}
use Rattle.dst_frames.specs.Batch.{IsLaneFurther, code_at}
use Rattle.dst_frames.specs.Running.{AreChances}
use Rattle.dst_frames.proofs.octets.decode_octet.Given as goal

abbrev pub invariant-loop-place : goal.invariant-loop-place
invariant-loop-place l = record {
  lanes : (n : ℕ) → n < 8 → IsLaneFurther l.initial.lanes l.lanes n (code_at l.frames n) (48 * l.place);
  chances : AreChances l.rows l.count;
  samples : (n : ℕ) (f : Shape) (P : Params) (reserved : Bool) (samples : ℕ → List ℕ) → n < l.count →
      f.channels ≡ length l.initial.rows → AreBuilt f P (tables_at l.tables l.numbers n) →
      IsUnderway f P reserved (8 * l.byte) 0 samples (decoding_at l.initial.lanes n (code_at l.frames n)) (states_at l.initial.rows n) →
      (later : ℕ → List ℕ) × ((c : ℕ) → c < f.channels → drop l.place (later c) ≡ samples c)
      × IsUnderway f P reserved (8 * l.byte + l.place) l.place later (decoding_at l.lanes n (code_at l.frames n)) (states_at l.rows n);
}
