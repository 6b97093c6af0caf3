-- All places so far and some channels of this one are decoded, by at most 8 bits of code for each sample.
use Rattle.std.proofs.Common.{◌≡◌, ℕ, ◌+◌, ◌*◌, ◌<◌, Bool, List, length, drop}
use Rattle.dst_spec.specs.Sample.{Shape}
use Rattle.dst_spec.specs.Header.{Params}
use Rattle.dst_frames.specs.Tables.{AreBuilt}
use Rattle.dst_frames.specs.Underway.{IsFurther, IsUnderway}
use Rattle.dst_frames.proofs.Rows.{IsRow}
use Rattle.dst_frames.proofs.samples.decode_byte.Given as goal

abbrev pub invariant-loop-place : goal.invariant-loop-place
invariant-loop-place l = record {
  code : IsFurther l.initial.decoder l.decoder (48 * l.place);
  samples : (f : Shape) (P : Params) (reserved : Bool) (samples : ℕ → List ℕ) → f.channels ≡ length l.tables → AreBuilt f P l.tables →
      IsUnderway f P reserved (8 * l.byte) 0 samples l.initial.decoder l.initial.states →
      (later : ℕ → List ℕ) × ((c : ℕ) → c < f.channels → drop l.place (later c) ≡ samples c)
      × IsUnderway f P reserved (8 * l.byte + l.place) l.place later l.decoder l.states;
}

abbrev pub invariant-loop-c : goal.invariant-loop-c
invariant-loop-c l = record {
  code : IsFurther l.initial.decoder l.decoder (8 * l.c);
  row : (f : Shape) (P : Params) (reserved : Bool) (samples : ℕ → List ℕ) → f.channels ≡ length l.tables → AreBuilt f P l.tables →
      IsUnderway f P reserved (8 * l.byte + l.place) l.place samples l.initial.decoder l.initial.states →
      IsRow f P reserved (8 * l.byte + l.place) l.place samples l.c l.decoder l.states;
}
