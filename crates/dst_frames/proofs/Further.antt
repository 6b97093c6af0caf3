-- How far a decoder of one code has come, step by step.
use Rattle.std.proofs.Common.{ℕ, ◌+◌, ◌≤◌, refl, ◌∙◌, arith}
use Rattle.arith_decoder.specs.Decoding.{Decoding}
use Rattle.dst_frames.specs.Underway.{IsFurther}

pub no_further : (d : Decoding) → IsFurther d d 0
no_further d = record { bytes = refl; first = refl; used = omega arith }

pub further : (a b c : Decoding) (m n most : ℕ) → IsFurther a b m → IsFurther b c n → m + n ≤ most → IsFurther a c most
further a b c m n most h k le = record {
  bytes = k.bytes ∙ h.bytes;
  first = k.first ∙ h.first;
  used = omega (arith, h.used, k.used);
}
