-- A filter's sum by the coefficients whose sample is 1.
use Rattle.std.proofs.Common.{◌≡◌, ℕ, ◌*◌, ◌≤◌, true, false, cond, eqb, ℤ, pos, ◌-ℤ◌, ◌*ℤ◌, neg_ℤ, List, [], ◌∷◌, length, refl, sym, ◌∙◌, arith}
use Rattle.std.proofs.lemmas.Int.{ints}
use Rattle.dst_spec.specs.Guess.{signed}
use Rattle.byte_predictor.specs.Samples.{signed_sum}
use Rattle.byte_predictor.specs.Upward.{upward_sum, size_sum, ones_sum, whole_sum, twice_ones}
use Rattle.byte_predictor.proofs.Upward.{signed_sum-is}

signed-ones : (bit : ℕ) (a : ℤ) → signed bit a ≡ pos 2 *ℤ cond (eqb bit 1) a (pos 0) -ℤ a
signed-ones bit a = elim (eqb bit 1) as (λ v. cond v a (neg_ℤ a) ≡ pos 2 *ℤ cond v a (pos 0) -ℤ a) [ true ↦ omega (arith, ints) | false ↦ omega (arith, ints) ]

pub signed_sum-ones : (coefs : List ℤ) (samples : List ℕ) → length coefs ≤ length samples → signed_sum coefs samples ≡ twice_ones coefs samples
unfolding signed_sum ones_sum whole_sum
signed_sum-ones [] samples h = refl
signed_sum-ones (a ∷ coefs) [] h = absurd (omega arith)
signed_sum-ones (a ∷ coefs) (bit ∷ samples) h =
    let here = signed-ones bit a in
    let further = signed_sum-ones coefs samples (omega arith) in
    omega (arith, ints, here, further)

pub upward-ones : (coefs : List ℤ) (samples : List ℕ) → length coefs ≤ length samples →
    pos (2 * upward_sum coefs samples) -ℤ pos (size_sum coefs) ≡ twice_ones coefs samples
upward-ones coefs samples h = sym (signed_sum-is coefs samples h) ∙ signed_sum-ones coefs samples h
