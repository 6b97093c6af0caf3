-- Correlations of whole frames of one channel: of samples 1, and of samples 1 and 0 in turn.
use Rattle.std.proofs.Common.{◌≡◌, ℕ, zero, suc, ◌+◌, ◌-◌, ◌*◌, ◌/◌, ◌%◌, ◌^◌, ◌<◌, ◌≤◌, ℤ, pos, neg_ℤ, ◌+ℤ◌, ◌*ℤ◌, replicate, refl, ap, ◌∙◌, arith}
use Rattle.std.proofs.lemmas.Int.{ints}
use Rattle.std.proofs.lemmas.List.{get_or-replicate}
use Rattle.std.proofs.lemmas.Nat.Bits.{bit_at_ones}
use Rattle.dst_spec.specs.Sample.{sample}
use Rattle.dst_spec.specs.Guess.{signed}
use Rattle.dst_spec.proofs.Certain.{sample_of_same, bit_of_turns}
use Rattle.level_spec.specs.Correlation.{sum_over, sign, correlation}
use Rattle.level_spec.proofs.Examples.{mono}
use Rattle.level_spec.proofs.Sums.{sum_over-same, sum_of_ones}

-- a sum of minus ones
sum_of_less_ones : (first n : ℕ) → sum_over (λ t. neg_ℤ (pos 1)) first n ≡ neg_ℤ (pos n)
unfolding sum_over
sum_of_less_ones first zero = refl
sum_of_less_ones first (suc n) = ap (λ s. s +ℤ neg_ℤ (pos 1)) (sum_of_less_ones first n) ∙ omega (arith, ints)

ones-sign : (n t : ℕ) → t < 8 * n → sign (mono n) (replicate n 255) 0 t ≡ pos 1
ones-sign n t h = ap (λ b. signed b (pos 1)) (sample_of_same n 255 t h ∙ bit_at_ones 8 (7 - t % 8) (omega arith))

turns-sign : (n t : ℕ) → t < 8 * n → sign (mono n) (replicate n 170) 0 t ≡ signed ((t + 1) % 2) (pos 1)
turns-sign n t h = ap (λ b. signed b (pos 1)) (sample_of_same n 170 t h ∙ bit_of_turns (7 - t % 8) (omega arith) ∙ omega arith)

pub ones_agree : (k : ℕ) → k ≤ 128 → correlation (mono 4704) (replicate 4704 255) 0 k ≡ pos (37632 - k)
ones_agree k h =
    let F : ℕ → ℤ = λ t. sign (mono 4704) (replicate 4704 255) 0 t *ℤ sign (mono 4704) (replicate 4704 255) 0 (t - k) in
    sum_over-same F (λ t. pos 1) k (37632 - k) (λ t least most.
    ap (λ s. s *ℤ sign (mono 4704) (replicate 4704 255) 0 (t - k)) (ones-sign 4704 t (omega arith))
    ∙ ap (λ s. pos 1 *ℤ s) (ones-sign 4704 (t - k) (omega arith)))
    ∙ sum_of_ones k (37632 - k)

-- the product of two signs
alike : (a : ℕ) → a < 2 → signed a (pos 1) *ℤ signed a (pos 1) ≡ pos 1
alike zero h = refl
alike (suc zero) h = refl
alike (suc (suc a)) h = absurd (omega arith)

unlike : (a : ℕ) → a < 2 → signed a (pos 1) *ℤ signed (1 - a) (pos 1) ≡ neg_ℤ (pos 1)
unlike zero h = refl
unlike (suc zero) h = refl
unlike (suc (suc a)) h = absurd (omega arith)

pub turns_two_apart_agree : (j : ℕ) → j ≤ 1 → correlation (mono 4704) (replicate 4704 170) 0 (2 * j) ≡ pos (37632 - 2 * j)
turns_two_apart_agree j h =
    let k = 2 * j in
    let F : ℕ → ℤ = λ t. sign (mono 4704) (replicate 4704 170) 0 t *ℤ sign (mono 4704) (replicate 4704 170) 0 (t - k) in
    sum_over-same F (λ t. pos 1) k (37632 - k) (λ t least most.
    let parity : (t - k + 1) % 2 ≡ (t + 1) % 2 = omega arith in
    ap (λ s. s *ℤ sign (mono 4704) (replicate 4704 170) 0 (t - k)) (turns-sign 4704 t (omega arith))
    ∙ ap (λ s. signed ((t + 1) % 2) (pos 1) *ℤ s) (turns-sign 4704 (t - k) (omega arith) ∙ ap (λ b. signed b (pos 1)) parity)
    ∙ alike ((t + 1) % 2) (omega arith))
    ∙ sum_of_ones k (37632 - k)

pub turns_one_apart_differ : correlation (mono 4704) (replicate 4704 170) 0 1 ≡ neg_ℤ (pos 37631)
turns_one_apart_differ =
    let F : ℕ → ℤ = λ t. sign (mono 4704) (replicate 4704 170) 0 t *ℤ sign (mono 4704) (replicate 4704 170) 0 (t - 1) in
    sum_over-same F (λ t. neg_ℤ (pos 1)) 1 37631 (λ t least most.
    let parity : (t - 1 + 1) % 2 ≡ 1 - (t + 1) % 2 = omega arith in
    ap (λ s. s *ℤ sign (mono 4704) (replicate 4704 170) 0 (t - 1)) (turns-sign 4704 t (omega arith))
    ∙ ap (λ s. signed ((t + 1) % 2) (pos 1) *ℤ s) (turns-sign 4704 (t - 1) (omega arith) ∙ ap (λ b. signed b (pos 1)) parity)
    ∙ unlike ((t + 1) % 2) (omega arith))
    ∙ sum_of_less_ones 1 37631
