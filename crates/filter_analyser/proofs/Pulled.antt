-- Gradients of channels, by the codes of rows.
use Rattle.std.proofs.Common.{◌≡◌, ℕ, zero, suc, ◌+◌, ◌-◌, ◌<◌, ℤ, pos, ◌+ℤ◌, ◌-ℤ◌, ◌*ℤ◌, List, [], ◌∷◌, get_or, refl, ap, ◌∙◌, arith}
use Rattle.std.proofs.lemmas.Int.{ints}
use Rattle.std.proofs.lemmas.List.FromFn.{get_or-map-range_with_len}
use Rattle.std.specs.List.{range_with_len}
use Rattle.dst_spec.specs.Sample.{Shape, sample, samples}
use Rattle.dst_spec.specs.Guess.{signed}
use Rattle.level_spec.specs.Correlation.{sign}
use Rattle.level_spec.specs.Refining.{weighted_agreement, gradient}
use Rattle.level_spec.proofs.Sums.{sum_over-same}
use Rattle.frame_predictions.specs.Codes.{code_at, codes}

-- one more channel at the end
pub gradient-push : (f : Shape) (sound : List ℕ) (W : ℕ → ℕ → ℕ) (first a n j : ℕ) →
    gradient f sound W first (range_with_len a (n + 1)) j ≡ gradient f sound W first (range_with_len a n) j +ℤ weighted_agreement f sound W first (a + n) j
unfolding gradient
gradient-push f sound W first a zero j = let e : a ≡ a + 0 = omega arith in ap (λ c. weighted_agreement f sound W first c j +ℤ pos 0) e ∙ omega (arith, ints)
gradient-push f sound W first a (suc n) j =
    let e : suc n + 1 ≡ suc (n + 1) = omega arith in
    let last : a + 1 + n ≡ a + suc n = omega arith in
    let rest = gradient-push f sound W first (a + 1) n j in
    let more : weighted_agreement f sound W first (a + 1 + n) j ≡ weighted_agreement f sound W first (a + suc n) j =
    ap (λ c. weighted_agreement f sound W first c j) last in
    ap (λ m. gradient f sound W first (range_with_len a m) j) e ∙ omega (arith, ints)

pub agreement-same : (f : Shape) (sound : List ℕ) (V W : ℕ → ℕ → ℕ) (first c j : ℕ) → ((t : ℕ) → t < samples f → V c t ≡ W c t) →
    weighted_agreement f sound V first c j ≡ weighted_agreement f sound W first c j
agreement-same f sound V W first c j h =
    let S : ℕ → ℤ = λ t. sign f sound c t *ℤ signed (sample f sound c (pos t -ℤ pos (j + 1))) (pos 1) in
    sum_over-same (λ t. pos (V c t) *ℤ S t) (λ t. pos (W c t) *ℤ S t) first (samples f - first) (λ t least most. ap (λ w. pos w *ℤ S t) (h t (omega arith)))

-- the codes of a row
pub agreement-by_codes : (f : Shape) (sound row weights : List ℕ) (coefs : List ℤ) (first c j : ℕ) → row ≡ codes f sound c coefs →
    weighted_agreement f sound (λ c t. get_or weights (get_or row t 0) 0) first c j
    ≡ weighted_agreement f sound (λ c t. get_or weights (code_at f sound c coefs t) 0) first c j
unfolding codes
agreement-by_codes f sound row weights coefs first c j e =
    agreement-same f sound (λ c t. get_or weights (get_or row t 0) 0) (λ c t. get_or weights (code_at f sound c coefs t) 0) first c j (λ t h.
    ap (λ r. get_or weights (get_or r t 0) 0) e
    ∙ ap (λ q. get_or weights q 0) (get_or-map-range_with_len (code_at f sound c coefs) 0 (samples f) t t 0 h (omega arith)))

pub gradient-same : (f : Shape) (sound : List ℕ) (V W : ℕ → ℕ → ℕ) (first : ℕ) (channels : List ℕ) (j : ℕ) → ((c t : ℕ) → V c t ≡ W c t) →
    gradient f sound V first channels j ≡ gradient f sound W first channels j
unfolding gradient
gradient-same f sound V W first [] j h = refl
gradient-same f sound V W first (c ∷ channels) j h =
    ap (λ z. z +ℤ gradient f sound V first channels j) (agreement-same f sound V W first c j (λ t _. h c t))
    ∙ ap (λ z. weighted_agreement f sound W first c j +ℤ z) (gradient-same f sound V W first channels j h)
