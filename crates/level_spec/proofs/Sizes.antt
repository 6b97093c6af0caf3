-- How great correlations can be.
use Rattle.std.proofs.Common.{◌≡◌, ℕ, zero, suc, ◌+◌, ◌-◌, ◌*◌, ◌<◌, ◌≤◌, ℤ, pos, neg_ℤ, ◌+ℤ◌, ◌*ℤ◌, nat_abs, Bool, true, false, cond, ◌==◌, List, []}
use Rattle.std.proofs.Common.{◌∷◌, length, get_or, inl, inr, refl, ap, ◌∙◌, arith}
use Rattle.std.proofs.lemmas.Int.{ints, unsigned_abs-mul}
use Rattle.std.proofs.lemmas.Bool.{cases_lt}
use Rattle.std.proofs.lemmas.List.{get_or_past}
use Rattle.std.proofs.lemmas.List.FromFn.{length-map-range_with_len, get_or-map-range_with_len}
use Rattle.std.proofs.lemmas.Nat.{mul-le}
use Rattle.std.specs.List.{range_with_len}
use Rattle.dst_spec.specs.Sample.{Shape, IsShape, sample, samples}
use Rattle.dst_spec.specs.Guess.{signed}
use Rattle.level_spec.specs.Correlation.{sign, correlation, joint_correlation, correlations}
use Rattle.level_spec.specs.Recursion.{lag}
use Rattle.level_spec.specs.Laws.{AreCorrelations}
use Rattle.level_spec.proofs.Sums.{sum_over-same, sum_over-below, sum_of_ones}

one : (b : Bool) → nat_abs (cond b (pos 1) (neg_ℤ (pos 1))) ≡ 1
one true = refl
one false = refl

square : (b : Bool) → cond b (pos 1) (neg_ℤ (pos 1)) *ℤ cond b (pos 1) (neg_ℤ (pos 1)) ≡ pos 1
square true = refl
square false = refl

sign-product : (a b : ℕ) → nat_abs (signed a (pos 1) *ℤ signed b (pos 1)) ≤ 1
sign-product a b =
    let e : nat_abs (signed a (pos 1) *ℤ signed b (pos 1)) ≡ nat_abs (signed a (pos 1)) * nat_abs (signed b (pos 1)) =
    unsigned_abs-mul (signed a (pos 1)) (signed b (pos 1)) in
    let x : nat_abs (signed a (pos 1)) ≡ 1 = one (a == 1) in
    let y : nat_abs (signed b (pos 1)) ≡ 1 = one (b == 1) in
    omega (arith, mul-le (nat_abs (signed a (pos 1))) (nat_abs (signed b (pos 1))) 1 1 (omega arith) (omega arith))

-- at lag 0 each sample agrees with itself
correlation-whole : (f : Shape) (sound : List ℕ) (c : ℕ) → correlation f sound c 0 ≡ pos (samples f)
correlation-whole f sound c =
    let F : ℕ → ℤ = λ t. sign f sound c t *ℤ sign f sound c (t - 0) in
    let n : samples f - 0 ≡ samples f = omega arith in
    sum_over-same F (λ t. pos 1) 0 (samples f - 0) (λ t _ _. (let e : t - 0 ≡ t = omega arith in ap (λ u. sign f sound c t *ℤ sign f sound c u) e)
    ∙ square (sample f sound c (pos t) == 1))
    ∙ sum_of_ones 0 (samples f - 0) ∙ ap pos n

correlation-most : (f : Shape) (sound : List ℕ) (c k : ℕ) → nat_abs (correlation f sound c k) ≤ samples f
correlation-most f sound c k =
    let each = sum_over-below (λ t. sign f sound c t *ℤ sign f sound c (t - k)) k (samples f - k) 1
    (λ t _ _. sign-product (sample f sound c (pos t)) (sample f sound c (pos (t - k)))) in
    omega arith

-- samples of a channel
pub shape_least : (f : Shape) → IsShape f → 37632 ≤ samples f
shape_least f h = elim h.rate [ inl e ↦ omega arith | inr r ↦ elim r [ inl e ↦ omega arith | inr e ↦ omega arith ] ]

pub shape_most : (f : Shape) → IsShape f → samples f ≤ 150528
shape_most f h = elim h.rate [ inl e ↦ omega arith | inr r ↦ elim r [ inl e ↦ omega arith | inr e ↦ omega arith ] ]

pub joint-most : (f : Shape) (sound channels : List ℕ) (k : ℕ) → nat_abs (joint_correlation f sound channels k) ≤ length channels * samples f
unfolding joint_correlation
joint-most f sound [] k = omega arith
joint-most f sound (c ∷ channels) k =
    let here = correlation-most f sound c k in
    let rest = joint-most f sound channels k in
    omega (arith, ints)

joint-whole : (f : Shape) (sound channels : List ℕ) → joint_correlation f sound channels 0 ≡ pos (length channels * samples f)
unfolding joint_correlation
joint-whole f sound [] = ap pos (omega arith)
joint-whole f sound (c ∷ channels) =
    let here = correlation-whole f sound c in
    let rest = joint-whole f sound channels in
    omega (arith, ints)

pub lag-is : (f : Shape) (sound channels : List ℕ) (k : ℕ) → k < 129 → lag (correlations f sound channels) k ≡ joint_correlation f sound channels k
lag-is f sound channels k h = get_or-map-range_with_len (λ k. joint_correlation f sound channels k) 0 129 k k (pos 0) h (omega arith)

pub are_correlations : (f : Shape) (sound channels : List ℕ) → IsShape f → 1 ≤ length channels → length channels ≤ 6 →
    AreCorrelations (correlations f sound channels)
are_correlations f sound channels shape some few =
    let lags = correlations f sound channels in
    let whole : lag lags 0 ≡ pos (length channels * samples f) = lag-is f sound channels 0 (omega arith) ∙ joint-whole f sound channels in
    let least : 37632 ≤ samples f = shape_least f shape in
    let most : samples f ≤ 150528 = shape_most f shape in
    let product = mul-le (length channels) (samples f) 6 150528 few most in
    let other = mul-le 1 37632 (length channels) (samples f) some least in
    record {
      least = rw whole (omega (arith, ints));
      most = rw whole (omega (arith, ints));
      others = λ k. rw whole (elim (cases_lt k 129) [
        | inl h ↦ rw (lag-is f sound channels k h) (omega (arith, ints, joint-most f sound channels k))
        | inr h ↦ (let past : get_or lags k (pos 0) ≡ pos 0 = get_or_past lags k (pos 0) (let long =
            length-map-range_with_len (λ k. joint_correlation f sound channels k) 0 129 in omega arith) in rw past (omega (arith, ints)))
      ]);
    }

-- one more channel at the end
pub joint-push : (f : Shape) (sound : List ℕ) (a n k : ℕ) →
    joint_correlation f sound (range_with_len a (n + 1)) k ≡ joint_correlation f sound (range_with_len a n) k +ℤ joint_correlation f sound ((a + n) ∷ []) k
unfolding joint_correlation
joint-push f sound a zero k = let e : a ≡ a + 0 = omega arith in ap (λ c. correlation f sound c k +ℤ pos 0) e ∙ omega (arith, ints)
joint-push f sound a (suc n) k =
    let e : suc n + 1 ≡ suc (n + 1) = omega arith in
    let last : a + 1 + n ≡ a + suc n = omega arith in
    let rest = joint-push f sound (a + 1) n k in
    let more : joint_correlation f sound ((a + 1 + n) ∷ []) k ≡ joint_correlation f sound ((a + suc n) ∷ []) k =
    ap (λ c. joint_correlation f sound (c ∷ []) k) last in
    ap (λ m. joint_correlation f sound (range_with_len a m) k) e ∙ omega (arith, ints)
