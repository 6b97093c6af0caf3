-- How great products, sums and shares of small numbers can be.
use Rattle.std.proofs.Common.{◌≡◌, ℕ, zero, suc, ◌+◌, ◌-◌, ◌*◌, ◌^◌, ◌≤◌, ℤ, pos, negsuc, ◌+ℤ◌, ◌-ℤ◌, ◌*ℤ◌, ◌≤ℤ◌, nat_abs, to_z, of_z, List}
use Rattle.std.proofs.Common.{get_or, refl, ap, ◌∙◌, arith}
use mir.Syntax.{w64, w128}
use Rattle.std.proofs.lemmas.Int.{ints}
use lib.Signed.{shr_z}
use Rattle.std.proofs.lemmas.List.FromFn.{length-range_with_len}
use Rattle.std.specs.List.{range_with_len}
use Rattle.dst_spec.specs.Sample.{Shape, IsShape}
use Rattle.level_spec.specs.Correlation.{sum_over, correlations}
use Rattle.level_spec.specs.Recursion.{lag, value, whole}
use Rattle.level_spec.specs.Laws.{AreCorrelations}
use Rattle.level_spec.proofs.Sizes.{are_correlations}
use Rattle.level_spec.proofs.Sums.{sum_over-below}
use Rattle.filter_refiner.proofs.Numbers.{product-most, whole-most, same_64, same_128}

-- what values of 40 bits leave of a correlation has at most 68
pub left-most : (lags values : List ℤ) (i n : ℕ) → AreCorrelations lags → ((k : ℕ) → nat_abs (get_or values k (pos 0)) ≤ 2 ^ 40) → n ≤ 128 →
    nat_abs (lag lags i *ℤ pos (2 ^ 24) -ℤ sum_over (λ j. value values j *ℤ lag lags (i - j)) 1 n) ≤ 2 ^ 68
left-most lags values i n h small few =
    let most : lag lags 0 ≤ℤ pos (2 ^ 20) = h.most in
    let first : pos 1 ≤ℤ lag lags 0 = h.least in
    let each : (k : ℕ) → nat_abs (lag lags k) ≤ 2 ^ 20 = λ k. let o = h.others k in omega (arith, ints) in
    let here = each i in
    let sum = sum_over-below (λ j. value values j *ℤ lag lags (i - j)) 1 n (2 ^ 40 * 2 ^ 20)
    (λ j _ _. product-most (value values j) (lag lags (i - j)) (2 ^ 40) (2 ^ 20) (small (j - 1)) (each (i - j))) in
    omega (arith, ints)

pub lags-most : (lags : List ℤ) (k : ℕ) → AreCorrelations lags → nat_abs (get_or lags k (pos 0)) ≤ 2 ^ 20
lags-most lags k h =
    let most : lag lags 0 ≤ℤ pos (2 ^ 20) = h.most in
    let first : pos 1 ≤ℤ lag lags 0 = h.least in
    let o = h.others k in
    omega (arith, ints)

-- the first correlation of some channels has few bits, and its type holds it
pub first-held : (f : Shape) (sound : List ℕ) (first count : ℕ) (r0 : ℤ) → IsShape f → 1 ≤ count → first + count ≤ f.channels →
    r0 ≡ lag (correlations f sound (range_with_len first count)) 0 → (to_z w64 (of_z w64 r0) ≡ r0) × (nat_abs (to_z w64 (of_z w64 r0)) ≤ 2 ^ 20)
first-held f sound first count r0 shape some within is =
    let members = range_with_len first count in
    let long = length-range_with_len first count in
    let few = shape.most in
    let small : nat_abs r0 ≤ 2 ^ 20 = rw is (lags-most (correlations f sound members) 0 (are_correlations f sound members shape (omega arith) (omega arith))) in
    let same : to_z w64 (of_z w64 r0) ≡ r0 = same_64 r0 (omega arith) in
    (same, rw same small)

-- the next share is taken from what is left
pub left-next : (lags values : List ℤ) (i j : ℕ) → 1 ≤ j →
    lag lags i *ℤ pos (2 ^ 24) -ℤ sum_over (λ j. value values j *ℤ lag lags (i - j)) 1 (j - 1) -ℤ (get_or values (j - 1) (pos 0) *ℤ get_or lags (i - j) (pos 0))
    ≡ lag lags i *ℤ pos (2 ^ 24) -ℤ sum_over (λ j. value values j *ℤ lag lags (i - j)) 1 (j + 1 - 1)
unfolding sum_over
left-next lags values i (suc n) h =
    let F : ℕ → ℤ = λ j. value values j *ℤ lag lags (i - j) in
    let a : sum_over F 1 (suc n - 1) ≡ sum_over F 1 n = let e : suc n - 1 ≡ n = omega arith in ap (sum_over F 1) e in
    let b : sum_over F 1 (suc n + 1 - 1) ≡ sum_over F 1 n +ℤ F (1 + n) = let e : suc n + 1 - 1 ≡ suc n = omega arith in ap (sum_over F 1) e in
    let d : F (1 + n) ≡ F (suc n) = let e : 1 + n ≡ suc n = omega arith in ap F e in
    omega (arith, ints)
left-next lags values i zero h = absurd (omega arith)

pub shifted : (z : ℤ) → shr_z z (2 ^ 24) ≡ whole z
shifted (pos a) = refl
shifted (negsuc a) = refl

-- a part of a number, in the product's bits
pub share-is : (a b p : ℤ) → nat_abs a ≤ 2 ^ 24 → nat_abs b ≤ 2 ^ 45 → p ≡ to_z w64 (of_z w64 a) *ℤ to_z w64 (of_z w64 b) →
    (shr_z (to_z w128 (of_z w128 p)) 16777216 ≡ whole (a *ℤ b)) × (nat_abs (whole (a *ℤ b)) ≤ nat_abs b) × (nat_abs (whole (a *ℤ b)) ≤ 2 ^ 45)
share-is a b p h k e =
    let is : p ≡ a *ℤ b = e ∙ ap (λ z. z *ℤ to_z w64 (of_z w64 b)) (same_64 a (omega arith)) ∙ ap (λ z. a *ℤ z) (same_64 b (omega arith)) in
    let size : nat_abs (a *ℤ b) ≤ 2 ^ 24 * nat_abs b = product-most a b (2 ^ 24) (nat_abs b) h (omega arith) in
    let small : nat_abs p ≤ 2 ^ 126 = rw is (omega arith) in
    let least = whole-most (a *ℤ b) (nat_abs b) (omega arith) in
    (ap (λ z. shr_z z 16777216) (same_128 p small ∙ is) ∙ shifted (a *ℤ b), least, omega arith)
