-- Sums of equal terms are equal, and of bounded ones bounded.
use Rattle.std.proofs.Common.{◌≡◌, ℕ, zero, suc, ◌+◌, ◌*◌, ◌<◌, ◌≤◌, ℤ, pos, ◌+ℤ◌, nat_abs, refl, ap, ◌∙◌, arith}
use Rattle.std.proofs.lemmas.Int.{ints}
use Rattle.level_spec.specs.Correlation.{sum_over}

pub sum_over-same : (F G : ℕ → ℤ) (first n : ℕ) → ((t : ℕ) → first ≤ t → t < first + n → F t ≡ G t) → sum_over F first n ≡ sum_over G first n
unfolding sum_over
sum_over-same F G first zero h = refl
sum_over-same F G first (suc n) h =
    let rest = sum_over-same F G first n (λ t least most. h t least (omega arith)) in
    let last = h (first + n) (omega arith) (omega arith) in
    cc

pub sum_over-below : (F : ℕ → ℤ) (first n bound : ℕ) → ((t : ℕ) → first ≤ t → t < first + n → nat_abs (F t) ≤ bound) → nat_abs (sum_over F first n) ≤ n * bound
unfolding sum_over
sum_over-below F first zero bound h = omega arith
sum_over-below F first (suc n) bound h =
    let rest = sum_over-below F first n bound (λ t least most. h t least (omega arith)) in
    let last = h (first + n) (omega arith) (omega arith) in
    omega (arith, ints)

-- a sum of ones
pub sum_of_ones : (first n : ℕ) → sum_over (λ t. pos 1) first n ≡ pos n
unfolding sum_over
sum_of_ones first zero = refl
sum_of_ones first (suc n) = ap (λ s. s +ℤ pos 1) (sum_of_ones first n) ∙ omega (arith, ints)
