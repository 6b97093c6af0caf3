-- Sums over ranges of numbers.
use Rattle.std.proofs.Common.{◌≡◌, ℕ, zero, suc, ◌+◌, ◌*◌, ◌<◌, ◌≤◌, ℤ, pos, ◌-ℤ◌, refl, ap, ◌∙◌, arith, add-suc}
use Rattle.std.proofs.lemmas.Int.{ints}
use Rattle.level_spec.specs.Correlation.{sum_over}
use Rattle.filter_analyser.specs.Stretches.{tally}

pub tally-same : (F G : ℕ → ℕ) (first n : ℕ) → ((t : ℕ) → first ≤ t → t < first + n → F t ≡ G t) → tally F first n ≡ tally G first n
unfolding tally
tally-same F G first zero h = refl
tally-same F G first (suc n) h =
    let rest = tally-same F G first n (λ t least most. h t least (omega arith)) in
    let last = h (first + n) (omega arith) (omega arith) in
    omega arith

pub tally-moved : (F : ℕ → ℕ) (first n : ℕ) → tally F first n ≡ tally (λ t. F (first + t)) 0 n
unfolding tally
tally-moved F first zero = refl
tally-moved F first (suc n) =
    let rest = tally-moved F first n in
    let last : F (first + n) ≡ F (first + (0 + n)) = ap (λ t. F (first + t)) (omega arith) in
    omega arith

pub tally-append : (F : ℕ → ℕ) (first m n : ℕ) → tally F first (m + n) ≡ tally F first m + tally F (first + m) n
unfolding tally
tally-append F first m zero = let e : m + 0 ≡ m = omega arith in ap (λ k. tally F first k) e ∙ omega arith
tally-append F first m (suc n) =
    let rest = tally-append F first m n in
    let more : tally F first (m + suc n) ≡ tally F first (m + n) + F (first + (m + n)) = ap (λ k. tally F first k) (add-suc m n) in
    let last : F (first + (m + n)) ≡ F (first + m + n) = ap F (omega arith) in
    omega arith

pub tally-most : (F : ℕ → ℕ) (first n : ℕ) → ((t : ℕ) → F t ≤ 1) → tally F first n ≤ n
unfolding tally
tally-most F first zero h = omega arith
tally-most F first (suc n) h = omega (arith, tally-most F first n h, h (first + n))

-- a sum of ones, and of minus ones where G has a 1
pub sum_over-tally : (F : ℕ → ℤ) (G : ℕ → ℕ) (first n : ℕ) → ((t : ℕ) → first ≤ t → t < first + n → F t ≡ pos 1 -ℤ pos (2 * G t)) →
    sum_over F first n ≡ pos n -ℤ pos (2 * tally G first n)
unfolding sum_over tally
sum_over-tally F G first zero h = refl
sum_over-tally F G first (suc n) h =
    let rest = sum_over-tally F G first n (λ t least most. h t least (omega arith)) in
    let last = h (first + n) (omega arith) (omega arith) in
    omega (arith, ints)

pub tally-next : (F : ℕ → ℕ) (n : ℕ) → tally F 0 (n + 1) ≡ tally F 0 n + F n
unfolding tally
tally-next F n =
    let e : n + 1 ≡ suc n = omega arith in
    let z : 0 + n ≡ n = omega arith in
    ap (λ k. tally F 0 k) e ∙ ap (λ k. tally F 0 n + F k) z

pub tally-none : (F : ℕ → ℕ) (first n : ℕ) → ((t : ℕ) → F t ≡ 0) → tally F first n ≡ 0
unfolding tally
tally-none F first zero h = refl
tally-none F first (suc n) h = omega (arith, tally-none F first n h, h (first + n))
