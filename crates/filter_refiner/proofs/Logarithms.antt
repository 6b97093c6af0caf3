-- Powers of 2, and steps of a logarithm.
use Rattle.std.proofs.Common.{◌≡◌, ℕ, zero, suc, ◌+◌, ◌-◌, ◌*◌, ◌/◌, ◌^◌, ◌<◌, ◌≤◌, Bool, true, false, cond, nat_le, ap, sym, ◌∙◌, inl, inr, arith}
use Rattle.std.proofs.lemmas.Bool.{cases_lt}
use Rattle.std.proofs.lemmas.Bool.Decides.{nat_tests}
use native.Mathlib.Numerals.{unary_clauses}
use Rattle.std.proofs.Math.Nat.{pow-le-pow_right}
use Rattle.level_spec.specs.Scale.{last_place}
use Rattle.level_spec.specs.Size.{Logarithm, next_digit, digits_after, power_in}

pub power-next : (n : ℕ) → 2 ^ (n + 1) ≡ 2 * 2 ^ n
power-next n = simp unary_clauses (omega arith)

pub power-below : (n m : ℕ) → n ≤ m → 2 ^ n ≤ 2 ^ m
power-below n m h = pow-le-pow_right {n = 2} (omega arith) h

pub digits-next : (n : ℕ) (s : Logarithm) → next_digit (digits_after n s) ≡ digits_after (n + 1) s
unfolding digits_after
digits-next n s = let e : n + 1 ≡ suc n = omega arith in ap (λ k. digits_after k s) (sym e)

last-at : (test : ℕ → Bool) (n k : ℕ) → k < n → test k ≡ true → ((w : ℕ) → k < w → w < n → test w ≡ false) → last_place test n ≡ k + 1
unfolding last_place
last-at test zero k h e others = absurd (omega arith)
last-at test (suc n) k h e others = elim (cases_lt k n) [
  | inl less ↦ ap (λ b. cond b (suc n) (last_place test n)) (others n less (omega arith)) ∙ last-at test n k less e (λ w l m. others w l (omega arith))
  | inr more ↦ let here : n ≡ k = omega arith in ap (λ b. cond b (suc n) (last_place test n)) (ap test here ∙ e) ∙ omega arith
]

pub le-true : (a b : ℕ) → a ≤ b → nat_le a b ≡ true
le-true a b h = grind (arith, nat_tests)

pub le-false : (a b : ℕ) → b < a → nat_le a b ≡ false
le-false a b h = grind (arith, nat_tests)

pub power-is : (x k : ℕ) → k < 8 → 2 ^ k ≤ x → x < 2 ^ (k + 1) → power_in x ≡ k
power-is x k h below above =
    let last = last-at (λ w. nat_le (2 ^ w) x) 8 k h (le-true (2 ^ k) x below)
    (λ w l m. let more = power-below (k + 1) w (omega arith) in le-false (2 ^ w) x (omega arith)) in
    omega arith

-- a number from 1 to 2 with 31 fraction bits
pub scaled : (x p : ℕ) → p ≤ 7 → x < 2 ^ (p + 1) → x * 2 ^ (31 - p) < 2 ^ 32
scaled x zero most h = omega arith
scaled x (suc zero) most h = omega arith
scaled x (suc (suc zero)) most h = omega arith
scaled x (suc (suc (suc zero))) most h = omega arith
scaled x (suc (suc (suc (suc zero)))) most h = omega arith
scaled x (suc (suc (suc (suc (suc zero))))) most h = omega arith
scaled x (suc (suc (suc (suc (suc (suc zero)))))) most h = omega arith
scaled x (suc (suc (suc (suc (suc (suc (suc zero))))))) most h = omega arith
scaled x (suc (suc (suc (suc (suc (suc (suc (suc p)))))))) most h = absurd (omega arith)

-- a digit more, as one or as none
pub digit-one : (rest digits : ℕ) → 2 ^ 32 ≤ rest * rest / 2 ^ 31 →
    ◌≡◌ {A = Logarithm} (record { rest = rest * rest / 2 ^ 31 / 2; digits = 2 * digits + 1 }) (next_digit (record { rest = rest; digits = digits }))
unfolding next_digit
digit-one rest digits h =
    ap (λ b. cond b (record { rest = rest * rest / 2 ^ 31 / 2; digits = 2 * digits + 1 }) (record { rest = rest * rest / 2 ^ 31; digits = 2 * digits }))
    (sym (le-true (2 ^ 32) (rest * rest / 2 ^ 31) h))

pub digit-none : (rest digits : ℕ) → rest * rest / 2 ^ 31 < 2 ^ 32 →
    ◌≡◌ {A = Logarithm} (record { rest = rest * rest / 2 ^ 31; digits = 2 * digits }) (next_digit (record { rest = rest; digits = digits }))
unfolding next_digit
digit-none rest digits h =
    ap (λ b. cond b (record { rest = rest * rest / 2 ^ 31 / 2; digits = 2 * digits + 1 }) (record { rest = rest * rest / 2 ^ 31; digits = 2 * digits }))
    (sym (le-false (2 ^ 32) (rest * rest / 2 ^ 31) h))
