-- The last place that passes a test, and tests of coefficients.
use Rattle.std.proofs.Common.{◌≡◌, ℕ, zero, suc, ◌+◌, ◌<◌, ◌≤◌, ℤ, pos, negsuc, nat_abs, of_z}
use Rattle.std.proofs.Common.{Bool, true, false, not, cond, ◌==◌, nat_lt, refl, ap, sym, ◌∙◌, arith}
use mir.Syntax.{w16}
use mir.Val.{SFits}
use Rattle.std.proofs.lemmas.Bool.Decides.{nat_tests}
use Rattle.level_spec.specs.Scale.{last_place}

pub last-next : (test : ℕ → Bool) (n : ℕ) → last_place test (n + 1) ≡ cond (test n) (n + 1) (last_place test n)
unfolding last_place
last-next test n = let e : n + 1 ≡ suc n = omega arith in ap (last_place test) e ∙ ap (λ k. cond (test n) k (last_place test n)) (sym e)

pub zero_test : (z : ℤ) → SFits w16 z → of_z w16 z ≡ 0 → not (nat_abs z == 0) ≡ false
zero_test (pos n) f h = ap (λ k. not (k == 0)) h
zero_test (negsuc n) f h = absurd (let g = f.sfits in omega arith)

pub positive_test : (n : ℕ) → 0 < n → not (n == 0) ≡ true
positive_test n h = grind (arith, nat_tests)

pub not_zero_test : (z : ℤ) → (of_z w16 z ≡ 0 → ⊥) → not (nat_abs z == 0) ≡ true
not_zero_test (pos zero) h = absurd (h refl)
not_zero_test (pos (suc n)) h = positive_test (suc n) (omega arith)
not_zero_test (negsuc n) h = positive_test (suc n) (omega arith)

pub test-true : (a b : ℕ) → a < b → nat_lt a b ≡ true
test-true a b h = grind (arith, nat_tests)

pub test-false : (a b : ℕ) → b ≤ a → nat_lt a b ≡ false
test-false a b h = grind (arith, nat_tests)
