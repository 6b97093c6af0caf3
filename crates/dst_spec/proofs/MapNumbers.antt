-- The numbers of a map, one after the other.
use Rattle.std.proofs.Common.{◌≡◌, ℕ, ◌+◌, ◌<◌, ◌≤◌, ◌^◌, max, nat_lt, Bool, true, false, cond, List, [], ◌∷◌, length, get_or, drop, zero, suc}
use Rattle.std.proofs.Common.{Option, Some, None, refl, subst, arith, ltb-true, ltb-false}
use Rattle.std.specs.List.{fold}
use Rattle.std.proofs.lemmas.List.{drop_more}
use Rattle.dst_spec.specs.Map.{Numbers, map_bits}
use Rattle.dst_spec.specs.Offends.{number_rule}
use Rattle.dst_spec.specs.declared.faults.Reason.{Reason}
use Rattle.dst_spec.specs.declared.faults.Reason.TheVariants.{MapSkips}

-- each number is below the count of different ones
fold-least : (count : ℕ) (es : List ℕ) → count ≤ fold (λ n e. max n (e + 1)) count es
fold-least count [] = omega arith
fold-least count (e ∷ es) = omega (arith, fold-least (max count (e + 1)) es)

pub element-below : (count : ℕ) (es : List ℕ) (i : ℕ) → i < length es → get_or es i 0 < fold (λ n e. max n (e + 1)) count es
element-below count [] i h = absurd (omega arith)
element-below count (e ∷ es) zero h = omega (arith, fold-least (max count (e + 1)) es)
element-below count (e ∷ es) (suc i) h = element-below (max count (e + 1)) es i (omega arith)

-- the number at a place obeys its rule, and so do those behind it
pub numbers_on : (xs : List ℕ) (i count : ℕ) → i < length xs → Numbers count (drop i xs) →
    (get_or xs i 0 ≤ count) × Numbers (max count (get_or xs i 0 + 1)) (drop (i + 1) xs)
unfolding Numbers
numbers_on xs i count lt h = subst (Numbers count) (drop_more xs i 0 lt) h

-- a number fits in its bits
pub number-fits : (count e : ℕ) → e ≤ count → count < 8 → e < 2 ^ map_bits count
number-fits count e h k = fits (nat_lt count 2) (nat_lt count 4) refl refl
  where
    fits : (a b : Bool) → nat_lt count 2 ≡ a → nat_lt count 4 ≡ b → e < 2 ^ (cond a 1 (cond b 2 3))
    fits true b p q = omega (arith, ltb-true)
    fits false true p q = omega (arith, ltb-true)
    fits false false p q = omega arith

-- what the rule lets pass
pub within-count : (count e : ℕ) → number_rule count e ≡ None → e ≤ count
within-count count e h = go (nat_lt count e) refl h
  where
    go : (b : Bool) → nat_lt count e ≡ b → ◌≡◌ {A = Option Reason} (cond b (Some MapSkips) None) None → e ≤ count
    go true p q = absurd cc
    go false p q = ltb-false count e p
