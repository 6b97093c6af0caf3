-- The recursion's error stays 1 or greater, and its values stay small.
use Rattle.std.proofs.Common.{◌≡◌, ℕ, zero, suc, ◌+◌, ◌-◌, ◌*◌, ◌/◌, ◌^◌, ◌<◌, ◌≤◌, ℤ, pos, negsuc, ◌-ℤ◌, ◌*ℤ◌, ◌≤ℤ◌, nat_abs, true, false, ◌||◌}
use Rattle.std.proofs.Common.{nat_lt, nat_le, List, [], ◌∷◌, length, refl, ap, arith}
use Rattle.std.proofs.lemmas.Int.{ints}
use Rattle.std.proofs.lemmas.Bool.Decides.{nat_tests}
use Rattle.std.proofs.lemmas.Nat.{div_below, mul-le}
use Rattle.std.specs.List.{AllByRecursion, list_any}
use Rattle.level_spec.specs.Recursion.{State, lag, whole, begin, reflection, moved, stops, fallen, step, after}
use Rattle.level_spec.proofs.Steps.{by_step}

pub square : (f : ℤ) → f *ℤ f ≡ pos (nat_abs f * nat_abs f)
square (pos n) = refl
square (negsuc n) = refl

-- what the error falls by is less than the error
pub share-below : (q e : ℕ) → 1 ≤ e → q < 2 ^ 24 → q * e / 2 ^ 24 < e
share-below q e h k = div_below (q * e) (2 ^ 24) e (omega arith) (omega (arith, mul-le q e (2 ^ 24 - 1) e (omega arith) (omega arith)))

pub fallen-bounds : (error f : ℤ) → pos 1 ≤ℤ error → nat_abs f < 2 ^ 24 → (pos 1 ≤ℤ fallen error f) × (fallen error f ≤ℤ error)
unfolding fallen
fallen-bounds (pos e) f h k =
    let a = nat_abs f in
    let q = a * a / 2 ^ 24 in
    let least : 1 ≤ e = omega (arith, ints) in
    let small : a * a ≤ (2 ^ 24 - 1) * (2 ^ 24 - 1) = mul-le a a (2 ^ 24 - 1) (2 ^ 24 - 1) (omega arith) (omega arith) in
    let part : q < 2 ^ 24 = div_below (a * a) (2 ^ 24) (2 ^ 24) (omega arith) (omega arith) in
    let less = share-below q e least part in
    let is : fallen (pos e) f ≡ pos e -ℤ pos (q * e / 2 ^ 24) = ap (λ s. pos e -ℤ whole (whole s *ℤ pos e)) (square f) in
    (omega (arith, ints), omega (arith, ints))
fallen-bounds (negsuc e) f h k = absurd (omega (arith, ints))

pub none_above : (values : List ℤ) → list_any (λ b. nat_lt (2 ^ 40) (nat_abs b)) values ≡ false → AllByRecursion (λ a. nat_abs a ≤ 2 ^ 40) values
none_above [] h = tt
none_above (a ∷ values) h =
    elim (nat_lt (2 ^ 40) (nat_abs a)) as (λ b. (nat_lt (2 ^ 40) (nat_abs a) ≡ b) → (b || list_any (λ b. nat_lt (2 ^ 40) (nat_abs b)) values) ≡ false →
    AllByRecursion (λ a. nat_abs a ≤ 2 ^ 40) (a ∷ values)) [
      | true ↦ λ e k. absurd (cc)
      | false ↦ λ e k. (grind (arith, nat_tests), none_above values k)
    ] refl h

-- a step that goes on has a value below 1 and small values
pub goes_on : (f : ℤ) (values : List ℤ) → stops f values ≡ false → (nat_abs f < 2 ^ 24) × AllByRecursion (λ a. nat_abs a ≤ 2 ^ 40) values
unfolding stops
goes_on f values h =
    elim (nat_le (2 ^ 24) (nat_abs f)) as (λ b. (nat_le (2 ^ 24) (nat_abs f) ≡ b) → (b || list_any (λ b. nat_lt (2 ^ 40) (nat_abs b)) values) ≡ false →
    (nat_abs f < 2 ^ 24) × AllByRecursion (λ a. nat_abs a ≤ 2 ^ 40) values) [
      | true ↦ λ e k. absurd (cc)
      | false ↦ λ e k. (grind (arith, nat_tests), none_above values k)
    ] refl h

-- the error is from 1 to its beginning, and the values have at most 40 bits
pub record IsSmall (most : ℤ) (s : State) : Type 0 where
  pub positive : pos 1 ≤ℤ s.error
  pub fallen : s.error ≤ℤ most
  pub values : AllByRecursion (λ a. nat_abs a ≤ 2 ^ 40) s.values

pub step-small : (lags : List ℤ) (most : ℤ) (s : State) → IsSmall most s → IsSmall most (step lags s)
step-small lags most s h =
    let i = length s.values + 1 in
    let f = reflection lags s i in
    by_step (IsSmall most) lags s (λ _. h) (λ e.
    let small = goes_on f (moved s.values f i) e in
    let bounds = fallen-bounds s.error f h.positive small.0 in
    record { positive = bounds.0; fallen = omega (arith, ints, bounds.1, h.fallen); values = small.1 })

pub after-small : (lags : List ℤ) (n : ℕ) → pos 1 ≤ℤ lag lags 0 → IsSmall (lag lags 0 *ℤ pos (2 ^ 24)) (after lags n)
unfolding after begin
after-small lags zero h = record { positive = omega (arith, ints); fallen = omega (arith, ints); values = tt }
after-small lags (suc n) h = step-small lags (lag lags 0 *ℤ pos (2 ^ 24)) (after lags n) (after-small lags n h)
