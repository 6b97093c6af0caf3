-- Steps of the recursion with a ridge: how many values there are, that a stop lasts, and that all numbers stay small.
use Rattle.std.proofs.Common.{◌≡◌, ◌⊎◌, ℕ, zero, suc, ◌+◌, ◌-◌, ◌^◌, ◌<◌, ◌≤◌, ℤ, pos, ◌*ℤ◌, ◌≤ℤ◌, int_lt, nat_abs, Bool, true, false, cond, ◌||◌}
use Rattle.std.proofs.Common.{nat_lt, nat_le, List, [], ◌∷◌, length, refl, ap, ◌∙◌, arith, length-append, add-suc, inl, inr, sym}
use Rattle.std.proofs.lemmas.Int.{ints}
use Rattle.std.proofs.lemmas.Bool.Decides.{nat_tests}
use Rattle.std.proofs.lemmas.List.{length-replicate}
use Rattle.std.specs.List.{AllByRecursion, list_any}
use Rattle.level_spec.specs.Recursion.{State, lag, reflection, moved, fallen}
use Rattle.level_spec.specs.Rows.{first_row, row_stops, next_row, row_after, row_solution}
use Rattle.level_spec.proofs.Steps.{length-moved}
use Rattle.level_spec.proofs.Bounds.{fallen-bounds}

-- the parts of a step
abbrev pub row_reflection : List ℤ → State → ℤ
row_reflection lags s = reflection lags s (length s.values + 1)

abbrev pub row_moved : List ℤ → State → List ℤ
row_moved lags s = moved s.values (row_reflection lags s) (length s.values + 1)

abbrev pub does_stop : List ℤ → State → Bool
does_stop lags s = row_stops lags (row_reflection lags s) (fallen s.error (row_reflection lags s)) (row_moved lags s)

-- a step in both its cases
pub by_row_step : (P : State → Type 0) (lags : List ℤ) (s : State) → (does_stop lags s ≡ true → P s)
    → (does_stop lags s ≡ false → P (record { error = fallen s.error (row_reflection lags s); values = row_moved lags s }))
    → P (next_row lags s)
unfolding next_row
by_row_step P lags s at_stop on =
    let next : State = record { error = fallen s.error (row_reflection lags s); values = row_moved lags s } in
    elim (does_stop lags s) as (λ b. (does_stop lags s ≡ b) → P (cond b s next)) [ true ↦ λ e. at_stop e | false ↦ λ e. on e ] refl

pub length-next_row : (lags : List ℤ) (s : State) → length (next_row lags s).values ≤ length s.values + 1
length-next_row lags s =
    by_row_step (λ t. length t.values ≤ length s.values + 1) lags s (λ _. omega arith)
    (λ _. omega (arith, length-moved s.values (row_reflection lags s) (length s.values + 1) (omega arith)))

pub length-row_after : (lags : List ℤ) (n : ℕ) → length (row_after lags n).values ≤ n
unfolding row_after first_row
length-row_after lags zero = omega arith
length-row_after lags (suc n) = omega (arith, length-next_row lags (row_after lags n), length-row_after lags n)

-- a step that is made has one value more
pub made_or_stopped : (lags : List ℤ) (s : State) → (next_row lags s ≡ s) ⊎ (length (next_row lags s).values ≡ length s.values + 1)
made_or_stopped lags s = by_row_step (λ t. (t ≡ s) ⊎ (length t.values ≡ length s.values + 1)) lags s (λ _. inl refl)
    (λ _. inr (length-moved s.values (row_reflection lags s) (length s.values + 1) (omega arith)))

-- a stop leaves all as it is, and so does every step after it
pub row_after-stop : (lags : List ℤ) (n m : ℕ) → next_row lags (row_after lags n) ≡ row_after lags n → row_after lags (n + m) ≡ row_after lags n
unfolding row_after
row_after-stop lags n zero h = ap (row_after lags) (omega arith)
row_after-stop lags n (suc m) h = ap (row_after lags) (add-suc n m) ∙ ap (next_row lags) (row_after-stop lags n m h) ∙ h

pub length-row_solution : (lags : List ℤ) (N : ℕ) → length (row_solution lags N) ≡ N
unfolding row_solution
length-row_solution lags N =
    let values = (row_after lags N).values in
    omega (arith, length-append {A = ℤ}, length-replicate (N - length values) (pos 0), length-row_after lags N)

pub none_above_32 : (values : List ℤ) → list_any (λ b. nat_lt (2 ^ 32) (nat_abs b)) values ≡ false → AllByRecursion (λ a. nat_abs a ≤ 2 ^ 32) values
none_above_32 [] h = tt
none_above_32 (a ∷ values) h =
    elim (nat_lt (2 ^ 32) (nat_abs a)) as (λ b. (nat_lt (2 ^ 32) (nat_abs a) ≡ b) → (b || list_any (λ b. nat_lt (2 ^ 32) (nat_abs b)) values) ≡ false →
    AllByRecursion (λ a. nat_abs a ≤ 2 ^ 32) (a ∷ values)) [
      | true ↦ λ e k. absurd (cc)
      | false ↦ λ e k. (grind (arith, nat_tests), none_above_32 values k)
    ] refl h

-- a number that isn't less is at least as great
not-less : (a b : ℤ) → int_lt a b ≡ false → b ≤ℤ a
not-less a b h = omega (arith, ints)

-- a step that goes on has a value below 1, as much left as R(0), and small values
pub row_goes_on : (lags : List ℤ) (f error : ℤ) (values : List ℤ) → row_stops lags f error values ≡ false →
    (nat_abs f < 2 ^ 24) × (lag lags 0 ≤ℤ error) × AllByRecursion (λ a. nat_abs a ≤ 2 ^ 32) values
unfolding row_stops
row_goes_on lags f error values h =
    elim (nat_le (2 ^ 24) (nat_abs f)) as (λ b. (nat_le (2 ^ 24) (nat_abs f) ≡ b) →
    (b || (int_lt error (lag lags 0) || list_any (λ b. nat_lt (2 ^ 32) (nat_abs b)) values)) ≡ false →
    (nat_abs f < 2 ^ 24) × (lag lags 0 ≤ℤ error) × AllByRecursion (λ a. nat_abs a ≤ 2 ^ 32) values) [
      | true ↦ λ e k. absurd (cc)
      | false ↦ λ e k. elim (int_lt error (lag lags 0)) as (λ b. (int_lt error (lag lags 0) ≡ b) →
          (b || list_any (λ b. nat_lt (2 ^ 32) (nat_abs b)) values) ≡ false →
          (nat_abs f < 2 ^ 24) × (lag lags 0 ≤ℤ error) × AllByRecursion (λ a. nat_abs a ≤ 2 ^ 32) values) [
            | true ↦ λ e k. absurd (cc)
            | false ↦ λ d k. (grind (arith, nat_tests), not-less error (lag lags 0) d, none_above_32 values k)
          ] refl k
    ] refl h

-- as much is left as R(0), and no more than at the beginning, and the values have at most 32 bits
pub record IsRow (r0 : ℤ) (s : State) : Type 0 where
  pub least : r0 ≤ℤ s.error
  pub most : s.error ≤ℤ (r0 *ℤ pos (2 ^ 24 + 64))
  pub values : AllByRecursion (λ a. nat_abs a ≤ 2 ^ 32) s.values

pub IsRow-next : (lags : List ℤ) (s : State) → pos 1 ≤ℤ lag lags 0 → IsRow (lag lags 0) s → IsRow (lag lags 0) (next_row lags s)
IsRow-next lags s some h =
    by_row_step (IsRow (lag lags 0)) lags s (λ _. h) (λ e.
    let on = row_goes_on lags (row_reflection lags s) (fallen s.error (row_reflection lags s)) (row_moved lags s) e in
    let positive : pos 1 ≤ℤ s.error = omega (arith, ints, h.least) in
    let bounds = fallen-bounds s.error (row_reflection lags s) positive on.0 in
    record { least = on.1; most = omega (arith, ints, bounds.1, h.most); values = on.2 })

pub IsRow-after : (lags : List ℤ) (n : ℕ) → pos 1 ≤ℤ lag lags 0 → IsRow (lag lags 0) (row_after lags n)
unfolding row_after first_row
IsRow-after lags zero some = record { least = omega (arith, ints); most = omega (arith, ints); values = tt }
IsRow-after lags (suc n) some = IsRow-next lags (row_after lags n) some (IsRow-after lags n some)

length-made-next : (lags : List ℤ) (n k : ℕ) → suc k ≤ length (row_after lags n).values → length (row_after lags k).values ≡ k →
    (next_row lags (row_after lags k) ≡ row_after lags k) ⊎ (length (next_row lags (row_after lags k)).values ≡ length (row_after lags k).values + 1) →
    length (row_after lags (suc k)).values ≡ suc k
unfolding row_after
length-made-next lags n k h before (inl stop) =
    let few = length-row_after lags n in
    let e : k + (n - k) ≡ n = omega arith in
    let same : row_after lags n ≡ row_after lags k = ap (row_after lags) (sym e) ∙ row_after-stop lags k (n - k) stop in
    absurd (omega (arith, ap (λ s. length s.values) same))
length-made-next lags n k h before (inr made) = omega arith

-- each step before the last one that is made is made
pub length-made : (lags : List ℤ) (n k : ℕ) → k ≤ length (row_after lags n).values → length (row_after lags k).values ≡ k
length-made lags n zero h = omega (arith, length-row_after lags 0)
length-made lags n (suc k) h =
    let before = length-made lags n k (omega arith) in
    length-made-next lags n k h before (made_or_stopped lags (row_after lags k))
