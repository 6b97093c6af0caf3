-- The rows: how many there are, and what each is like.
use Rattle.std.proofs.Common.{◌≡◌, ℕ, ◌+◌, ◌^◌, ◌<◌, ◌≤◌, ℤ, pos, ◌*ℤ◌, ◌≤ℤ◌, nat_abs, List, length, get_or, sym, subst, arith}
use Rattle.std.proofs.lemmas.List.FromFn.{length-map-range_with_len, get_or-map-range_with_len}
use Rattle.std.specs.List.{AllByRecursion}
use Rattle.level_spec.specs.Recursion.{State, lag}
use Rattle.level_spec.specs.Rows.{row_after, row_count, rows, no_row}
use Rattle.level_spec.specs.Laws.{AreCorrelations}
use Rattle.level_spec.proofs.RowSteps.{length-made, IsRow-after}

pub length-rows : (lags : List ℤ) (N : ℕ) → length (rows lags N) ≡ row_count lags N
unfolding rows
length-rows lags N = length-map-range_with_len (row_after lags) 0 (row_count lags N)

pub row-is : (lags : List ℤ) (N k : ℕ) → k < row_count lags N → get_or (rows lags N) k no_row ≡ row_after lags k
unfolding rows
row-is lags N k h = get_or-map-range_with_len (row_after lags) 0 (row_count lags N) k k no_row h (omega arith)

pub length-row : (lags : List ℤ) (N k : ℕ) → k < row_count lags N → length (row_after lags k).values ≡ k
length-row lags N k h = length-made lags N k (omega arith)

abbrev pub IsNthRow : ℤ → ℕ → State → Type 0
IsNthRow r0 k s = (length s.values ≡ k) × AllByRecursion (λ a. nat_abs a ≤ 2 ^ 32) s.values × (r0 ≤ℤ s.error) × (s.error ≤ℤ (r0 *ℤ pos (2 ^ 24 + 64)))

pub rows_are_small : (lags : List ℤ) (N : ℕ) → AreCorrelations lags → 1 ≤ N →
    (1 ≤ length (rows lags N))
    × (length (rows lags N) ≤ N)
    × ((k : ℕ) → k < length (rows lags N) → IsNthRow (lag lags 0) k (get_or (rows lags N) k no_row))
rows_are_small lags N h some =
    let long = length-rows lags N in (
      omega arith,
      omega arith,
      λ k below.
          let inside : k < row_count lags N = omega arith in
          let is = IsRow-after lags k h.least in
          subst (IsNthRow (lag lags 0) k) (sym (row-is lags N k inside)) (length-row lags N k inside, is.values, is.least, is.most),
    )
