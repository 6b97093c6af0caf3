-- Rows that stand side by side in arrays.
use Rattle.std.specs.Prelude.{◌≡◌, ℕ, ◌^◌, ◌<◌, ◌≤◌, ℤ, pos, ◌≤ℤ◌, nat_abs, List, [], length, map, take, get_or}
use Rattle.std.specs.List.{range_with_len}
use Rattle.level_spec.specs.Recursion.{State}
use Rattle.level_spec.specs.Rows.{no_row}

-- of each the error, and as many values as there are before it
abbrev pub states : List ℤ → List (List ℤ) → ℕ → List State
states errors values count = map (λ k. record { error = get_or errors k (pos 0); values = take k (get_or values k []) }) (range_with_len 0 count)

-- a row of k values of at most 32 bits, with an error from 1 to 2 ^ 45
pub record IsNthRow (k : ℕ) (s : State) : Type 0 where
  pub long : length s.values ≡ k
  pub small : (j : ℕ) → nat_abs (get_or s.values j (pos 0)) ≤ 2 ^ 32
  pub least : pos 1 ≤ℤ s.error
  pub most : s.error ≤ℤ pos (2 ^ 45)

pub record AreNthRows (rows : List State) : Type 0 where
  pub each : (k : ℕ) → k < length rows → IsNthRow k (get_or rows k no_row)
