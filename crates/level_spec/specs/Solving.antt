-- By the rows, the values whose correlations are given: the equations of a Toeplitz matrix.
use Rattle.std.specs.Prelude.{ℕ, ◌+◌, ◌-◌, ◌^◌, ℤ, pos, ◌-ℤ◌, ◌*ℤ◌, nat_abs, Bool, nat_lt, if◌then◌else◌, List, length, map, get_or, Option, Some, None}
use Rattle.std.specs.Int.{int_div_euclid}
use Rattle.std.specs.List.{range_with_len, list_any}
use Rattle.level_spec.specs.Correlation.{sum_over}
use Rattle.level_spec.specs.Recursion.{State, whole}
use Rattle.level_spec.specs.Rows.{no_row, row_value}

-- what row i leaves of the i-th one
unfoldable pub left_by : List State → List ℤ → ℕ → ℤ
left_by rows y i = get_or y i (pos 0) *ℤ pos (2 ^ 24) -ℤ sum_over (λ j. row_value rows i j *ℤ get_or y j (pos 0)) 0 i

-- by this the i-th value grows, and those before it follow
unfoldable pub growth : List State → List ℤ → ℕ → ℤ
growth rows y i = int_div_euclid (left_by rows y i *ℤ pos (2 ^ 24)) (get_or rows i no_row).error

-- the j-th value: its own growth, less what follows from those behind it
unfoldable pub grown : List State → List ℤ → ℕ → ℤ
grown rows y j = growth rows y j -ℤ sum_over (λ i. whole (growth rows y i *ℤ row_value rows i j)) (j + 1) (length rows - (j + 1))

-- where one would grow by more than 2 ^ 38, there is no answer
unfoldable pub is_unsolved : List State → List ℤ → Bool
is_unsolved rows y = list_any (λ i. nat_lt (2 ^ 62) (nat_abs (growth rows y i))) (range_with_len 0 (length rows))

unfoldable pub solved : List State → List ℤ → Option (List ℤ)
solved rows y = if is_unsolved rows y then None else Some (map (λ j. whole (grown rows y j)) (range_with_len 0 (length rows)))
