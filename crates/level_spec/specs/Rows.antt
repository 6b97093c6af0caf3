-- The recursion by which filters are refined: it begins with a little more than R(0), a ridge, and each of its states is a row.
use Rattle.std.specs.Prelude.{ℕ, zero, suc, ◌+◌, ◌-◌, ◌^◌, min, ℤ, pos, ◌*ℤ◌, int_lt, nat_abs, Bool, ◌||◌, nat_lt, nat_le, if◌then◌else◌}
use Rattle.std.specs.Prelude.{List, [], ◌++◌, length, map, replicate, get_or}
use Rattle.std.specs.List.{range_with_len, list_any}
use Rattle.level_spec.specs.Recursion.{State, lag, value, reflection, moved, fallen}

unfoldable pub first_row : List ℤ → State
first_row lags = record { error = lag lags 0 *ℤ pos (2 ^ 24 + 64); values = [] }

-- a step stops where the next value is 1 or greater in size, where less would be left to predict than R(0), or a value would be
-- greater in size than 2 ^ 8
unfoldable pub row_stops : List ℤ → ℤ → ℤ → List ℤ → Bool
row_stops lags f error values =
    nat_le (2 ^ 24) (nat_abs f) || (int_lt error (lag lags 0) || list_any (λ b. nat_lt (2 ^ 32) (nat_abs b)) values)

-- one step; where it stops, all is as it was
unfoldable pub next_row : List ℤ → State → State
next_row lags s =
    let i = length s.values + 1 in
    let f = reflection lags s i in
    let values = moved s.values f i in
    if row_stops lags f (fallen s.error f) values then s else (record { error = fallen s.error f; values = values })

-- the state after n steps
unfoldable pub row_after : List ℤ → ℕ → State
row_after lags zero = first_row lags
row_after lags (suc n) = next_row lags (row_after lags n)

-- the states at the beginning of each of N steps, up to the one that stops
abbrev pub row_count : List ℤ → ℕ → ℕ
row_count lags N = min N (length (row_after lags N).values + 1)

unfoldable pub rows : List ℤ → ℕ → List State
rows lags N = map (row_after lags) (range_with_len 0 (row_count lags N))

-- a(1) to a(N), which are 0 from the step on that stopped
unfoldable pub row_solution : List ℤ → ℕ → List ℤ
row_solution lags N = let values = (row_after lags N).values in values ++ replicate (N - length values) (pos 0)

-- where there is no row, there are no values
abbrev pub no_row : State
no_row = record { error = pos 0; values = [] }

-- by this row i predicts place i from place j before it
abbrev pub row_value : List State → ℕ → ℕ → ℤ
row_value rows i j = value (get_or rows i no_row).values (i - j)
