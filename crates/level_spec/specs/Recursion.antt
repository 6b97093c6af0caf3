-- From correlations to a filter's values: the recursion of Levinson and Durbin in whole numbers, with 24 fraction bits.
use Rattle.std.specs.Prelude.{ℕ, zero, suc, ◌+◌, ◌-◌, ◌^◌, ℤ, pos, ◌-ℤ◌, ◌*ℤ◌, nat_abs, Bool, ◌||◌, nat_lt, nat_le, if◌then◌else◌, List, [], ◌∷◌}
use Rattle.std.specs.Prelude.{◌++◌, length, map, replicate, get_or}
use Rattle.std.specs.Int.{int_div_euclid}
use Rattle.std.specs.List.{range_with_len, list_any}
use Rattle.level_spec.specs.Correlation.{sum_over}

-- what is left to predict, and the values a(1), a(2) and on, as many as there were steps
pub record State : Type 0 where
  pub error : ℤ
  pub values : List ℤ

-- R(k), the correlation at lag k, and a(j), the first of which is a(1)
abbrev pub lag : List ℤ → ℕ → ℤ
lag lags k = get_or lags k (pos 0)

abbrev pub value : List ℤ → ℕ → ℤ
value values j = get_or values (j - 1) (pos 0)

-- a number without its 24 fraction bits, rounded down
abbrev pub whole : ℤ → ℤ
whole n = int_div_euclid n (pos (2 ^ 24))

unfoldable pub begin : List ℤ → State
begin lags = record { error = lag lags 0 *ℤ pos (2 ^ 24); values = [] }

-- what the values leave of R(i)
unfoldable pub left_over : List ℤ → List ℤ → ℕ → ℤ
left_over lags values i = lag lags i *ℤ pos (2 ^ 24) -ℤ sum_over (λ j. value values j *ℤ lag lags (i - j)) 1 (i - 1)

-- by this the values are moved in step i, and it is the next value
unfoldable pub reflection : List ℤ → State → ℕ → ℤ
reflection lags s i = int_div_euclid (left_over lags s.values i *ℤ pos (2 ^ 24)) s.error

unfoldable pub moved : List ℤ → ℤ → ℕ → List ℤ
moved values f i = map (λ j. value values j -ℤ whole (f *ℤ value values (i - j))) (range_with_len 1 (i - 1)) ++ f ∷ []

-- a step stops where the next value is 1 or greater in size, or a value would be greater in size than 2 ^ 16
unfoldable pub stops : ℤ → List ℤ → Bool
stops f values = nat_le (2 ^ 24) (nat_abs f) || list_any (λ b. nat_lt (2 ^ 40) (nat_abs b)) values

unfoldable pub fallen : ℤ → ℤ → ℤ
fallen error f = error -ℤ whole (whole (f *ℤ f) *ℤ error)

-- one step; where it stops, all is as it was
unfoldable pub step : List ℤ → State → State
step lags s =
    let i = length s.values + 1 in
    let f = reflection lags s i in
    let values = moved s.values f i in
    if stops f values then s else (record { error = fallen s.error f; values = values })

-- the state after n steps
unfoldable pub after : List ℤ → ℕ → State
after lags zero = begin lags
after lags (suc n) = step lags (after lags n)

-- a(1) to a(N), which are 0 from the step on that stopped
unfoldable pub solution : List ℤ → ℕ → List ℤ
solution lags N = let values = (after lags N).values in values ++ replicate (N - length values) (pos 0)
