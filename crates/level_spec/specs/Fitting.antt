-- From a target to the coefficients of a filter, the greatest of which is 255 in size. The error of each rounding is fed back to
-- the values before it, by the row that predicts it from them.
use Rattle.std.specs.Prelude.{ℕ, zero, suc, ◌*◌, ◌^◌, ◌==◌, max, ℤ, pos, neg_ℤ, ◌+ℤ◌, ◌-ℤ◌, ◌*ℤ◌, nat_abs, if◌then◌else◌}
use Rattle.std.specs.Prelude.{List, [], ◌∷◌, ◌++◌, length, map, get_or, fold}
use Rattle.std.specs.Int.{int_div_euclid, int_min, int_max}
use Rattle.std.specs.List.{range_with_len}
use Rattle.level_spec.specs.Recursion.{State, whole}
use Rattle.level_spec.specs.Scale.{bounded, without_zeros}
use Rattle.level_spec.specs.Rows.{row_value}

unfoldable pub greatest : List ℤ → ℕ
greatest x = fold (λ most a. max most (nat_abs a)) 0 x

-- values with 24 fraction bits, the greatest of which is 255 in size
abbrev pub at_255 : List ℤ → List ℤ
at_255 x = map (λ a. int_div_euclid (a *ℤ pos (255 * 2 ^ 24)) (pos (greatest x))) x

-- a value with 24 fraction bits as a coefficient
abbrev pub nearest : ℤ → ℤ
nearest v = bounded (whole (v +ℤ pos (2 ^ 23)))

-- the coefficient less the value, at most 1 in size
abbrev pub rounding : ℤ → ℤ
rounding v = int_max (neg_ℤ (pos (2 ^ 24))) (int_min (pos (2 ^ 24)) (nearest v *ℤ pos (2 ^ 24) -ℤ v))

-- the values before the i-th, when the error of its rounding is fed back; where there is no row i, they stay
unfoldable pub fed_back : List State → List ℤ → ℕ → List ℤ
fed_back rows v i = map (λ j. get_or v j (pos 0) -ℤ whole (rounding (get_or v i (pos 0)) *ℤ row_value rows i j)) (range_with_len 0 i)

-- the first n values as coefficients, from the last one to the first
unfoldable pub fit_down : List State → List ℤ → ℕ → List ℤ
fit_down rows v zero = []
fit_down rows v (suc i) = fit_down rows (fed_back rows v i) i ++ nearest (get_or v i (pos 0)) ∷ []

unfoldable pub fitted : List State → List ℤ → List ℤ
fitted rows x = if greatest x == 0 then pos 0 ∷ [] else without_zeros (fit_down rows (at_255 x) (length x))
