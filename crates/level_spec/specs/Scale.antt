-- From values with 24 fraction bits to the coefficients of a filter.
use Rattle.std.specs.Prelude.{ℕ, zero, suc, ◌^◌, max, ℤ, pos, ◌+ℤ◌, ◌*ℤ◌, int_lt, nat_abs, Bool, not, ◌&&◌, ◌==◌, if◌then◌else◌, List, length, map}
use Rattle.std.specs.Prelude.{take, get_or}
use Rattle.std.specs.Int.{int_min, int_max}
use Rattle.std.specs.List.{list_all}
use Rattle.dst_spec.specs.Table.{filter_kind}
use Rattle.level_spec.specs.Recursion.{whole}

-- a value as a coefficient at scale g, rounded
abbrev pub coefficient : ℕ → ℤ → ℤ
coefficient g a = whole (a *ℤ pos (2 ^ g) +ℤ pos (2 ^ 23))

abbrev pub is_coefficient : ℤ → Bool
is_coefficient q = not (int_lt q filter_kind.least) && not (int_lt filter_kind.greatest q)

-- the greatest scale from 1 to g at which all values are coefficients, else 0
unfoldable pub scale : ℕ → List ℤ → ℕ
scale zero values = 0
scale (suc g) values = if list_all (λ a. is_coefficient (coefficient (suc g) a)) values then suc g else scale g values

-- a number, or the nearer bound of coefficients
abbrev pub bounded : ℤ → ℤ
bounded q = int_max filter_kind.least (int_min filter_kind.greatest q)

-- 1 and the greatest place below n at which the test passes, or 0 where there is none
unfoldable pub last_place : (ℕ → Bool) → ℕ → ℕ
last_place test zero = 0
last_place test (suc n) = if test n then suc n else last_place test n

-- the first coefficient, and all up to the last one that isn't 0
abbrev pub without_zeros : List ℤ → List ℤ
without_zeros coefs = take (max 1 (last_place (λ j. not (nat_abs (get_or coefs j (pos 0)) == 0)) (length coefs))) coefs

unfoldable pub quantised : List ℤ → List ℤ
quantised values = without_zeros (map (λ a. bounded (coefficient (scale 8 values) a)) values)
