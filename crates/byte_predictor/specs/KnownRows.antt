-- A filter as rows of sums over samples that are known: what each byte of them adds, to its own samples too.
use Rattle.std.specs.Prelude.{◌≡◌, ◌⊎◌, ℕ, ◌+◌, ◌<◌, ◌≤◌, ℤ, List, [], length, get_or, drop}
use Rattle.dst_spec.specs.Table.{filter_kind, IsTable}
use Rattle.byte_predictor.specs.Samples.{rising_bits}
use Rattle.byte_predictor.specs.Upward.{upward_sum, size_sum, shifted}

-- the numbers of lanes that may have sums
abbrev pub IsReach : ℕ → Type 0
IsReach reach = (reach ≡ 24) ⊎ ((reach ≡ 40) ⊎ ((reach ≡ 72) ⊎ (reach ≡ 136)))

-- Row `byte` has for each lane what a byte of samples adds to the sample that stands so many places behind its first one.
pub record HasKnownRows (coefs : List ℤ) (rows : List (List ℕ)) (size reach : ℕ) : Type 0 where
  pub table : IsTable filter_kind coefs
  pub added : (byte lane : ℕ) → byte < 256 → lane < reach → get_or (get_or rows byte []) lane 0 ≡ upward_sum (drop lane (shifted coefs)) (rising_bits 8 byte)
  pub sizes : size ≡ size_sum coefs
  pub is_reach : IsReach reach
  pub all : 8 + length coefs ≤ reach
