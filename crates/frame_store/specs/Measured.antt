-- Codes that are measured side by side.
use Rattle.std.specs.Prelude.{◌≡◌, ℕ, ◌+◌, Bool, List}
use Rattle.dst_spec.specs.Interval.{interval}
use Rattle.dst_spec.specs.Laws.{AreAlike}
use Rattle.arith_core.specs.Range.{IsRange}

-- this is the range of the symbols' interval, and the bits are 13 and one for each doubling
pub record IsMeasured (pairs : List (Bool × ℕ)) (range bits : ℕ) : Type 0 where
  pub doublings : ℕ
  pub in_range : IsRange range
  pub alike : AreAlike (interval pairs) (record { low = 0; range = range; doublings = doublings })
  pub bits_are : bits ≡ 13 + doublings
