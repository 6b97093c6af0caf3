-- What holds of the definitions.
use Rattle.std.specs.Prelude.{◌≡◌, ℕ, ◌+◌, ◌^◌, ◌<◌, ◌≤◌, ℤ, pos, ◌*ℤ◌, ◌≤ℤ◌, nat_abs, List, length, get_or}
use Rattle.std.specs.List.{AllByRecursion}
use Rattle.dst_spec.specs.Sample.{Shape, IsShape}
use Rattle.dst_spec.specs.Header.{IsParams}
use Rattle.dst_spec.specs.Spell.{stored}
use Rattle.level_spec.specs.Correlation.{correlations}
use Rattle.level_spec.specs.Recursion.{lag, step, after}
use Rattle.level_spec.specs.Rows.{no_row, rows}
use Rattle.level_spec.specs.Picks.{level_picks}

-- what correlations of up to six channels are like: R(0) is from 1 to 2 ^ 20, and no other is greater in size
pub record AreCorrelations (lags : List ℤ) : Type 0 where
  pub least : pos 1 ≤ℤ lag lags 0
  pub most : lag lags 0 ≤ℤ pos (2 ^ 20)
  pub others : (k : ℕ) → nat_abs (lag lags k) ≤ nat_abs (lag lags 0)

-- those of some channels of a frame are like that
abbrev pub CorrelationsLaw : Type 0
CorrelationsLaw =
    (f : Shape) (sound channels : List ℕ) → IsShape f → 1 ≤ length channels → length channels ≤ 6 → AreCorrelations (correlations f sound channels)

-- one recursion gives the values of each order: the first n steps need the correlations up to lag n alone, and what one step leaves
-- as it is, all later ones do
abbrev pub OneRecursionLaw : Type 0
OneRecursionLaw =
    ((lags others : List ℤ) (n : ℕ) → ((k : ℕ) → k ≤ n → lag lags k ≡ lag others k) → after lags n ≡ after others n)
    × ((lags : List ℤ) (n m : ℕ) → step lags (after lags n) ≡ after lags n → after lags (n + m) ≡ after lags n)

-- no divisor of the recursion is 0, and all its numbers stay small
abbrev pub BoundsLaw : Type 0
BoundsLaw =
    (lags : List ℤ) (n : ℕ) → AreCorrelations lags →
    (pos 1 ≤ℤ (after lags n).error)
    × ((after lags n).error ≤ℤ pos (2 ^ 44))
    × (length (after lags n).values ≤ n)
    × AllByRecursion (λ a. nat_abs a ≤ 2 ^ 40) (after lags n).values

-- the picks of a level are few, and each is lawful parameters of the channels
abbrev pub PicksLaw : Type 0
PicksLaw =
    (level : ℕ) (sound : List ℕ) (f : Shape) → IsShape f →
    (length (level_picks level sound f) ≤ 11) × AllByRecursion (IsParams f.channels) (level_picks level sound f)

-- a frame stored with the picks of level 3 is never longer than one with those of level 2
abbrev pub NeverLongerLaw : Type 0
NeverLongerLaw =
    (sound : List ℕ) (f : Shape) → length (stored f sound (level_picks 3 sound f)) ≤ length (stored f sound (level_picks 2 sound f))

-- There are 1 to N rows, and row k has k values of at most 32 bits. What is left to predict, by which solving divides, is from
-- R(0) to what it begins with.
abbrev pub RowsLaw : Type 0
RowsLaw =
    (lags : List ℤ) (N : ℕ) → AreCorrelations lags → 1 ≤ N →
    (1 ≤ length (rows lags N))
    × (length (rows lags N) ≤ N)
    × ((k : ℕ) → k < length (rows lags N) →
    (length (get_or (rows lags N) k no_row).values ≡ k)
    × AllByRecursion (λ a. nat_abs a ≤ 2 ^ 32) (get_or (rows lags N) k no_row).values
    × (lag lags 0 ≤ℤ (get_or (rows lags N) k no_row).error)
    × ((get_or (rows lags N) k no_row).error ≤ℤ (lag lags 0 *ℤ pos (2 ^ 24 + 64))))
