-- The interval of a list of symbols with their probabilities, and the number that a code stands for.
use Rattle.std.specs.Prelude.{ℕ, zero, suc, ◌+◌, ◌-◌, ◌*◌, ◌/◌, ◌%◌, ◌<◌, ◌≤◌, Bool, true, false, List, [], ◌∷◌, bit_or, nat_lt, if◌then◌else◌}
use Rattle.dst_spec.specs.Bits.{number_from}

-- the numbers from low on, range of them, in 12 + doublings bits; low has no bound
pub record Interval : Type 0 where
  pub low : ℕ
  pub range : ℕ
  pub doublings : ℕ

-- with no symbol
abbrev pub whole : Interval
whole = record { low = 0; range = 4095; doublings = 0 }

-- the scale of a range: its quotient by 256, with bit 7 of the range put in by OR, not added
abbrev pub scale : ℕ → ℕ
scale range = bit_or (range / 256) (range / 128 % 2)

-- the part of a symbol of probability p: 0 has p times the scale at the upper end, 1 has what is left below
abbrev pub part : Bool → ℕ → Interval → Interval
part true p i = record { low = i.low; range = i.range - scale i.range * p; doublings = i.doublings }
part false p i = record { low = i.low + (i.range - scale i.range * p); range = scale i.range * p; doublings = i.doublings }

abbrev pub double : Interval → Interval
double i = record { low = 2 * i.low; range = 2 * i.range; doublings = i.doublings + 1 }

-- Doubled until the range is at least 2048, at most n times. From a range of 1 this takes 11; symbols of lawful
-- probabilities leave at least 8, from which it takes 8.
unfoldable pub doubled : ℕ → Interval → Interval
doubled zero i = i
doubled (suc n) i = if nat_lt i.range 2048 then doubled n (double i) else i

-- one symbol more
abbrev pub narrowed : Interval → Bool × ℕ → Interval
narrowed i pair = doubled 11 (part pair.0 pair.1 i)

-- the symbols of a list, one after the other, from an interval on
unfoldable pub interval_from : Interval → List (Bool × ℕ) → Interval
interval_from i [] = i
interval_from i (pair ∷ pairs) = interval_from (narrowed i pair) pairs

abbrev pub interval : List (Bool × ℕ) → Interval
interval = interval_from whole

-- The number of a code in 12 + n bits: the code is what follows the first code bit, which is at place i.
abbrev pub code_number : List ℕ → ℕ → ℕ → ℕ
code_number xs i n = number_from xs (i + 1) (12 + n)

-- the code at place i has its number in an interval, and in that of a list of symbols
pub record IsWithin (xs : List ℕ) (i : ℕ) (interval : Interval) : Type 0 where
  pub above : interval.low ≤ code_number xs i interval.doublings
  pub below : code_number xs i interval.doublings < interval.low + interval.range

abbrev pub IsCodeOf : List ℕ → ℕ → List (Bool × ℕ) → Type 0
IsCodeOf xs i pairs = IsWithin xs i (interval pairs)
