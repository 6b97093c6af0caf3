-- What the registers of a decoder hold. The offset stands in the twelve highest bits of its register.
use Rattle.std.specs.Prelude.{◌≡◌, ℕ, ◌+◌, ◌-◌, ◌*◌, ◌/◌, ◌^◌, ◌<◌, ◌≤◌, Bool, if◌then◌else◌, nat_lt, List, length, get_or}
use Rattle.dst_spec.specs.Bits.{bits, number_from}
use Rattle.dst_spec.specs.Interval.{scale}
use Rattle.arith_core.specs.Range.{IsRange, IsShift}

-- The value: the offset, the next bits of the code, which begin at a place, a bit 1, and zeros.
pub record IsValue (xs : List ℕ) (start place offset value : ℕ) : Type 0 where
  pub ahead : ℕ
  pub zeros : ℕ
  pub full : ahead + zeros ≡ 51
  pub reach : start + ahead ≡ place
  pub is : value ≡ offset * 2 ^ 52 + (2 * number_from xs start ahead + 1) * 2 ^ zeros

-- A doubling can be due: where the range is below 2048, it and the value are doubled before the next symbol.
abbrev pub due : ℕ → ℕ → ℕ
due range x = if nat_lt range 2048 then (2 * x) else x

-- all registers, with no doubling due, of a decoder that has used some bits of its code, which begins at a place
pub record AreRegisters (bytes : List ℕ) (first used place value range : ℕ) : Type 0 where
  pub short : length bytes ≤ 2 ^ 50
  pub early : first < 2 ^ 61
  pub near : place < 2 ^ 62
  pub some : 13 ≤ used
  pub in_range : IsRange range
  pub below : value < range * 2 ^ 52
  pub holds : IsValue (bits bytes) (first + used) place (value / 2 ^ 52) value

-- the value whose gap this is: how far it lies below the end of the range
abbrev pub value_below : ℕ → ℕ → ℕ
value_below range gap = range * 2 ^ 52 - gap

-- the scale of the ranges that have the same six highest bits, doubled where that is due
abbrev pub scale_at : ℕ → ℕ
scale_at six = scale (due (64 * six) (64 * six))

-- the power of 2 with which a probability has eight bits
pub record IsFactor (p factor : ℕ) : Type 0 where
  pub shift : ℕ
  pub power : factor ≡ 2 ^ shift
  pub shifted : IsShift p shift

-- the row of a probability: its factor, and its part for each six highest bits of a range
pub record IsRow (p : ℕ) (row : List ℕ) : Type 0 where
  pub long : 63 * 128 < length row
  pub factor : IsFactor p (get_or row 0 0)
  pub part : (six : ℕ) → 16 ≤ six → six < 64 → get_or row (six * 128) 0 ≡ scale_at six * p

-- what a symbol of a probability needs for a range
pub record IsCut (p range part factor : ℕ) : Type 0 where
  pub part_is : part ≡ scale range * p
  pub factor_is : IsFactor p factor

-- One symbol: the value and the range become those of its part, doubled until the range is at least half of what fits.
abbrev pub high_end : ℕ → ℕ → ℕ
high_end range p = range - scale range * p

pub record IsStep (p value range : ℕ) (symbol : Bool) (value_after range_after : ℕ) : Type 0 where
  pub chosen : symbol ≡ nat_lt (value / 2 ^ 52) (high_end range p)
  pub doublings : ℕ
  pub few : doublings ≤ 8
  pub value_is : value_after ≡ (if symbol then value else (value - high_end range p * 2 ^ 52)) * 2 ^ doublings
  pub range_is : range_after ≡ (if symbol then high_end range p else (scale range * p)) * 2 ^ doublings
  pub after : IsRange range_after
  pub below : value_after < range_after * 2 ^ 52
