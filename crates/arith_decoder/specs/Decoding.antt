-- An arithmetic decoder at work, and the symbols that it has decoded.
use Rattle.std.specs.Prelude.{◌≡◌, ◌⊎◌, ℕ, ◌+◌, ◌<◌, Bool, List, get_or}
use Rattle.dst_spec.specs.Bits.{bits, number_from}
use Rattle.dst_spec.specs.Interval.{interval, code_number}
use Rattle.dst_spec.specs.Fields.{Fields, gives, code, ◌>>=◌}
use Rattle.dst_spec.specs.Offends.{first_bit_rule, range_of_code_rule}
use Rattle.dst_spec.specs.declared.faults.FrameFault.{FrameFault}
use Rattle.dst_spec.specs.declared.faults.Reason.TheVariants.{FirstCodeBit, CodeRange}

-- The lent bytes, the place of the first code bit, the range, how far the code's number lies above the low end, and how many bits of
-- the code are used.
pub record Decoding : Type 0 where
  pub bytes : List ℕ
  pub first : ℕ
  pub range : ℕ
  pub offset : ℕ
  pub used : ℕ

-- The decoder has decoded these symbols with their probabilities, the oldest first: it has the range of their interval, the
-- offset is what the code's number has above the low end, and lies below the range, and the used bits are the
-- first code bit, twelve, and one for each doubling.
pub record StandsFor (d : Decoding) (pairs : List (Bool × ℕ)) : Type 0 where
  pub range : d.range ≡ (interval pairs).range
  pub offset : (interval pairs).low + d.offset ≡ code_number (bits d.bytes) d.first (interval pairs).doublings
  pub below : d.offset < d.range
  pub used : d.used ≡ 13 + (interval pairs).doublings

-- what is wrong with a code from place i on: its first bit is 1, or else the twelve behind that are all 1
abbrev pub IsCodeFault : List ℕ → ℕ → FrameFault → Type 0
IsCodeFault xs i fault =
    ((get_or xs i 0 ≡ 1) × (fault ≡ record { reason = FirstCodeBit; bit = i }))
    ⊎ ((get_or xs i 0 ≡ 0) × (number_from xs (i + 1) 12 ≡ 4095) × (fault ≡ record { reason = CodeRange; bit = i + 1 }))

-- the fields that a coded frame has behind its header
abbrev pub code_fields : Fields ℕ
code_fields = do
  first ← code 1 first_bit_rule gives
  code 12 range_of_code_rule gives
