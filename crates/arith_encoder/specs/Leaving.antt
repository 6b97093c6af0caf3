-- A number that leaves into a writer from its highest bits on, of which the last are held back for a carry.
use Rattle.std.specs.Prelude.{ℕ, ◌+◌, ◌-◌, ◌*◌, ◌^◌, ◌<◌, ◌≤◌, List, length, drop}
use Rattle.dst_spec.specs.Bits.{number_from, AreBits}

-- What the writer had before and its room then; how many bits have left, and their number.
pub record Leaving : Type 0 where
  pub before : List ℕ
  pub room : ℕ
  pub count : ℕ
  pub number : ℕ

-- the number of the bits from a place on
abbrev pub written : List ℕ → ℕ → ℕ
written bits first = number_from bits first (length bits - first)

-- a held block of some bits behind a number, and behind it so many blocks of 32 ones
abbrev pub with_held : ℕ → ℕ → ℕ → ℕ → ℕ
with_held number width block run = (number * 2 ^ width + block + 1) * 2 ^ (32 * run) - 1

-- What is held: a block that isn't all ones, and room for all that is held.
pub record IsHeld (bits : List ℕ) (room first block width run : ℕ) : Type 0 where
  pub within : first ≤ length bits
  pub are_bits : AreBits (drop first bits)
  pub some : 1 ≤ width
  pub most : width ≤ 32
  pub free : block + 1 < 2 ^ width
  pub fits : width + 32 * run ≤ room
  pub small : room ≤ 2 ^ 53
