-- What the registers of an encoder hold.
use Rattle.std.specs.Prelude.{◌≡◌, ℕ, ◌+◌, ◌-◌, ◌*◌, ◌%◌, ◌^◌, ◌<◌, ◌≤◌, List, get_or}
use Rattle.arith_encoder.specs.Leaving.{Leaving}
use Rattle.arith_encoder.specs.declared.scaling.Scaling.{Scaling}
use Rattle.arith_core.specs.Range.{IsRange, IsShift}

-- what a symbol needs of a probability: the doublings that give it eight bits, and what it then is
pub record IsScaling (p : ℕ) (s : Scaling) : Type 0 where
  pub scaled : s.scaled ≡ p * 2 ^ s.shift
  pub shifted : IsShift p s.shift

abbrev pub no_scaling : Scaling
no_scaling = record { scaled = 0; shift = 0 }

-- the scalings of all probabilities, that of 128 in front of the others
abbrev pub AreScalings : List Scaling → Type 0
AreScalings scalings = (p : ℕ) → 1 ≤ p → p ≤ 128 → IsScaling p (get_or scalings (p % 128) no_scaling)

-- The low end's bits that haven't left are twelve and `count` more, with a carry above them at most; `left` is how many
-- those may become. The whole interval lies below 4095 times the power of 2 of its doublings.
pub record AreRegisters (held : Leaving) (low count range left : ℕ) : Type 0 where
  pub some : 1 ≤ held.count
  pub reserved : held.count + 12 + left ≡ held.room
  pub fits : count ≤ left
  pub few : count < 40
  pub in_range : IsRange range
  pub below : low + range ≤ 8191 * 2 ^ count
  pub end : held.number * 2 ^ (12 + count) + low + range ≤ 4095 * 2 ^ (held.count + count - 1)
