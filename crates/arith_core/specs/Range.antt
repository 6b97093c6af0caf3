-- Ranges between two symbols, and what a symbol needs of its probability.
use Rattle.std.specs.Prelude.{ℕ, ◌*◌, ◌^◌, ◌<◌, ◌≤◌}

-- a range with no doubling due
pub record IsRange (range : ℕ) : Type 0 where
  pub least : 2048 ≤ range
  pub most : range ≤ 4095

-- so many doublings give a probability eight bits, and with it the part of a symbol 0 at least half of what a range has at least
pub record IsShift (p shift : ℕ) : Type 0 where
  pub few : shift ≤ 7
  pub least : 128 ≤ p * 2 ^ shift
  pub most : p * 2 ^ shift < 256
