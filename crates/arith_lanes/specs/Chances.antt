-- What a lane needs of a probability, in sixteen bits.
use Rattle.std.specs.Prelude.{◌≡◌, ℕ, ◌+◌, ◌/◌, ◌%◌, ◌≤◌}
use Rattle.arith_decoder.specs.Registers.{IsFactor}

-- A chance has the probability less 1 in its low seven bits, and in its high eight the power of 2 with which it has eight bits.
pub record IsChance (p chance : ℕ) : Type 0 where
  pub least : 1 ≤ p
  pub most : p ≤ 128
  pub prob : chance % 128 + 1 ≡ p
  pub factor : IsFactor p (chance / 256)
