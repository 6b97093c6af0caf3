-- Bytes that were gathered, and how many have room.
use Rattle.std.specs.Prelude.{ℕ, List}

pub record Gathered : Type 0 where
  pub bytes : List ℕ
  pub room : ℕ
