-- A writer of bits: those written, and how many more fit.
use Rattle.std.specs.Prelude.{ℕ, ◌-◌, ◌%◌, List}

pub record Writing : Type 0 where
  pub bits : List ℕ
  pub room : ℕ

-- how many bits there are from a place to its byte's end
abbrev pub to_byte_end : ℕ → ℕ
to_byte_end place = (8 - place % 8) % 8
