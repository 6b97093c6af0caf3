-- An arithmetic encoder at work, and the symbols that it has encoded.
use Rattle.std.specs.Prelude.{◌≡◌, ℕ, Bool, List}
use Rattle.dst_spec.specs.Interval.{Interval, interval}

-- What the writer had in front of the code, the room that it had for it in bits, and the interval of the symbols so far,
-- whose low end is whole.
pub record Encoding : Type 0 where
  pub before : List ℕ
  pub room : ℕ
  pub reached : Interval

-- the encoder has encoded these symbols with their probabilities, the oldest first
abbrev pub StandsFor : Encoding → List (Bool × ℕ) → Type 0
StandsFor e pairs = e.reached ≡ interval pairs
