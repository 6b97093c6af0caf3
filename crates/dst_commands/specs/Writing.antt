-- What it does to a sink to write a piece: what is told of the sink is what is written, and its sure room.
use Rattle.std.specs.Prelude.{◌≡◌, ℕ, ◌-◌, ◌≤◌, List, length, Option, Some}
use Rattle.dst_streams.specs.Told.{and_then, IsCutShort}

-- the piece is added whole; a sure room that has place for it falls by its length
pub record Adds (piece : List ℕ) (old new : Option (List ℕ)) (room left : Option ℕ) : Type 0 where
  pub written : new ≡ and_then old piece
  pub lowered : (n : ℕ) → room ≡ Some n → length piece ≤ n → left ≡ Some (n - length piece)

-- a sure room, where there is one, has no place for so many bytes
abbrev pub Lacks : Option ℕ → ℕ → Type 0
Lacks room bytes = (n : ℕ) → room ≡ Some n → bytes ≤ n → ⊥

-- a prefix of the piece is added; where the sink is at fault, its sure room had no place for the piece
pub record Stops (sink_is_at_fault : Type 0) (piece : List ℕ) (old new : Option (List ℕ)) (room : Option ℕ) : Type 0 where
  pub cut : IsCutShort old piece new
  pub lacks : sink_is_at_fault → Lacks room (length piece)
