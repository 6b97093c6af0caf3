-- The code of a sound, and how many of its bits decoding uses.
use Rattle.std.specs.Prelude.{◌≡◌, ℕ, ◌+◌, Bool, List}
use Rattle.dst_spec.specs.Sample.{Shape}
use Rattle.dst_spec.specs.Header.{Params}
use Rattle.dst_spec.specs.Symbols.{symbols}
use Rattle.dst_spec.specs.Interval.{interval, IsCodeOf}

-- the code at place i is that of the sound's symbols, and the first bit, twelve and one for each doubling are used
pub record IsCodeOfSound (f : Shape) (P : Params) (xs : List ℕ) (i : ℕ) (sound : List ℕ) (used : ℕ) : Type 0 where
  pub reserved : Bool
  pub code : IsCodeOf xs i (symbols f P sound reserved)
  pub used_are : used ≡ 13 + (interval (symbols f P sound reserved)).doublings
