-- The first of the shortest of some candidates.
use Rattle.std.specs.Prelude.{◌≡◌, ℕ, ◌<◌, List, ◌∷◌, length, get_or, take, Option, Some, None}
use Rattle.dst_spec.specs.Sample.{Shape}
use Rattle.dst_spec.specs.Header.{Params}
use Rattle.dst_spec.specs.Spell.{spell, stored}

-- the first of the shortest of the first n, none being the plain form
abbrev pub IsFirst : Shape → List ℕ → List Params → ℕ → Option ℕ → Type 0
IsFirst f sound found n None = stored f sound (take n found) ≡ 0 ∷ sound
IsFirst f sound found n (Some k) = (k < n) × ((other : Params) → stored f sound (take n found) ≡ spell f (get_or found k other) sound)

pub record IsChosen (f : Shape) (sound : List ℕ) (found : List Params) (n : ℕ) (best : Option ℕ) (least : ℕ) : Type 0 where
  pub first : IsFirst f sound found n best
  pub least_is : least ≡ length (stored f sound (take n found))
