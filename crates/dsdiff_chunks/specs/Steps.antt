-- What the steps of opening a form have found.
use Rattle.std.specs.Prelude.{◌≡◌, ℕ, ◌+◌, ◌^◌, ◌≤◌, true, if◌then◌else◌, List, [], ◌∷◌, length, filter, bytes_eq, Option, Some, None}
use Rattle.std.specs.List.{All}
use Rattle.dsdiff_spec.specs.Bytes.{◌is◌}
use Rattle.dsdiff_spec.specs.Chunks.{Head, fits}
use Rattle.dsdiff_spec.specs.Form.{Kind, plain, coded}
use Rattle.dsdiff_spec.specs.Parts.{form_end, top_level}
use Rattle.dsdiff_spec.specs.Rules.{opening_fault}
use Rattle.dsdiff_chunks.specs.Lawful.{TileTo}
use Rattle.dsdiff_chunks.specs.Opening.{may_lack_pad, is_sound}

-- a file of this size begins with a form that ends at this place; its chunks are still to be looked at
pub record IsExtent (file : List ℕ) (size end : ℕ) : Type 0 where
  pub long : length file ≡ size
  pub ends : form_end file ≡ end
  pub opened : opening_fault file ≡ (top_level file).fault

-- a file of this size begins with a form of these whole chunks that ends at this place
pub record IsOpened (file : List ℕ) (size end : ℕ) (heads : List Head) : Type 0 where
  pub long : length file ≡ size
  pub ends : form_end file ≡ end
  pub chunks : (top_level file).heads ≡ heads
  pub rules : opening_fault file ≡ None

-- the same of a source, which may tell no bytes
pub record AreChunks (bytes : Option (List ℕ)) (known : Option ℕ) (size end : ℕ) (heads : List Head) : Type 0 where
  pub known_size : known ≡ Some size
  pub least : 16 ≤ end
  pub most : end ≤ 2 ^ 50 + 12
  pub within : end ≤ size
  pub few : length heads ≤ 1024
  pub tiled : TileTo end 16 heads
  pub whole : All (λ h. fits may_lack_pad end h ≡ true) heads
  pub told : (xs : List ℕ) → bytes ≡ Some xs → IsOpened xs size end heads

-- the one sound chunk of some chunks, which has the type in `PROP` and stands behind `PROP`
pub record IsTheSound (heads : List Head) (prop_place : ℕ) (type : List ℕ) (kind : Kind) (sound : Head) : Type 0 where
  pub found : filter is_sound heads ≡ sound ∷ []
  pub same : bytes_eq type sound.id ≡ true
  pub behind : prop_place ≤ sound.place
  pub kind_is : kind ≡ (if sound.id is "DSD " then plain else coded)
