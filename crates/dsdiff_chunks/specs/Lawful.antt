-- What holds of each form that was opened, also of one from a source that tells no bytes.
use Rattle.std.specs.Prelude.{◌≡◌, ℕ, ◌+◌, ◌%◌, ◌^◌, ◌≤◌, true, List, [], ◌∷◌, length, filter, Option, Some, None}
use Rattle.std.specs.Coded.{×_prop, Unit-prop, le_prop}
use Rattle.std.proofs.Props.{props}
use Rattle.dsdiff_spec.specs.Bytes.{bytes_at, number_at, ◌is◌}
use Rattle.dsdiff_spec.specs.Chunks.{Head, body_end, next_place}
use Rattle.dsdiff_spec.specs.Form.{Form, Origin, Kind, plain, coded, sound_bytes_of, frames_for}
use Rattle.dsdiff_spec.specs.Origin.{is_one_chunk}
use Rattle.dsdiff_spec.specs.Parts.{channel_count, multiple}
use Rattle.dsdiff_spec.specs.Rules.{local_fault}
use Rattle.dsdiff_chunks.specs.Opening.{is_sound}

-- chunks one behind the other from a place up to an end; the last one may lack its pad byte
abbrev pub TileTo : ℕ → ℕ → List Head → Type 0
TileTo end place [] = (end ≤ place) × (place ≤ end + 1)
TileTo end place (h ∷ hs) = (h.place ≡ place) × (body_end h ≤ end) × TileTo end (next_place h) hs

-- a body of `PROP` that keeps all rules
pub record IsPropBody (body : List ℕ) : Type 0 where
  pub most : length body ≤ 65536
  pub rules : local_fault 0 body ≡ None

-- what `KEPT` says, in a form of some channels, with so many bytes of sound in a frame and so many frames
pub record IsOrigin (channels bytes frames : ℕ) (origin : Origin) : Type 0 where
  pub cmpr : is_one_chunk "CMPR" origin.cmpr ≡ true
  pub cmpr_long : 4 ≤ number_at origin.cmpr 4 8
  pub cmpr_type : bytes_at origin.cmpr 12 4 is "DSD " ≡ true
  pub cmpr_most : length origin.cmpr ≤ 65536
  pub kept_most : length origin.kept ≤ 65536
  pub pad : origin.sound % 2 ≡ 0 → origin.pad ≡ 0
  pub whole : origin.sound % channels ≡ 0
  pub count : frames_for bytes origin.sound ≡ frames

abbrev pub IsOriginIfAny : ℕ → ℕ → ℕ → Option Origin → Type 0
IsOriginIfAny channels bytes frames None = Unit {0}
IsOriginIfAny channels bytes frames (Some origin) = IsOrigin channels bytes frames origin

pub record IsPlainForm (form : Form) : Type 0 where
  pub even : form.sound.size % form.channels ≡ 0
  pub frames : form.frames ≡ frames_for (sound_bytes_of form) form.sound.size
  pub origin : form.origin ≡ None
  pub padded : next_place form.sound ≤ form.end
  pub pad : form.sound.size % 2 ≡ 0 → form.pad ≡ 0
  pub behind : length form.behind ≤ 65536

pub record IsCodedForm (form : Form) : Type 0 where
  pub least : 18 ≤ form.sound.size
  pub origin : IsOriginIfAny form.channels (sound_bytes_of form) form.frames form.origin
  pub pad : form.pad ≡ 0
  pub behind : form.behind ≡ []

abbrev pub IsOfKind : Kind → Form → Type 0
IsOfKind plain form = IsPlainForm form
IsOfKind coded form = IsCodedForm form

pub record IsLawful (form : Form) : Type 0 where
  pub end : form.end ≤ 2 ^ 50 + 12
  pub few : length form.chunks ≤ 1024
  pub chunks : TileTo form.end 16 form.chunks
  pub sound : filter is_sound form.chunks ≡ form.sound ∷ []
  pub prop : IsPropBody form.prop
  pub channels : form.channels ≡ channel_count form.prop
  pub multiple : form.multiple ≡ multiple form.prop
  pub frames : form.frames ≤ 1000000
  pub of_kind : IsOfKind form.kind form

-- ---- each of these facts has one proof at most
pub TileTo-prop : (end place : ℕ) (heads : List Head) → IsProp (TileTo end place heads)
TileTo-prop end place [] = ×_prop le_prop le_prop
TileTo-prop end place (h ∷ hs) =
    let behind : IsProp (TileTo end (next_place h) hs) = TileTo-prop end (next_place h) hs in
    Prim.hlevel (props, behind)

IsOriginIfAny-prop : (channels bytes frames : ℕ) (origin : Option Origin) → IsProp (IsOriginIfAny channels bytes frames origin)
IsOriginIfAny-prop channels bytes frames None = Unit-prop
IsOriginIfAny-prop channels bytes frames (Some origin) = Prim.hlevel props

IsOfKind-prop : (kind : Kind) (form : Form) → IsProp (IsOfKind kind form)
IsOfKind-prop plain form = Prim.hlevel props
IsOfKind-prop coded form = Prim.hlevel (props, IsOriginIfAny-prop)

pub IsLawful-prop : (form : Form) → IsProp (IsLawful form)
IsLawful-prop form = Prim.hlevel (props, TileTo-prop, IsOfKind-prop)
