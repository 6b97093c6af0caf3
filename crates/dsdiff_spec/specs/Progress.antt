-- How far a command came over the frames of a form.
use Rattle.std.specs.Prelude.{ℕ, List, take}
use Rattle.std.specs.List.{AllByRecursion, AllZip}
use Rattle.dst_spec.specs.Sample.{Shape}
use Rattle.dst_spec.specs.Means.{Means}
use Rattle.dst_spec.specs.declared.faults.FrameFault.{FrameFault}
use Rattle.dsdiff_spec.specs.Form.{Form, shape}
use Rattle.dsdiff_spec.specs.Decoded.{frames_of}
use Rattle.dsdiff_spec.specs.Outcome.{Refuses}
use Rattle.dsdiff_spec.specs.Words.{Command, decode}

-- a frame isn't refused, and none of some frames is
abbrev pub NotRefused : Command → Shape → List ℕ → Type 0
NotRefused c f frame = (fault : FrameFault) → Refuses c f frame fault → ⊥

abbrev pub NoneOf : Command → Shape → List (List ℕ) → Type 0
NoneOf c f frames = AllByRecursion (NotRefused c f) frames

-- the first k frames of a form mean these sounds, and none of them is refused
pub record AreDecoded (file : List ℕ) (form : Form) (k : ℕ) (sounds : List (List ℕ)) : Type 0 where
  pub each : AllZip (Means (shape form)) (take k (frames_of file form)) sounds
  pub none : NoneOf decode (shape form) (take k (frames_of file form))
