-- Parts that are read and written one after the other, and where that stops.
use Rattle.std.specs.Prelude.{◌≡◌, ℕ, List, ◌∷◌, ◌++◌, length, Option, Some}
use Rattle.std.specs.List.{AllByRecursion}
use Rattle.dst_spec.specs.Means.{Means}
use Rattle.dst_spec.specs.Offends.{Offends}
use Rattle.dst_spec.specs.declared.faults.FrameFault.{FrameFault}
use Rattle.dst_streams.specs.Told.{and_then}
use Rattle.dsdiff_spec.specs.Form.{Form, shape}
use Rattle.dsdiff_spec.specs.Outcome.{nth_frame}
use Rattle.dsdiff_spec.specs.Ranges.{Sound}
use Rattle.dst_commands.specs.Writing.{Adds, Stops}
use Rattle.frame_cache.specs.Reader.{Reader, IsReaderOf, HoldsSounds}
use Rattle.frame_cache.specs.Reads.{HasWanted}
use Rattle.dst_read.specs.declared.faults.DecodeFault.{DecodeFault}
use Rattle.dst_read.specs.declared.faults.DecodeFault.TheVariants.{Write, Frame}
use Rattle.dst_ranges.specs.Parts.{Part, frames_wanted, counts_of, bytes_of}

-- the frames of some parts mean sounds, and the parts lie in the sound
pub record AreRead (file : List ℕ) (form : Form) (sound : List ℕ) (parts : List Part) : Type 0 where
  pub means : AllByRecursion (λ p. (s : List ℕ) × Means (shape form) (nth_frame file form p.frame) s) parts
  pub whole : length (bytes_of sound parts) ≡ counts_of parts

-- what holds of each sound of a file, its form being the reader's
abbrev pub OfSound : Option (List ℕ) → Reader → (List ℕ → Form → List ℕ → Type 0) → Type 0
OfSound bytes r holds =
    (file : List ℕ) (form : Form) (sound : List ℕ) → bytes ≡ Some file → HoldsSounds file r → IsReaderOf file form r →
    Sound file form sound → holds file form sound

-- some parts were wanted of a reader, and written
pub record Wrote (r r' : Reader) (parts : List Part) (bytes : Option (List ℕ)) (given given' : ℕ) (old new : Option (List ℕ)) (room left : Option ℕ) : Type 0
  where
    pub decoded : ℕ
    pub wanted : HasWanted r r' (frames_wanted parts) decoded bytes given given'
    pub added : OfSound bytes r (λ file form sound. AreRead file form sound parts × Adds (bytes_of sound parts) old new room left)

-- frame k is the first of them that is refused; the parts before its own were written
pub record IsRefused (file : List ℕ) (form : Form) (sound : List ℕ) (parts : List Part) (k : ℕ) (fault : FrameFault) (old new : Option (List ℕ)) : Type 0 where
  pub before : List Part
  pub stop : Part
  pub behind : List Part
  pub split : parts ≡ before ++ stop ∷ behind
  pub frame_is : stop.frame ≡ k
  pub refuses : Offends (shape form) (nth_frame file form k) fault
  pub are_read : AreRead file form sound before
  pub written : new ≡ and_then old (bytes_of sound before)

-- a device failed; what was written before is a prefix of some of the first parts, which were read
pub record IsCut (file : List ℕ) (form : Form) (sound : List ℕ) (parts : List Part) (fault : DecodeFault) (old new : Option (List ℕ)) (room : Option ℕ) : Type
    0 where
  pub before : List Part
  pub behind : List Part
  pub split : parts ≡ before ++ behind
  pub are_read : AreRead file form sound before
  pub stops : Stops (fault ≡ Write) (bytes_of sound before) old new room

abbrev pub StopsIn : DecodeFault → List ℕ → Form → List ℕ → List Part → (old new : Option (List ℕ)) → Option ℕ → Type 0
StopsIn (Frame k fault) file form sound parts old new room = IsRefused file form sound parts k fault old new
StopsIn fault file form sound parts old new room = IsCut file form sound parts fault old new room

-- the same of each sound of the file
abbrev pub Stopped : Reader → List Part → DecodeFault → Option (List ℕ) → (old new : Option (List ℕ)) → Option ℕ → Type 0
Stopped r parts fault bytes old new room = OfSound bytes r (λ file form sound. StopsIn fault file form sound parts old new room)
