-- What every stream has, whatever its bytes.
use Rattle.std.specs.Prelude.{◌≡◌, ℕ, ◌+◌, ◌*◌, ◌≤◌, List, length, Some, None}
use Rattle.std.specs.List.{AllByRecursion}
use Rattle.dst_spec.specs.Sample.{Shape, sound_bytes}
use Rattle.dsdiff_spec.specs.Bytes.{bytes_at}
use Rattle.dsdiff_spec.specs.Rules.{local_fault}
use Rattle.dsdiff_spec.specs.Streams.{Front, Stream, ended, shape_in, stream}

-- in front of the frames an `FVER` of four bytes, a `PROP` that keeps its rules, and a frame count of at most a million
pub record IsLawfulFront (front : Front) : Type 0 where
  pub version : length front.version ≡ 4
  pub most : length front.prop ≤ 65536
  pub rules : local_fault 0 front.prop ≡ None
  pub frames : front.frames ≤ 1000000

-- a frame takes at most so many bytes
abbrev pub IsShort : Shape → List ℕ → Type 0
IsShort f frame = length frame ≤ 2 * (sound_bytes f + 1)

-- a part of some bytes
abbrev pub IsPartOf : List ℕ → List ℕ → Type 0
IsPartOf w frame = (place : ℕ) × (n : ℕ) × (frame ≡ bytes_at w place n)

-- each frame is a part of the bytes, none is too long, no more come than the frame count, and as many where the stream ends behind the last of them
pub record AreLawful (w : List ℕ) (front : Front) (s : Stream) : Type 0 where
  pub parts : AllByRecursion (IsPartOf w) s.frames
  pub short : AllByRecursion (IsShort (shape_in front.prop)) s.frames
  pub few : length s.frames ≤ front.frames
  pub ended : s.ending ≡ ended → length s.frames ≡ front.frames

pub record IsLawful (w : List ℕ) (s : Stream) : Type 0 where
  pub front : (front : Front) → s.front ≡ Some front → IsLawfulFront front
  pub frames : (front : Front) → s.front ≡ Some front → AreLawful w front s
  pub ended : s.ending ≡ ended → (front : Front) × (s.front ≡ Some front)

abbrev pub LawfulStreamsLaw : Type 0
LawfulStreamsLaw = (w : List ℕ) → IsLawful w (stream w)
