-- The status of a refused stream, and bounds of what every stream has, at their edges.
use Rattle.std.proofs.Common.{◌≡◌, ℕ, ◌≤◌, List, [], ◌∷◌, length, replicate, refl, arith}
use Rattle.dst_spec.specs.Sample.{Shape}
use Rattle.dsdiff_spec.specs.declared.faults.FileFault.{FileFault}
use Rattle.dsdiff_spec.specs.Lines.{file_line}
use Rattle.stream_spec.specs.Outcome.{stream_refused}
use Rattle.stream_spec.specs.Lawful.{IsLawfulFront, IsShort}

-- a refused stream has the status 5 and one line, that of its fault, behind what is written
pub refused_by_status_5 : (fault : FileFault) (out : List ℕ) →
    stream_refused fault out ≡ record { status = 5; out = out; lines = file_line fault ∷ [] }
refused_by_status_5 fault out = refl

-- a million frames are the most
pub no_more_than_a_million_frames : (version prop : List ℕ) → IsLawfulFront (record { version = version; prop = prop; frames = 1000001 }) → ⊥
no_more_than_a_million_frames version prop h = let most : 1000001 ≤ 1000000 = h.frames in omega (arith, most)

-- a `PROP` takes 65,536 bytes at most
pub no_prop_of_65537_bytes : (version prop : List ℕ) (frames : ℕ) → length prop ≡ 65537 →
    IsLawfulFront (record { version = version; prop = prop; frames = frames }) → ⊥
no_prop_of_65537_bytes version prop frames long h = let most : length prop ≤ 65536 = h.most in omega (arith, most, long)

-- an `FVER` has four bytes, not five
pub no_version_of_five_bytes : (prop : List ℕ) (frames : ℕ) → IsLawfulFront (record { version = replicate 5 0; prop = prop; frames = frames }) → ⊥
no_version_of_five_bytes prop frames h = let four : 5 ≡ 4 = h.version in omega (arith, four)

-- a frame of two channels of four bytes, eight bytes of sound, takes 18 bytes at most
abbrev two_of_four : Shape
two_of_four = record { channels = 2; octets = 4 }

pub frame_of_18_bytes : IsShort two_of_four (replicate 18 0)
frame_of_18_bytes = omega arith

pub no_frame_of_19_bytes : IsShort two_of_four (replicate 19 0) → ⊥
no_frame_of_19_bytes h = let most : 19 ≤ 18 = h in omega (arith, most)
