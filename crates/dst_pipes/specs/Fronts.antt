-- The front of the plain file that a stream is decoded to: what stands before its sound.
use Rattle.std.specs.Prelude.{ℕ, ◌+◌, List, ◌++◌, length, codes}
use Rattle.byteorder.specs.Endian.{big_bytes}
use Rattle.dsdiff_spec.specs.Written.{prop_with, cmpr_plain}
use Rattle.dsdiff_spec.specs.Streams.{Front}
use Rattle.stream_spec.specs.Outcome.{sound_size}

abbrev pub version_bytes : List ℕ → List ℕ
version_bytes version = codes "FVER" ++ big_bytes 8 4 ++ version

abbrev pub opening_bytes : ℕ → List ℕ
opening_bytes size = codes "FRM8" ++ big_bytes 8 size ++ codes "DSD "

-- the size of a form with this `PROP` and so many bytes of sound, a whole number of frames
abbrev pub plain_size : List ℕ → ℕ → ℕ
plain_size prop sound = 4 + 16 + length (prop_with prop cmpr_plain) + 12 + sound

abbrev pub front_with : List ℕ → List ℕ → ℕ → List ℕ
front_with version prop sound =
    opening_bytes (plain_size prop sound) ++ version_bytes version ++ prop_with prop cmpr_plain ++ (codes "DSD " ++ big_bytes 8 sound)

abbrev pub front_bytes : Front → List ℕ
front_bytes front = front_with front.version front.prop (sound_size front)
