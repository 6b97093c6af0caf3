-- The file of made sound that a shape of frames gives.
use Rattle.std.specs.Prelude.{ℕ, ◌+◌, ◌*◌, ◌/◌, List, ◌++◌, codes}
use Rattle.byteorder.specs.Endian.{big_bytes}
use Rattle.dst_spec.specs.Sample.{Shape, sound_bytes}
use Rattle.dsdiff_spec.specs.Made.{fver, prop_of, made}

-- the rate of a shape, in multiples of 64 times 44.1 kHz
abbrev pub multiple_of : Shape → ℕ
multiple_of f = f.octets / 4704

abbrev pub made_file : ℕ → ℕ → Shape → List ℕ
made_file start frames f = made start frames f.channels (multiple_of f)

-- what stands in front of its sound
abbrev pub made_front : ℕ → Shape → List ℕ
made_front frames f =
    codes "FRM8"
    ++ big_bytes 8 (110 + 4 * f.channels + frames * sound_bytes f)
    ++ codes "DSD "
    ++ fver
    ++ prop_of f.channels (multiple_of f)
    ++ codes "DSD "
    ++ big_bytes 8 (frames * sound_bytes f)
