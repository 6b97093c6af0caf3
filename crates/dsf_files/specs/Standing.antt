-- The form that stands for a DSF file in the order of its bytes: in front of the sound, the sound, and behind it.
use Rattle.std.specs.Prelude.{ℕ, ◌+◌, ◌*◌, ◌%◌, ◌==◌, if◌then◌else◌, List, [], ◌∷◌, ◌++◌, codes, Option, Some, None}
use Rattle.byteorder.specs.Endian.{big_bytes}
use Rattle.dsdiff_spec.specs.Dsf.{Dsf, octets, dsf_sample, dsfk, dsdiff}
use Rattle.dsdiff_spec.specs.Made.{fver, prop_of}
use Rattle.dsdiff_spec.specs.Samples.{sound_of}

-- the size of the sound, and of the form's body: `FVER` in 16 bytes, `PROP`, the sound with its pad byte, `DSFK` in 26
abbrev pub sound_size : Dsf → ℕ
sound_size d = octets d * d.channels

abbrev pub form_size : Dsf → ℕ
form_size d = 4 + 16 + (78 + 4 * d.channels) + (12 + sound_size d + sound_size d % 2) + 26

abbrev pub front : Dsf → List ℕ
front d =
    codes "FRM8" ++ big_bytes 8 (form_size d) ++ codes "DSD " ++ fver ++ prop_of d.channels d.multiple ++ codes "DSD " ++ big_bytes 8 (sound_size d)

abbrev pub sound : List ℕ → Dsf → List ℕ
sound f d = sound_of (dsf_sample f) d.channels (octets d)

abbrev pub back : Dsf → List ℕ
back d = (if sound_size d % 2 == 1 then 0 ∷ [] else []) ++ dsfk d

-- how long the parts are, and all of it
abbrev pub front_size : Dsf → ℕ
front_size d = 122 + 4 * d.channels

abbrev pub back_size : Dsf → ℕ
back_size d = sound_size d % 2 + 26

abbrev pub whole_size : Dsf → ℕ
whole_size d = front_size d + sound_size d + back_size d

-- what holds of the form where the file's bytes are told
abbrev pub plain_of : Option (List ℕ) → Option (List ℕ)
plain_of None = None
plain_of (Some f) = Some (dsdiff f)
