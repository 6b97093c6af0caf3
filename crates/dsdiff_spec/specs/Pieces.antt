-- What decoding writes, in pieces: what stands in front of the sound, the sound, and what stands behind it.
use Rattle.std.specs.Prelude.{ℕ, ◌+◌, ◌%◌, ◌==◌, if◌then◌else◌, List, [], ◌∷◌, ◌++◌, length, codes}
use Rattle.std.specs.List.{concat}
use Rattle.byteorder.specs.Endian.{big_bytes}
use Rattle.dsdiff_spec.specs.Form.{Form}
use Rattle.dsdiff_spec.specs.Written.{copied_with, behind_sound}
use Rattle.dsdiff_spec.specs.Decoded.{decoded_before, plain_cmpr, plain_pad, kept_bytes}

-- the chunks behind the sound
abbrev pub decoded_behind : List ℕ → Form → List (List ℕ)
decoded_behind file form = copied_with (plain_cmpr form.origin) file form (behind_sound form)

-- the size of the form: its type, the chunks before the sound, the sound's chunk with its pad byte, the chunks behind it
abbrev pub decoded_size : ℕ → List ℕ → Form → ℕ
decoded_size sound file form =
    4 + length (concat (decoded_before file form)) + (12 + sound + sound % 2) + length (concat (decoded_behind file form))

-- in front of a sound of so many bytes
abbrev pub opening : ℕ → List ℕ → Form → List ℕ
opening sound file form = codes "FRM8" ++ big_bytes 8 (decoded_size sound file form) ++ codes "DSD "

abbrev pub sound_opening : ℕ → List ℕ
sound_opening sound = codes "DSD " ++ big_bytes 8 sound

abbrev pub decoded_front : ℕ → List ℕ → Form → List ℕ
decoded_front sound file form = opening sound file form ++ concat (decoded_before file form) ++ sound_opening sound

-- behind it
abbrev pub sound_pad : ℕ → Form → List ℕ
sound_pad sound form = if sound % 2 == 1 then plain_pad form.origin ∷ [] else []

abbrev pub decoded_end : ℕ → List ℕ → Form → List ℕ
decoded_end sound file form = sound_pad sound form ++ concat (decoded_behind file form) ++ kept_bytes form.origin
