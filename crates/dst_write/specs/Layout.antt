-- The coded file in the order in which it is written, by the sizes of its stored frames. Its two size fields are 0 until all else is written.
use Rattle.std.specs.Prelude.{ℕ, ◌+◌, ◌*◌, ◌%◌, sum_by, List, [], ◌∷◌, ◌++◌, length, map, flat_map, codes}
use Rattle.std.specs.List.{concat}
use Rattle.byteorder.specs.Endian.{big_bytes}
use Rattle.dsdiff_spec.specs.Form.{Form}
use Rattle.dsdiff_spec.specs.Walk.{Entry}
use Rattle.dsdiff_spec.specs.Written.{frte, dstf, dsti, cmpr_coded, behind_sound, copied_with}
use Rattle.dsdiff_spec.specs.Coded.{coded_before, first_place, origin_of_plain}

-- ---- by the sizes of the stored frames: the bytes of a frame's chunk and of all of them, the body of `DST `, the entries
abbrev pub chunk_size : ℕ → ℕ
chunk_size size = 12 + size + size % 2

abbrev pub frames_size : List ℕ → ℕ
frames_size sizes = sum_by chunk_size sizes

abbrev pub sound_size : List ℕ → ℕ
sound_size sizes = 18 + frames_size sizes

abbrev pub entries_by : ℕ → List ℕ → List Entry
entries_by place [] = []
entries_by place (size ∷ sizes) = record { offset = place + 12; size = size } ∷ entries_by (place + chunk_size size) sizes

-- ---- what stands around the sound
abbrev pub before : List ℕ → Form → List ℕ
before file form = concat (coded_before file form)

abbrev pub behind : List ℕ → Form → List ℕ
behind file form = concat (copied_with cmpr_coded file form (behind_sound form))

abbrev pub form_size : List ℕ → List ℕ → Form → ℕ
form_size sizes file form =
    4 + length (before file form) + (12 + sound_size sizes) + (12 + 12 * length sizes) + length (origin_of_plain form) + length (behind file form)

-- ---- in front of the frames, with sizes 0, and behind them
abbrev pub opening : List ℕ
opening = codes "FRM8" ++ big_bytes 8 0 ++ codes "DSD "

abbrev pub sound_opening : Form → List ℕ
sound_opening form = codes "DST " ++ big_bytes 8 0 ++ frte form.frames

abbrev pub front : List ℕ → Form → List ℕ
front file form = opening ++ before file form ++ sound_opening form

abbrev pub end : List ℕ → List ℕ → Form → List ℕ
end sizes file form = dsti (entries_by (first_place (coded_before file form)) sizes) ++ origin_of_plain form ++ behind file form

-- all of it
abbrev pub unsized : List (List ℕ) → List ℕ → Form → List ℕ
unsized frames file form = front file form ++ flat_map dstf frames ++ end (map length frames) file form
