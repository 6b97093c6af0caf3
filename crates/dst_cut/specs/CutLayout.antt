-- A cut file in the order in which it is written, by the entries of its form's frames.
use Rattle.std.specs.Prelude.{ℕ, ◌+◌, ◌-◌, ◌*◌, ◌%◌, ◌==◌, Bool, if◌then◌else◌, List, [], ◌∷◌, ◌++◌, length, map, flat_map, take, drop, codes}
use Rattle.std.specs.Prelude.{Option, Some, None}
use Rattle.std.specs.List.{concat}
use Rattle.byteorder.specs.Endian.{big_bytes}
use Rattle.dsdiff_spec.specs.Bytes.{between}
use Rattle.dsdiff_spec.specs.Chunks.{body_end}
use Rattle.dsdiff_spec.specs.Form.{Form, Origin, sound_bytes_of}
use Rattle.dsdiff_spec.specs.Walk.{Entry, entry}
use Rattle.dsdiff_spec.specs.Written.{frte, dsti, origin_chunk, before_sound, behind_sound, copied}
use Rattle.dsdiff_spec.specs.Cut as cutting
use Rattle.dst_commands.specs.declared.chunks.Side.{Side}
use Rattle.dst_commands.specs.declared.chunks.Side.TheVariants.{Before, Behind}

-- the form's last frame is cut out
abbrev pub is_last : Form → ℕ → Bool
is_last form last = cutting.is_last form last

-- ---- where the frames that are cut out begin and end in the file, and how many they are
abbrev pub begins : List Entry → ℕ → ℕ
begins es first = (entry es first).offset - 12

abbrev pub ends : List Entry → Form → ℕ → ℕ
ends es form last = if is_last form last then body_end form.sound else begins es (last + 1)

abbrev pub count : ℕ → ℕ → ℕ
count first last = last + 1 - first

-- ---- what stands around the sound
abbrev pub before : List ℕ → Form → List ℕ
before file form = concat (copied file form (before_sound form))

abbrev pub behind : List ℕ → Form → List ℕ
behind file form = concat (copied file form (behind_sound form))

abbrev pub side_of : Side → List ℕ → Form → List ℕ
side_of Before file form = before file form
side_of Behind file form = behind file form

-- what `KEPT` says of the sound that is left: its size and its pad byte
abbrev pub size_left : Form → ℕ → ℕ → Origin → ℕ
size_left form first last origin =
    if is_last form last then origin.sound - sound_bytes_of form * first else sound_bytes_of form * count first last

abbrev pub pad_left : Form → ℕ → Origin → ℕ
pad_left form last origin = if is_last form last then origin.pad else 0

abbrev pub origin_left_by : Form → ℕ → ℕ → Option Origin → List ℕ
origin_left_by form first last None = []
origin_left_by form first last (Some origin) = origin_chunk (size_left form first last origin) (pad_left form last origin) origin.cmpr []

abbrev pub origin_count : Option Origin → ℕ
origin_count None = 0
origin_count (Some origin) = 1

abbrev pub origin_left : Form → ℕ → ℕ → List ℕ
origin_left form first last = origin_left_by form first last form.origin

-- ---- the sizes of the body of `DST ` and of the form
abbrev pub sound_size : List Entry → Form → ℕ → ℕ → ℕ
sound_size es form first last = 18 + (ends es form last - begins es first)

abbrev pub form_size : List Entry → List ℕ → Form → ℕ → ℕ → ℕ
form_size es file form first last =
    4 + length (before file form) + (12 + sound_size es form first last + sound_size es form first last % 2)
    + (12 + 12 * count first last) + length (origin_left form first last) + length (behind file form)

-- ---- in front of the frames, the frames with the pad byte behind a body of odd size, and behind them
abbrev pub sound_opening : List Entry → Form → ℕ → ℕ → List ℕ
sound_opening es form first last = codes "DST " ++ big_bytes 8 (sound_size es form first last) ++ frte (count first last)

abbrev pub front : List Entry → List ℕ → Form → ℕ → ℕ → List ℕ
front es file form first last =
    (codes "FRM8" ++ big_bytes 8 (form_size es file form first last) ++ codes "DSD ") ++ before file form ++ sound_opening es form first last

abbrev pub padding : ℕ → List ℕ
padding size = if size % 2 == 1 then 0 ∷ [] else []

abbrev pub frames : List Entry → List ℕ → Form → ℕ → ℕ → List ℕ
frames es file form first last = between file (begins es first) (ends es form last) ++ padding (sound_size es form first last)

-- entries that are moved with their frames to a place
abbrev pub moved : ℕ → ℕ → Entry → Entry
moved from place e = record { offset = place + (e.offset - from); size = e.size }

abbrev pub index_bytes : List Entry → List ℕ
index_bytes es = flat_map (λ e. big_bytes 8 e.offset ++ big_bytes 4 e.size) es

abbrev pub entries_left : List Entry → ℕ → ℕ → ℕ → List Entry
entries_left es first last place = map (moved (begins es first) place) (take (count first last) (drop first es))

-- the place of the first frame's chunk: behind the form's head and type, the chunks, the head of `DST `, and `FRTE`
abbrev pub first_at : List ℕ → Form → ℕ
first_at file form = 16 + length (before file form) + 12 + 18

abbrev pub end : List Entry → List ℕ → Form → ℕ → ℕ → List ℕ
end es file form first last = dsti (entries_left es first last (first_at file form)) ++ origin_left form first last ++ behind file form

-- all of it
abbrev pub whole : List Entry → List ℕ → Form → ℕ → ℕ → List ℕ
whole es file form first last = front es file form first last ++ frames es file form first last ++ end es file form first last
