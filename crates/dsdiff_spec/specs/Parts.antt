-- The parts of a file that the rules of the form speak of. Each is read wherever it would stand; where there is none,
-- an earlier rule refuses the file.
use Rattle.std.specs.Prelude.{ℕ, ◌+◌, ◌/◌, ◌%◌, false, not, ◌||◌, ◌==◌, if◌then◌else◌, List, length, drop, get_or, filter}
use Rattle.dst_spec.specs.Sample.{sound_bytes}
use Rattle.dsdiff_spec.specs.Bytes.{bytes_at, number_at, ◌is◌}
use Rattle.dsdiff_spec.specs.Chunks.{Head, Found, chunks_from, named, the_first, body_place, body_end, body_of}
use Rattle.dsdiff_spec.specs.Form.{Kind, plain, coded, shape_of, frames_for}
use Prim.Native.String.{String}

-- the file begins with `FRM8`, the form's size and the form type; the form ends behind its body
abbrev pub form_size : List ℕ → ℕ
form_size file = number_at file 4 8

abbrev pub form_end : List ℕ → ℕ
form_end file = 12 + form_size file

-- the chunks of the form; all but `DSD ` may lack a last pad byte
abbrev pub top_level : List ℕ → Found
top_level file = chunks_from (λ id. not (id is "DSD ")) file (form_end file) 1024 16

abbrev pub all : String → List ℕ → List Head
all name file = named name (top_level file).heads

-- `PROP`, and what its body says: the chunks in it, which stand behind `SND `, and their fields. A body has room for
-- fewer than 65,536 chunks.
abbrev pub prop_head : List ℕ → Head
prop_head file = the_first (all "PROP" file)

abbrev pub prop : List ℕ → List ℕ
prop file = body_of file (prop_head file)

abbrev pub in_prop : List ℕ → Found
in_prop body = chunks_from (λ id. false) body (length body) 65536 4

abbrev pub local : String → List ℕ → List Head
local name body = named name (in_prop body).heads

abbrev pub rate_head : List ℕ → Head
rate_head body = the_first (local "FS  " body)

abbrev pub channels_head : List ℕ → Head
channels_head body = the_first (local "CHNL" body)

abbrev pub cmpr_head : List ℕ → Head
cmpr_head body = the_first (local "CMPR" body)

abbrev pub rate : List ℕ → ℕ
rate body = number_at body (body_place (rate_head body)) 4

abbrev pub channel_count : List ℕ → ℕ
channel_count body = number_at body (body_place (channels_head body)) 2

abbrev pub compression : List ℕ → List ℕ
compression body = bytes_at body (body_place (cmpr_head body)) 4

-- the multiple of 64 times 44.1 kHz, and the bytes of one frame's sound
abbrev pub multiple : List ℕ → ℕ
multiple body = rate body / 2822400

abbrev pub sound_bytes_in : List ℕ → ℕ
sound_bytes_in body = sound_bytes (shape_of (channel_count body) (multiple body))

-- the sound chunk
abbrev pub sounds : List ℕ → List Head
sounds file = filter (λ h. h.id is "DSD " || h.id is "DST ") (top_level file).heads

abbrev pub sound_head : List ℕ → Head
sound_head file = the_first (sounds file)

abbrev pub kind : List ℕ → Kind
kind file = if (sound_head file).id is "DSD " then plain else coded

-- of a plain form: how many frames its sound needs, its pad byte, the bytes behind the form
abbrev pub frames_needed : List ℕ → ℕ
frames_needed file = frames_for (sound_bytes_in (prop file)) (sound_head file).size

abbrev pub pad_byte : List ℕ → ℕ
pad_byte file = if (sound_head file).size % 2 == 1 then get_or file (body_end (sound_head file)) 0 else 0

abbrev pub behind_form : List ℕ → List ℕ
behind_form file = drop (form_end file) file

-- of a coded form: the frame count in `FRTE`, and how many frames stand for a second of sound
abbrev pub frame_count : List ℕ → ℕ
frame_count file = number_at file (body_place (sound_head file) + 12) 4

abbrev pub frame_rate : List ℕ → ℕ
frame_rate file = number_at file (body_place (sound_head file) + 16) 2
