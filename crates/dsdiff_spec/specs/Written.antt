-- Chunks as they are written. Pad bytes that aren't kept ones are 0.
use Rattle.std.specs.Prelude.{ℕ, ◌+◌, ◌%◌, ◌==◌, not, ◌&&◌, ◌||◌, if◌then◌else◌, List, [], ◌∷◌, ◌++◌, length, map, filter, flat_map, codes}
use Rattle.std.specs.List.{concat}
use Rattle.byteorder.specs.Endian.{big_bytes}
use Rattle.dsdiff_spec.specs.Bytes.{between, ◌is◌, ◌below◌, ◌above◌}
use Rattle.dsdiff_spec.specs.Chunks.{Head, next_place}
use Rattle.dsdiff_spec.specs.Parts.{in_prop, cmpr_head}
use Rattle.dsdiff_spec.specs.Form.{Form, whole_chunk}
use Rattle.dsdiff_spec.specs.Walk.{Entry}
use Prim.Native.String.{String}

-- a chunk, with a pad byte after a body of odd size
abbrev pub padded_chunk : String → List ℕ → ℕ → List ℕ
padded_chunk name body pad =
    codes name ++ big_bytes 8 (length body) ++ body ++ (if length body % 2 == 1 then pad ∷ [] else [])

abbrev pub chunk : String → List ℕ → List ℕ
chunk name body = padded_chunk name body 0

-- a form of some chunks
abbrev pub form_of : List (List ℕ) → List ℕ
form_of chunks = codes "FRM8" ++ big_bytes 8 (4 + length (concat chunks)) ++ codes "DSD " ++ concat chunks

-- `FRTE` of some frames at 75 frames in a second, and a frame
abbrev pub frte : ℕ → List ℕ
frte frames = chunk "FRTE" (big_bytes 4 frames ++ big_bytes 2 75)

abbrev pub dstf : List ℕ → List ℕ
dstf frame = chunk "DSTF" frame

-- `DSTI`, and the entries of frames in chunks one after the other, the first at a place
abbrev pub dsti : List Entry → List ℕ
dsti es = chunk "DSTI" (flat_map (λ e. big_bytes 8 e.offset ++ big_bytes 4 e.size) es)

abbrev pub entries_from : ℕ → List (List ℕ) → List Entry
entries_from place [] = []
entries_from place (frame ∷ frames) =
    record { offset = place + 12; size = length frame } ∷ entries_from (place + length (dstf frame)) frames

-- `KEPT` of version 2: the sound's size and pad byte, how many bytes are kept, the plain file's `CMPR`, the kept bytes
abbrev pub origin_chunk : ℕ → ℕ → List ℕ → List ℕ → List ℕ
origin_chunk sound pad cmpr kept = chunk "KEPT" (2 ∷ big_bytes 8 sound ++ pad ∷ big_bytes 4 (length kept) ++ cmpr ++ kept)

-- `CMPR` of coded and of plain sound
abbrev pub cmpr_coded : List ℕ
cmpr_coded = chunk "CMPR" (codes "DST " ++ 11 ∷ codes "DST Encoded")

abbrev pub cmpr_plain : List ℕ
cmpr_plain = chunk "CMPR" (codes "DSD " ++ 14 ∷ codes "not compressed")

-- a chunk in a body of `PROP`, with its pad byte, and its `CMPR`
abbrev pub part_of_prop : List ℕ → Head → List ℕ
part_of_prop prop h = between prop h.place (next_place h)

abbrev pub cmpr_in : List ℕ → List ℕ
cmpr_in prop = part_of_prop prop (cmpr_head prop)

-- `PROP` with another chunk in the place of its `CMPR`
abbrev pub prop_with : List ℕ → List ℕ → List ℕ
prop_with prop cmpr =
    chunk "PROP" (codes "SND " ++ flat_map (λ h. if h.id is "CMPR" then cmpr else part_of_prop prop h) (in_prop prop).heads)

-- ---- chunks that are passed on from one form to another: all but the sound, `DSTI` and `KEPT`
abbrev pub before_sound : Form → List Head
before_sound form = filter (λ h. h.place below form.sound.place && not (h.id is "DSTI" || h.id is "KEPT")) form.chunks

abbrev pub behind_sound : Form → List Head
behind_sound form = filter (λ h. h.place above form.sound.place && not (h.id is "DSTI" || h.id is "KEPT")) form.chunks

-- byte for byte
abbrev pub copied : List ℕ → Form → List Head → List (List ℕ)
copied file form heads = map (whole_chunk file form) heads

-- byte for byte, but for another `CMPR` in `PROP`
abbrev pub copied_with : List ℕ → List ℕ → Form → List Head → List (List ℕ)
copied_with cmpr file form heads =
    map (λ h. if h.id is "PROP" then prop_with form.prop cmpr else whole_chunk file form h) heads
