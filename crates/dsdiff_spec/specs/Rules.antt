-- The rules of the form, in order. The first that fails gives the file's fault; where none fails the file is a form.
use Rattle.std.specs.Prelude.{ℕ, ◌+◌, ◌*◌, ◌%◌, ◌^◌, Bool, true, false, not, ◌&&◌, ◌||◌, ◌==◌, List, [], ◌∷◌, length, get_or, filter, Option, Some, None}
use Rattle.std.specs.Prelude.{Result, Ok, Err, bytes_eq}
use Rattle.dsdiff_spec.specs.Bytes.{bytes_at, number_at, ◌is◌, ◌below◌, ◌above◌}
use Rattle.dsdiff_spec.specs.Faults.{◌when◌, ◌otherwise◌}
use Rattle.dsdiff_spec.specs.Chunks.{Head, the_first, body_place, body_of}
use Rattle.dsdiff_spec.specs.Form.{Kind, plain, coded, Origin, Form}
use Rattle.dsdiff_spec.specs.Parts.{form_size, form_end, top_level, all, prop_head, prop, in_prop, local, rate_head, channels_head, cmpr_head, rate}
use Rattle.dsdiff_spec.specs.Parts.{channel_count, compression, multiple, sound_bytes_in, sounds, sound_head, kind, frames_needed, pad_byte, behind_form}
use Rattle.dsdiff_spec.specs.Parts.{frame_count, frame_rate}
use Rattle.dsdiff_spec.specs.Origin.{origin_of, is_bad_origin, outside}
use Rattle.dsdiff_spec.specs.declared.faults.FileFault.{FileFault}
use Rattle.dsdiff_spec.specs.declared.faults.FileFault.TheVariants.{NotForm, FormType, Overrun, Version, PropMissing, PropTwice, PropType, PropTooLong, Rate}
use Rattle.dsdiff_spec.specs.declared.faults.FileFault.TheVariants.{Channels, Compression, SoundMissing, SoundTwice, SoundUneven, FrameRate, TooManyFrames}
use Rattle.dsdiff_spec.specs.declared.faults.FileFault.TheVariants.{TooManyChunks, KeptBad, FormTooLarge, CodedChunk, TailTooLong}

-- the file begins with the head of a form, which lies whole in the file and holds whole chunks
abbrev pub opening_fault : List ℕ → Option FileFault
opening_fault file =
    NotForm when length file below 16 || not (bytes_at file 0 4 is "FRM8") || form_size file below 4
    otherwise FormTooLarge when form_size file above 2 ^ 50
    otherwise FormType when not (bytes_at file 12 4 is "DSD ")
    otherwise Overrun 0 when form_end file above length file
    otherwise (top_level file).fault

-- the first chunk is `FVER`
abbrev pub is_version : List ℕ → Head → Bool
is_version file h = h.id is "FVER" && h.size == 4 && get_or file (body_place h) 0 == 1

abbrev pub version_fault : List ℕ → Option FileFault
version_fault file = Version when not (is_version file (the_first (top_level file).heads))

-- there is one `PROP`, and its chunks say rate, channels and compression
abbrev pub is_rate : ℕ → Bool
is_rate n = n == 2822400 || n == 5644800 || n == 11289600

-- rules on the body of `PROP`, which begins at a place of the file
abbrev pub moved : ℕ → Option FileFault → Option FileFault
moved start (Some (Overrun place)) = Some (Overrun (start + place))
moved start (Some fault) = Some fault
moved start None = None

abbrev pub type_fault : List ℕ → Option FileFault
type_fault body = PropType when length body below 4 || not (bytes_at body 0 4 is "SND ")

abbrev pub rate_fault : List ℕ → Option FileFault
rate_fault body =
    Rate when not (length (local "FS  " body) == 1) || not ((rate_head body).size == 4) || not (is_rate (rate body))

abbrev pub channels_fault : List ℕ → Option FileFault
channels_fault body =
    Channels when
    not (length (local "CHNL" body) == 1) || (channels_head body).size below 2
    || outside 1 6 (channel_count body) || (channels_head body).size below 2 + 4 * channel_count body

abbrev pub compression_fault : List ℕ → Option FileFault
compression_fault body =
    Compression when
    not (length (local "CMPR" body) == 1) || (cmpr_head body).size below 4
    || not (compression body is "DSD " || compression body is "DST ")

abbrev pub local_fault : ℕ → List ℕ → Option FileFault
local_fault start body =
    type_fault body
    otherwise moved start (in_prop body).fault
    otherwise rate_fault body
    otherwise channels_fault body
    otherwise compression_fault body

abbrev pub prop_chunk_fault : List ℕ → Option FileFault
prop_chunk_fault file =
    PropMissing when length (all "PROP" file) == 0
    otherwise PropTwice when length (all "PROP" file) above 1
    otherwise PropTooLong when (prop_head file).size above 65536

abbrev pub prop_fault : List ℕ → Option FileFault
prop_fault file =
    prop_chunk_fault file otherwise local_fault (body_place (prop_head file)) (prop file)

-- there is one sound chunk, of the compression in `CMPR`, behind `PROP`
abbrev pub sound_fault : List ℕ → Option FileFault
sound_fault file =
    SoundMissing when length (sounds file) == 0
    otherwise SoundTwice when length (sounds file) above 1
    otherwise Compression when not (bytes_eq (compression (prop file)) (sound_head file).id)
    otherwise PropMissing when (prop_head file).place above (sound_head file).place

-- a plain form has none of the chunks that encoding adds, and leaves room for them
abbrev pub coded_chunks : List ℕ → List Head
coded_chunks file = filter (λ h. h.id is "DSTI" || h.id is "KEPT") (top_level file).heads

abbrev pub room_fault : (chunks size_of_prop size_of_form : ℕ) → Option FileFault
room_fault chunks size_of_prop size_of_form =
    TooManyChunks when chunks above 1022
    otherwise PropTooLong when size_of_prop above 65520
    otherwise FormTooLarge when size_of_form above 2 ^ 49

abbrev pub plain_fault : List ℕ → Option FileFault
plain_fault file =
    SoundUneven when not ((sound_head file).size % channel_count (prop file) == 0)
    otherwise TooManyFrames when frames_needed file above 1000000
    otherwise CodedChunk (the_first (coded_chunks file)).place when not (length (coded_chunks file) == 0)
    otherwise room_fault (length (top_level file).heads) (prop_head file).size (form_size file)
    otherwise TailTooLong (length (behind_form file)) when length (behind_form file) above 65536

-- a coded form begins with `FRTE`, and what it keeps of a plain file is lawful
abbrev pub is_frte : List ℕ → ℕ → Bool
is_frte file place = bytes_at file place 4 is "FRTE" && number_at file (place + 4) 8 == 6

abbrev pub has_bad_origin : List ℕ → Bool
has_bad_origin file = elim (all "KEPT" file) [
  | [] ↦ false
  | h ∷ [] ↦ is_bad_origin (channel_count (prop file)) (sound_bytes_in (prop file)) (frame_count file) (body_of file h)
  | h ∷ i ∷ hs ↦ true
]

abbrev pub coded_fault : List ℕ → Option FileFault
coded_fault file =
    FrameRate when
    (sound_head file).size below 18 || not (is_frte file (body_place (sound_head file))) || not (frame_rate file == 75)
    otherwise TooManyFrames when frame_count file above 1000000
    otherwise KeptBad when has_bad_origin file

-- all rules in order
abbrev pub kind_fault : Kind → List ℕ → Option FileFault
kind_fault plain file = plain_fault file
kind_fault coded file = coded_fault file

unfoldable pub form_fault : List ℕ → Option FileFault
form_fault file =
    opening_fault file
    otherwise version_fault file
    otherwise prop_fault file
    otherwise sound_fault file
    otherwise kind_fault (kind file) file

-- the form of a file that keeps all rules
abbrev pub origin_in : List ℕ → List Head → Option Origin
origin_in file [] = None
origin_in file (h ∷ hs) = Some (origin_of (body_of file h))

abbrev pub form_of_kind : Kind → List ℕ → Form
form_of_kind k file = record {
  kind = k;
  channels = channel_count (prop file);
  multiple = multiple (prop file);
  end = form_end file;
  chunks = (top_level file).heads;
  prop = prop file;
  sound = sound_head file;
  frames = elim k [ plain ↦ frames_needed file | coded ↦ frame_count file ];
  origin = elim k [ plain ↦ None | coded ↦ origin_in file (all "KEPT" file) ];
  pad = elim k [ plain ↦ pad_byte file | coded ↦ 0 ];
  behind = elim k [ plain ↦ behind_form file | coded ↦ [] ];
}

abbrev pub accepted : List ℕ → Form
accepted file = form_of_kind (kind file) file

abbrev pub form : List ℕ → Result Form FileFault
form file = elim (form_fault file) [ Some fault ↦ Err fault | None ↦ Ok (accepted file) ]
