-- What bytes mean that are read forward and come once: the frames that they have, and how they end. No rule waits for a byte that it
-- doesn't speak of.
use Rattle.std.specs.Prelude.{◌≡◌, ℕ, zero, suc, ◌+◌, ◌-◌, ◌*◌, ◌^◌, min, true, false, not, ◌&&◌, ◌||◌, ◌==◌, if◌then◌else◌}
use Rattle.std.specs.Prelude.{List, [], ◌∷◌, ◌++◌, length, take, get_or, replicate, Option, Some, None, option_map, unwrap_or}
use Rattle.std.specs.List.{concat, AllZip}
use Rattle.dst_spec.specs.Sample.{Shape, sound_bytes}
use Rattle.dsdiff_spec.specs.Bytes.{bytes_at, number_at, ◌is◌, ◌below◌, ◌above◌}
use Rattle.dsdiff_spec.specs.Faults.{◌when◌, ◌otherwise◌}
use Rattle.dsdiff_spec.specs.Chunks.{Head, the_first, head_at, body_place, body_end, next_place, body_of}
use Rattle.dsdiff_spec.specs.Form.{shape_of}
use Rattle.dsdiff_spec.specs.Parts.{form_size, form_end, top_level, channel_count, multiple, compression}
use Rattle.dsdiff_spec.specs.Rules.{local_fault, is_frte, accepted}
use Rattle.dsdiff_spec.specs.Decoded.{frames_of}
use Rattle.dsdiff_spec.specs.Laws.{IsCodedFile}
use Rattle.dsdiff_spec.specs.Written.{chunk, form_of, prop_with, cmpr_plain}
use Rattle.dsdiff_spec.specs.Ranges.{MeansOrZeros}
use Rattle.dsdiff_spec.specs.declared.faults.FileFault.{FileFault}
use Rattle.dsdiff_spec.specs.declared.faults.FileFault.TheVariants.{NotForm, FormType, FormTooLarge, Overrun, Version, PropMissing, PropTwice, PropType}
use Rattle.dsdiff_spec.specs.declared.faults.FileFault.TheVariants.{PropTooLong, NotCoded, Compression, SoundMissing, FrameRate, TooManyFrames}
use Rattle.dsdiff_spec.specs.declared.faults.FileFault.TheVariants.{TooManyChunks, FrameTooLong, CountDiffers}

-- A stream ends behind its last frame; or at a fault that its bytes decide, whatever follows; or it is cut off, where its bytes end
-- before a part that the next rule needs.
pub data Ending : Type 0 where
  ended : Ending
  stopped : FileFault → Ending
  cut_off : FileFault → Ending

-- what stands in front of the frames: the bodies of `FVER` and `PROP`, and the frame count in `FRTE`
pub record Front : Type 0 where
  pub version : List ℕ
  pub prop : List ℕ
  pub frames : ℕ

pub record Stream : Type 0 where
  pub front : Option Front
  pub frames : List (List ℕ)
  pub ending : Ending

abbrev pub shape_in : List ℕ → Shape
shape_in prop = shape_of (channel_count prop) (multiple prop)

-- ---- a stream, part by part
abbrev pub nothing_but : Ending → Stream
nothing_but ending = record { front = None; frames = []; ending = ending }

abbrev pub with_front : Front → Stream → Stream
with_front front s = record s { front = Some front }

abbrev pub with_frame : List ℕ → Stream → Stream
with_frame frame s = record s { frames = frame ∷ s.frames }

-- what follows unless a rule is broken
abbrev pub unless : Option FileFault → Stream → Stream
unless (Some fault) later = nothing_but (stopped fault)
unless None later = later

-- what follows where the bytes reach a place; where they don't, they end inside this chunk
abbrev pub up_to : List ℕ → ℕ → ℕ → Stream → Stream
up_to w in_chunk place later = if length w below place then nothing_but (cut_off (Overrun in_chunk)) else later

-- Why a stream ends at the head of a chunk: twelve bytes don't fit before the end of what it stands in, or don't come, or
-- a rule on them gives a fault.
abbrev pub ending_at_head : List ℕ → ℕ → ℕ → Option FileFault → Option Ending
ending_at_head w end place fault =
    if end below place + 12 then Some (stopped (Overrun place))
    else (if length w below place + 12 then Some (cut_off (Overrun place)) else option_map stopped fault)

-- a chunk is whole with its pad byte, or without it at the end of what it stands in
abbrev pub whole_end : ℕ → Head → ℕ
whole_end end h = min (next_place h) end

-- ---- in `DST `: each `DSTF` is the next frame, of which no more may come than `FRTE` says
abbrev pub frame_head_fault : Shape → ℕ → ℕ → ℕ → Head → Option FileFault
frame_head_fault f count end found h =
    Overrun h.place when body_end h above end
    otherwise (
    if h.id is "DSTF" then (
    FrameTooLong found h.size when h.size above 2 * (sound_bytes f + 1)
    otherwise TooManyFrames when found above 999999
    otherwise CountDiffers count (count + 1) when found == count
    ) else None
    )

abbrev pub with_frame_in : List ℕ → Head → Stream → Stream
with_frame_in w h later = if h.id is "DSTF" then with_frame (body_of w h) later else later

abbrev pub in_sound_chunk : List ℕ → ℕ → Head → Stream → Stream
in_sound_chunk w end h later = up_to w h.place (body_end h) (with_frame_in w h (up_to w h.place (whole_end end h) later))

abbrev pub found_with : Head → ℕ → ℕ
found_with h found = if h.id is "DSTF" then found + 1 else found

abbrev pub counted : ℕ → ℕ → Ending
counted count found = if found == count then ended else stopped (CountDiffers count found)

-- from a place on, up to the end of `DST `, at most `most` chunks
unfoldable pub frames_from : List ℕ → Shape → ℕ → ℕ → ℕ → ℕ → ℕ → Stream
frames_from w f count end zero found place = nothing_but (if place below end then stopped TooManyChunks else counted count found)
frames_from w f count end (suc most) found place =
    let h = head_at w place in
    elim (place below end) [
      | false ↦ nothing_but (counted count found)
      | true ↦ elim (ending_at_head w end place (frame_head_fault f count end found h)) [
        | Some ending ↦ nothing_but ending
        | None ↦ in_sound_chunk w end h (frames_from w f count end most (found_with h found) (next_place h))
      ]
    ]

-- ---- in the form: the bodies of `FVER`, its first chunk, and of `PROP`, where they came
pub record Came : Type 0 where
  pub version : Option (List ℕ)
  pub prop : Option (List ℕ)

abbrev pub nothing_came : Came
nothing_came = record { version = None; prop = None }

-- the end of the form without `DST `
abbrev pub missing : Came → FileFault
missing came = elim came.version [ None ↦ Version | Some version ↦ elim came.prop [ None ↦ PropMissing | Some prop ↦ SoundMissing ] ]

-- rules on a chunk's head, by its id
abbrev pub version_head_fault : Head → Option FileFault
version_head_fault h = Version when not (h.id is "FVER" && h.size == 4)

abbrev pub prop_head_fault : Option (List ℕ) → Head → Option FileFault
prop_head_fault (Some prop) h = Some PropTwice
prop_head_fault None h = PropTooLong when h.size above 65536 otherwise PropType when h.size below 4

abbrev pub plain_head_fault : Option (List ℕ) → Option FileFault
plain_head_fault (Some prop) = Some NotCoded
plain_head_fault None = Some PropMissing

abbrev pub sound_head_fault : Option (List ℕ) → Head → Option FileFault
sound_head_fault (Some prop) h = Compression when not (compression prop is "DST ") otherwise FrameRate when h.size below 18
sound_head_fault None h = Some PropMissing

abbrev pub later_head_fault : Option (List ℕ) → Head → Option FileFault
later_head_fault prop h =
    if h.id is "PROP" then prop_head_fault prop h
    else (if h.id is "DSD " then plain_head_fault prop else (if h.id is "DST " then sound_head_fault prop h else None))

abbrev pub chunk_head_fault : ℕ → Came → Head → Option FileFault
chunk_head_fault end came h =
    Overrun h.place when body_end h above end
    otherwise elim came.version [ None ↦ version_head_fault h | Some version ↦ later_head_fault came.prop h ]

-- rules on its body
abbrev pub version_body_fault : List ℕ → Head → Option FileFault
version_body_fault w h = Version when not (get_or w (body_place h) 0 == 1)

abbrev pub prop_body_fault : List ℕ → Head → Option FileFault
prop_body_fault w h = if h.id is "PROP" then local_fault (body_place h) (body_of w h) else None

abbrev pub chunk_body_fault : List ℕ → Came → Head → Option FileFault
chunk_body_fault w came h = elim came.version [ None ↦ version_body_fault w h | Some version ↦ prop_body_fault w h ]

abbrev pub came_with : List ℕ → Came → Head → Came
came_with w came h = elim came.version [
  | None ↦ record { version = Some (body_of w h); prop = None }
  | Some version ↦ record { version = Some version; prop = if h.id is "PROP" then Some (body_of w h) else came.prop }
]

-- `DST `, which begins with `FRTE`
abbrev pub frte_fault_at : List ℕ → ℕ → Option FileFault
frte_fault_at w place =
    FrameRate when not (is_frte w place) || not (number_at w (place + 16) 2 == 75)
    otherwise TooManyFrames when number_at w (place + 12) 4 above 1000000

abbrev pub front_of : List ℕ → Came → Head → Front
front_of w came h =
    record { version = unwrap_or came.version []; prop = unwrap_or came.prop []; frames = number_at w (body_place h + 12) 4 }

abbrev pub in_sound : List ℕ → Came → Head → Stream
in_sound w came h =
    let front = front_of w came h in
    up_to w (body_place h) (body_place h + 18)
    (unless (frte_fault_at w (body_place h))
    (with_front front (frames_from w (shape_in front.prop) front.frames (body_end h) 4000000 0 (body_place h + 18))))

abbrev pub in_form_chunk : List ℕ → ℕ → Came → Head → Stream → Stream
in_form_chunk w end came h later =
    up_to w h.place (body_end h) (unless (chunk_body_fault w came h) (up_to w h.place (whole_end end h) later))

-- from a place on, up to the end of the form, at most `most` chunks
unfoldable pub in_form : List ℕ → ℕ → ℕ → Came → ℕ → Stream
in_form w end zero came place = nothing_but (stopped (if place below end then TooManyChunks else missing came))
in_form w end (suc most) came place =
    let h = head_at w place in
    elim (place below end) [
      | false ↦ nothing_but (stopped (missing came))
      | true ↦ elim (ending_at_head w end place (chunk_head_fault end came h)) [
        | Some ending ↦ nothing_but ending
        | None ↦ elim (h.id is "DST ") [
          | true ↦ in_sound w came h
          | false ↦ in_form_chunk w end came h (in_form w end most (came_with w came h) (next_place h))
        ]
      ]
    ]

-- ---- the whole stream, which begins with the head of a form and its type
abbrev pub form_head_fault : List ℕ → Option FileFault
form_head_fault w =
    NotForm when not (bytes_at w 0 4 is "FRM8") || form_size w below 4
    otherwise FormTooLarge when form_size w above 2 ^ 50
    otherwise FormType when not (bytes_at w 12 4 is "DSD ")

unfoldable pub stream : List ℕ → Stream
stream w = elim (length w below 16) [
  | true ↦ nothing_but (cut_off NotForm)
  | false ↦ unless (form_head_fault w) (in_form w (form_end w) 1024 nothing_came 16)
]

-- ---- what decoding a stream writes: a plain form of `FVER`, `PROP` with the `CMPR` of plain sound, and the sound, in which zeros stand
-- for each frame that is missing or means none
abbrev pub piped : Front → List (List ℕ) → List ℕ
piped front sounds =
    form_of (
    chunk "FVER" front.version ∷ prop_with front.prop cmpr_plain
    ∷ chunk "DSD " (
    concat sounds ++ concat (replicate (front.frames - length sounds) (replicate (sound_bytes (shape_in front.prop)) 0))
    )
    ∷ [])

pub record PipeOut (s : Stream) (front : Front) (out : List ℕ) : Type 0 where
  pub has_front : s.front ≡ Some front
  pub sounds : List (List ℕ)
  pub each : AllZip (MeansOrZeros (shape_in front.prop)) s.frames sounds
  pub written : out ≡ piped front sounds

-- up to the end of the sound of k frames
abbrev pub place_of_piped_sound : Front → ℕ
place_of_piped_sound front = 16 + length (chunk "FVER" front.version) + length (prop_with front.prop cmpr_plain) + 12

abbrev pub piped_before : Front → List ℕ → ℕ → List ℕ
piped_before front out k = take (place_of_piped_sound front + k * sound_bytes (shape_in front.prop)) out

-- ---- a file that is accepted for decoding is a stream of its form's frames that ends behind the last of them
abbrev pub version_in : List ℕ → List ℕ
version_in file = body_of file (the_first (top_level file).heads)

abbrev pub StreamLaw : Type 0
StreamLaw =
    (file : List ℕ) → IsCodedFile file →
    stream file ≡ record {
      front = Some (record { version = version_in file; prop = (accepted file).prop; frames = (accepted file).frames });
      frames = frames_of file (accepted file);
      ending = ended;
    }
