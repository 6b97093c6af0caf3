-- What is still to come of a stream, by what is being read of it.
use Rattle.std.specs.Prelude.{◌≡◌, ℕ, ◌+◌, ◌-◌, ◌*◌, ◌^◌, ◌<◌, ◌≤◌, ◌==◌, Bool, true, false, if◌then◌else◌, List, length}
use Rattle.std.specs.Prelude.{Option, Some, None, option_map, IsSome}
use Rattle.dst_spec.specs.Sample.{Shape, sound_bytes}
use Rattle.dsdiff_spec.specs.Bytes.{bytes_at, ◌is◌, ◌above◌}
use Rattle.dsdiff_spec.specs.Faults.{◌when◌, ◌otherwise◌}
use Rattle.dsdiff_spec.specs.declared.faults.FileFault.{FileFault}
use Rattle.dsdiff_spec.specs.declared.faults.FileFault.TheVariants.{NotForm, Overrun, FrameTooLong, TooManyFrames, CountDiffers}
use Rattle.dsdiff_spec.specs.Chunks.{Head, next_place}
use Rattle.dsdiff_spec.specs.Parts.{compression}
use Rattle.dsdiff_spec.specs.Streams.{Ending, Stream, ended, stopped, cut_off, nothing_but, with_front, up_to, shape_in, in_sound_chunk, found_with}
use Rattle.dsdiff_spec.specs.Streams.{frames_from}
use Rattle.dsdiff_spec.specs.Streams.{Came, came_with, in_sound, in_form_chunk, in_form, stream}
use Rattle.dsdiff_chunks.specs.Seen.{head_seen}
use Rattle.dsdiff_chunks.specs.declared.prop.PropFields.{PropFields}
use Rattle.push_decoder.specs.declared.stage.FormSoFar.{FormSoFar}
use Rattle.push_decoder.specs.declared.stage.SoundSoFar.{SoundSoFar}
use Rattle.push_decoder.specs.declared.stage.Stage.{Stage}
use Rattle.push_decoder.specs.declared.stage.Stage.TheVariants.{Start, FormHead, FormBody, FormRest, FrameCount, Opened}
use Rattle.push_decoder.specs.declared.stage.Stage.TheVariants.{SoundHead, FrameBody, SoundRest, FrameWhole, Ended, Refused}

-- the bodies of `FVER` and `PROP`, where they came
abbrev pub came_of : FormSoFar → List ℕ → List ℕ → Came
came_of form version prop = record {
  version = if form.chunks == 0 then None else Some version;
  prop = option_map (λ fields. prop) form.properties;
}

-- what was read of `PROP` is what its body tells
abbrev pub Tells : FormSoFar → List ℕ → Type 0
Tells form prop =
    (fields : PropFields) → form.properties ≡ Some fields → (fields.channels ≡ shape_in prop) × (fields.compression ≡ compression prop)

-- the chunks of the form from a place on, and those of `DST `
abbrev pub form_from : List ℕ → List ℕ → FormSoFar → ℕ → List ℕ → Stream
form_from version prop form place w = in_form w form.end (1024 - form.chunks) (came_of form version prop) place

abbrev pub sound_from : SoundSoFar → ℕ → List ℕ → Stream
sound_from sound place w = frames_from w sound.channels sound.frame_count sound.end (4000000 - sound.chunks) sound.found place

-- from a chunk's body on
abbrev pub form_chunk_from : List ℕ → List ℕ → FormSoFar → Head → List ℕ → Stream
form_chunk_from version prop form h w =
    let came = came_of form version prop in
    in_form_chunk w form.end came h (in_form w form.end (1023 - form.chunks) (came_with w came h) (next_place h))

abbrev pub sound_chunk_from : SoundSoFar → Head → List ℕ → Stream
sound_chunk_from sound h w =
    in_sound_chunk w sound.end h
    (frames_from w sound.channels sound.frame_count sound.end (3999999 - sound.chunks) (found_with h sound.found) (next_place h))

-- The part of a stream that a stage and what follows it make, where these are the bodies of `FVER` and `PROP` that came.
abbrev pub still_to_come : List ℕ → List ℕ → Stage → List ℕ → Stream
still_to_come version prop Start w = stream w
still_to_come version prop (FormHead form place) w = form_from version prop form place w
still_to_come version prop (FormBody form head) w = form_chunk_from version prop form (head_seen head) w
still_to_come version prop (FormRest form place end) w = up_to w place end (form_from version prop form end w)
still_to_come version prop (FrameCount form head) w = in_sound w (came_of form version prop) (head_seen head)
still_to_come version prop (Opened sound place) w =
    with_front (record { version = version; prop = prop; frames = sound.frame_count }) (sound_from sound place w)
still_to_come version prop (SoundHead sound place) w = sound_from sound place w
still_to_come version prop (FrameBody sound head) w = sound_chunk_from sound (head_seen head) w
still_to_come version prop (SoundRest sound place end) w = up_to w place end (sound_from sound end w)
still_to_come version prop (FrameWhole sound head) w = sound_chunk_from sound (head_seen head) w
still_to_come version prop Ended w = nothing_but ended
still_to_come version prop (Refused fault) w = nothing_but (stopped fault)

-- the rules on the head of a frame behind so many others, beside its end
abbrev pub frame_rules : Shape → ℕ → ℕ → Head → Option FileFault
frame_rules f count found h =
    FrameTooLong found h.size when h.size above 2 * (sound_bytes f + 1)
    otherwise TooManyFrames when found above 999999
    otherwise CountDiffers count (count + 1) when found == count

-- ---- from where and up to where a stage reads, where it reads anything
abbrev pub part_start : Stage → ℕ
part_start Start = 0
part_start (FormHead form place) = place
part_start (FormBody form head) = head.place + 12
part_start (FormRest form place end) = place
part_start (FrameCount form head) = head.place + 12
part_start (Opened sound place) = place
part_start (SoundHead sound place) = place
part_start (FrameBody sound head) = head.place + 12
part_start (SoundRest sound place end) = place
part_start (FrameWhole sound head) = head.place + 12
part_start Ended = 0
part_start (Refused fault) = 0

abbrev pub part_end : Stage → ℕ
part_end Start = 16
part_end (FormHead form place) = place + 12
part_end (FormBody form head) = head.place + 12 + head.size
part_end (FormRest form place end) = end
part_end (FrameCount form head) = head.place + 12 + 18
part_end (Opened sound place) = place
part_end (SoundHead sound place) = place + 12
part_end (FrameBody sound head) = head.place + 12 + head.size
part_end (SoundRest sound place end) = end
part_end (FrameWhole sound head) = head.place + 12 + head.size
part_end Ended = 0
part_end (Refused fault) = 0

-- whether it lacks bytes, and whether they are gathered as a part that is looked at, or as a frame
abbrev pub lacks : Stage → Bool
lacks (Opened sound place) = false
lacks (FrameWhole sound head) = false
lacks Ended = false
lacks (Refused fault) = false
lacks stage = true

-- whether it reads nothing until it is answered
abbrev pub is_due : Stage → Bool
is_due (Opened sound place) = true
is_due (FrameWhole sound head) = true
is_due stage = false

abbrev pub is_looked_at : Stage → Bool
is_looked_at Start = true
is_looked_at (FormHead form place) = true
is_looked_at (FormBody form head) = true
is_looked_at (FrameCount form head) = true
is_looked_at (SoundHead sound place) = true
is_looked_at stage = false

abbrev pub is_frame : Stage → Bool
is_frame (FrameBody sound head) = true
is_frame (FrameWhole sound head) = true
is_frame stage = false

-- the fault of a stream that ends in a stage: the place of the chunk that has begun or is due
abbrev pub cut_fault : Stage → FileFault
cut_fault Start = NotForm
cut_fault (FormHead form place) = Overrun place
cut_fault (FormBody form head) = Overrun head.place
cut_fault (FormRest form place end) = Overrun place
cut_fault (FrameCount form head) = Overrun (head.place + 12)
cut_fault (Opened sound place) = Overrun place
cut_fault (SoundHead sound place) = Overrun place
cut_fault (FrameBody sound head) = Overrun head.place
cut_fault (SoundRest sound place end) = Overrun place
cut_fault (FrameWhole sound head) = Overrun head.place
cut_fault Ended = NotForm
cut_fault (Refused fault) = fault

-- how a stream ends that ends in a stage which isn't due
abbrev pub stage_ending : Stage → Ending
stage_ending Ended = ended
stage_ending (Refused fault) = stopped fault
stage_ending stage = cut_off (cut_fault stage)

-- ---- what a stage keeps to
pub record IsInForm (form : FormSoFar) : Type 0 where
  pub near : form.end ≤ 2 ^ 50 + 12
  pub few : form.chunks ≤ 1024
  pub none : form.chunks ≡ 0 → form.properties ≡ None

pub record IsInSound (sound : SoundSoFar) : Type 0 where
  pub near : sound.end ≤ 2 ^ 50 + 12
  pub few : sound.chunks ≤ 4000000
  pub some : sound.found ≤ sound.frame_count
  pub most : sound.frame_count ≤ 1000000

abbrev pub IsLawful : Stage → Type 0
IsLawful Start = Unit {0}
IsLawful (FormHead form place) = IsInForm form × (form.chunks < 1024) × (place + 12 ≤ form.end)
IsLawful (FormBody form head) =
    IsInForm form × (form.chunks < 1024) × (head.place + 12 + head.size ≤ form.end) × (head.size ≤ 65536)
    × (form.chunks ≡ 0 → head.size ≡ 4) × (0 < form.chunks → (head_seen head).id is "PROP" ≡ true) × ((head_seen head).id is "DST " ≡ false)
IsLawful (FormRest form place end) = IsInForm form × (place ≤ end) × (end ≤ form.end)
IsLawful (FrameCount form head) =
    IsInForm form × (0 < form.chunks) × (head.place + 12 + head.size ≤ form.end) × (18 ≤ head.size) × IsSome form.properties
IsLawful (Opened sound place) = IsInSound sound × (place ≤ sound.end)
IsLawful (SoundHead sound place) = IsInSound sound × (sound.chunks < 4000000) × (place + 12 ≤ sound.end)
IsLawful (FrameBody sound head) =
    IsInSound sound × (sound.chunks < 4000000) × (head.place + 12 + head.size ≤ sound.end) × (head.size ≤ 225794)
    × (sound.found < sound.frame_count) × ((head_seen head).id is "DSTF" ≡ true)
IsLawful (SoundRest sound place end) = IsInSound sound × (place ≤ end) × (end ≤ sound.end)
IsLawful (FrameWhole sound head) =
    IsInSound sound × (sound.chunks < 4000000) × (head.place + 12 + head.size ≤ sound.end) × (head.size ≤ 225794)
    × (sound.found < sound.frame_count) × ((head_seen head).id is "DSTF" ≡ true)
IsLawful Ended = Unit {0}
IsLawful (Refused fault) = Unit {0}

-- so many bytes were taken, and the part that the stage reads isn't whole; or the stage reads nothing
pub record Stands (stage : Stage) (taken : ℕ) : Type 0 where
  pub lawful : IsLawful stage
  pub begun : lacks stage ≡ true → part_start stage ≤ taken
  pub short : lacks stage ≡ true → taken < part_end stage
  pub whole : is_due stage ≡ true → part_end stage ≡ taken
  pub near : taken ≤ 2 ^ 50 + 12

-- what a stage gathers begins where so many bytes were taken
pub record IsFresh (stage : Stage) (taken : ℕ) : Type 0 where
  pub part : is_looked_at stage ≡ true → part_start stage ≡ taken
  pub frame : is_frame stage ≡ true → part_start stage ≡ taken

-- ---- the part of a stage is whole
-- these bytes are it, where they are looked at
pub record HasPart (stage : Stage) (w part : List ℕ) : Type 0 where
  pub there : part_end stage ≤ length w
  pub same : is_looked_at stage ≡ true → bytes_at w (part_start stage) (part_end stage - part_start stage) ≡ part

-- the bodies of `FVER` and `PROP` then
abbrev pub version_then : Stage → List ℕ → List ℕ → List ℕ
version_then (FormBody form head) part version = if form.chunks == 0 then part else version
version_then stage part version = version

abbrev pub prop_then : Stage → List ℕ → List ℕ → List ℕ
prop_then (FormBody form head) part prop = if form.chunks == 0 then prop else part
prop_then stage part prop = prop

-- what was read of `PROP` is what its body tells
abbrev pub StageTells : Stage → List ℕ → Type 0
StageTells (FormHead form place) prop = Tells form prop
StageTells (FormBody form head) prop = Tells form prop
StageTells (FormRest form place end) prop = Tells form prop
StageTells (FrameCount form head) prop = Tells form prop
StageTells (Opened sound place) prop = sound.channels ≡ shape_in prop
StageTells stage prop = Unit {0}
