-- Streams by their bytes: frames that come, and how each stream ends.
use Rattle.std.proofs.Common.{◌≡◌, ℕ, ◌++◌, List, [], ◌∷◌, length, map, take, drop, replicate, refl, inl, Some, None}
use Rattle.std.specs.Prelude.{codes, ⊤}
use Rattle.byteorder.specs.Endian.{big_bytes}
use Rattle.dst_spec.specs.Means.{Means}
use Rattle.dsdiff_spec.specs.Form.{shape_of}
use Rattle.dsdiff_spec.specs.Streams.{Ending, ended, stopped, cut_off, Front, frame_head_fault, frames_from, in_form, stream}
use Rattle.dsdiff_spec.specs.Streams.{shape_in, PipeOut, piped, piped_before}
use Rattle.dsdiff_spec.specs.declared.faults.FileFault.TheVariants.{NotForm, FormType, FormTooLarge, Overrun, Version, PropMissing, PropTwice, PropType}
use Rattle.dsdiff_spec.specs.declared.faults.FileFault.TheVariants.{PropTooLong, NotCoded, Compression, SoundMissing, FrameRate, TooManyFrames, Rate}
use Rattle.dsdiff_spec.specs.declared.faults.FileFault.TheVariants.{TooManyChunks, FrameTooLong, CountDiffers}
use Rattle.dsdiff_spec.proofs.Files.{example, empty}
use Rattle.dsdiff_spec.proofs.Built.{piece, file_of, version, prop, prop_of, dsd, dst}
use Rattle.dsdiff_spec.proofs.Forms.{forms_open, but}
use Rattle.dsdiff_spec.proofs.Restoring.{written_open}

-- what streams compute with, named once
unfoldable pub streams_open : ⊤
unfolding forms_open frames_from in_form stream
streams_open = tt

abbrev endings : List (List ℕ) → List Ending
endings streams = map (λ w. (stream w).ending) streams

abbrev lengths : List (List ℕ) → List (List ℕ)
lengths streams = map (λ w. map (λ frame. length frame) (stream w).frames) streams

abbrev sent : List (List ℕ) → List ℕ
sent pieces = file_of (version ∷ prop 1 2822400 "DST " ∷ pieces)

abbrev frame : ℕ → List ℕ
frame n = piece "DSTF" (replicate n 7)

-- ---- the file of one frame, whole and cut off: each part is missed at the place of the chunk that has begun or is due
pub one_frame_comes : stream example ≡ record {
  front = Some (record { version = 1 ∷ 5 ∷ 0 ∷ 0 ∷ []; prop = take 66 (drop 44 example); frames = 1 });
  frames = (252 ∷ 0 ∷ 0 ∷ 5 ∷ 255 ∷ 248 ∷ []) ∷ [];
  ending = ended;
}
unfolding streams_open
one_frame_comes = refl

pub cut_off_at_each_part :
    endings (map (λ n. take n example) (15 ∷ 16 ∷ 31 ∷ 32 ∷ 109 ∷ 110 ∷ 121 ∷ 122 ∷ 139 ∷ 140 ∷ 157 ∷ 158 ∷ []))
    ≡ cut_off NotForm ∷ cut_off (Overrun 16) ∷ cut_off (Overrun 16) ∷ cut_off (Overrun 32) ∷ cut_off (Overrun 32) ∷ cut_off (Overrun 110)
    ∷ cut_off (Overrun 110) ∷ cut_off (Overrun 122) ∷ cut_off (Overrun 122) ∷ cut_off (Overrun 140) ∷ cut_off (Overrun 140) ∷ ended ∷ []
unfolding streams_open
cut_off_at_each_part = refl

-- ---- the head of the form
pub heads_of_forms :
    endings (
    but 0 0 example ∷ (codes "FRM8" ++ big_bytes 8 3 ++ codes "DSD ") ∷ (codes "FRM8" ++ big_bytes 8 4 ++ codes "DSD ")
    ∷ (codes "FRM8" ++ big_bytes 8 1125899906842624 ++ codes "DSD ") ∷ (codes "FRM8" ++ big_bytes 8 1125899906842625 ++ codes "DSD ")
    ∷ but 15 0 example ∷ [])
    ≡ stopped NotForm ∷ stopped NotForm ∷ stopped Version ∷ cut_off (Overrun 16) ∷ stopped FormTooLarge ∷ stopped FormType ∷ []
unfolding streams_open
heads_of_forms = refl

-- ---- chunks of the form
-- a form that ends before its sound; an odd chunk may lack its pad byte there
pub ends_without_sound :
    endings (
    file_of (version ∷ []) ∷ file_of (version ∷ prop 1 2822400 "DST " ∷ []) ∷ file_of (version ∷ prop 1 2822400 "DST " ∷ piece "ID3 " (5 ∷ []) ∷ [])
    ∷ file_of (version ∷ piece "ID3 " (5 ∷ []) ∷ piece "ID3 " [] ∷ []) ∷ [])
    ≡ stopped PropMissing ∷ stopped SoundMissing ∷ stopped SoundMissing ∷ stopped (Overrun 46) ∷ []
unfolding streams_open
ends_without_sound = refl

-- twelve bytes before the end of the form, and a body that passes it
pub chunks_pass_the_form :
    endings (
    file_of (version ∷ replicate 11 0 ∷ []) ∷ file_of (version ∷ replicate 12 0 ∷ [])
    ∷ (codes "FRM8" ++ big_bytes 8 32 ++ codes "DSD " ++ version ++ codes "ID3 " ++ big_bytes 8 1)
    ∷ (codes "FRM8" ++ big_bytes 8 33 ++ codes "DSD " ++ version ++ codes "ID3 " ++ big_bytes 8 1) ∷ [])
    ≡ stopped (Overrun 32) ∷ stopped PropMissing ∷ stopped (Overrun 32) ∷ cut_off (Overrun 32) ∷ []
unfolding streams_open
chunks_pass_the_form = refl

-- `FVER`: its id and its size are asked with its head, its first byte with its body
pub versions :
    endings (
    but 16 0 (take 28 example) ∷ but 27 3 (take 28 example) ∷ but 27 5 (take 28 example) ∷ take 28 example
    ∷ but 28 2 (take 31 example) ∷ but 28 2 (take 32 example) ∷ but 29 2 (take 32 example) ∷ [])
    ≡ stopped Version ∷ stopped Version ∷ stopped Version ∷ cut_off (Overrun 16)
    ∷ cut_off (Overrun 16) ∷ stopped Version ∷ cut_off (Overrun 32) ∷ []
unfolding streams_open
versions = refl

-- `PROP`: twice, its size, and its body, which begins behind its head
pub props :
    endings (
    sent (prop 1 2822400 "DST " ∷ []) ∷ (file_of (version ∷ prop_of [] ∷ []))
    ∷ (codes "FRM8" ++ big_bytes 8 99999 ++ codes "DSD " ++ version ++ codes "PROP" ++ big_bytes 8 65536)
    ∷ (codes "FRM8" ++ big_bytes 8 99999 ++ codes "DSD " ++ version ++ codes "PROP" ++ big_bytes 8 65537)
    ∷ (codes "FRM8" ++ big_bytes 8 99999 ++ codes "DSD " ++ version ++ codes "PROP" ++ big_bytes 8 4)
    ∷ (codes "FRM8" ++ big_bytes 8 99999 ++ codes "DSD " ++ version ++ codes "PROP" ++ big_bytes 8 3) ∷ but 44 0 (take 110 example)
    ∷ but 59 9 (take 110 example) ∷ but 47 0 (take 109 example) ∷ but 63 1 (take 110 example) ∷ [])
    ≡ stopped PropTwice ∷ stopped Rate ∷ cut_off (Overrun 32) ∷ stopped PropTooLong ∷ cut_off (Overrun 32) ∷ stopped PropType ∷ stopped PropType
    ∷ stopped (Overrun 70) ∷ cut_off (Overrun 32) ∷ stopped Rate ∷ []
unfolding streams_open
props = refl

-- sound chunks in front of `PROP`, plain sound, and another type in `PROP`
pub sound_chunks :
    endings (
    file_of (version ∷ dsd 0 ∷ []) ∷ file_of (version ∷ dst 0 [] ∷ []) ∷ take 126 empty ∷ take 125 empty
    ∷ file_of (version ∷ prop 1 2822400 "DSD " ∷ dst 0 [] ∷ []) ∷ sent (dst 0 [] ∷ []) ∷ [])
    ≡ stopped PropMissing ∷ stopped PropMissing ∷ stopped NotCoded ∷ cut_off (Overrun 114) ∷ stopped Compression ∷ ended ∷ []
unfolding streams_open
sound_chunks = refl

-- ---- `FRTE`
pub frame_rates :
    endings (
    but 121 17 (take 122 example) ∷ but 121 18 (take 122 example) ∷ but 139 74 example ∷ but 133 7 example
    ∷ sent (dst 1000001 [] ∷ []) ∷ sent (dst 1000000 [] ∷ []) ∷ [])
    ≡ stopped FrameRate ∷ cut_off (Overrun 122) ∷ stopped FrameRate ∷ stopped FrameRate ∷ stopped TooManyFrames ∷ stopped (CountDiffers 1000000 0) ∷ []
unfolding streams_open
frame_rates = refl

-- ---- frames
-- a frame comes with its last byte; the pad byte of an odd one belongs to its chunk, but at the end
abbrev two_frames : List ℕ
two_frames = sent (dst 2 (frame 3 ∷ (0 ∷ []) ∷ frame 1 ∷ []) ∷ [])

pub frames_come_with_their_last_byte :
    lengths (map (λ n. take n two_frames) (142 ∷ 143 ∷ 144 ∷ 156 ∷ 157 ∷ [])) ≡ [] ∷ (3 ∷ []) ∷ (3 ∷ []) ∷ (3 ∷ []) ∷ (3 ∷ 1 ∷ []) ∷ []
unfolding streams_open
frames_come_with_their_last_byte = refl

pub pad_bytes_are_due :
    endings (map (λ n. take n two_frames) (142 ∷ 143 ∷ 144 ∷ 156 ∷ 157 ∷ []))
    ≡ cut_off (Overrun 128) ∷ cut_off (Overrun 128) ∷ cut_off (Overrun 144) ∷ cut_off (Overrun 144) ∷ ended ∷ []
unfolding streams_open
pad_bytes_are_due = refl

-- nothing is asked of the bytes behind `DST `
pub stream_ends_with_its_sound :
    endings ((sent (dst 1 (frame 2 ∷ []) ∷ []) ++ 1 ∷ 2 ∷ []) ∷ sent (dst 1 (frame 2 ∷ []) ∷ replicate 5 0 ∷ []) ∷ [])
    ≡ ended ∷ ended ∷ []
unfolding streams_open
stream_ends_with_its_sound = refl

-- fewer frames than `FRTE` says are refused at the end of `DST `, one more at its head
pub other_numbers_of_frames :
    endings (
    sent (dst 3 (frame 2 ∷ frame 2 ∷ []) ∷ []) ∷ take 154 (sent (dst 1 (frame 2 ∷ frame 2 ∷ []) ∷ [])) ∷ take 153 (sent (dst 1 (frame 2 ∷ frame 2 ∷ []) ∷ []))
    ∷ sent (dst 1 (piece "DSTC" (4 ∷ 4 ∷ []) ∷ frame 2 ∷ piece "DSTC" (4 ∷ []) ∷ []) ∷ []) ∷ [])
    ≡ stopped (CountDiffers 3 2) ∷ stopped (CountDiffers 1 2) ∷ cut_off (Overrun 142) ∷ ended ∷ []
unfolding streams_open
other_numbers_of_frames = refl

-- twelve bytes before the end of `DST `, and a body that passes it, come before the other rules
pub chunks_pass_the_sound :
    endings (
    sent (dst 0 (replicate 11 0 ∷ []) ∷ []) ∷ sent (dst 0 (replicate 12 0 ∷ []) ∷ []) ∷ sent (dst 0 ((codes "DSTF" ++ big_bytes 8 1) ∷ []) ∷ [])
    ∷ sent (dst 0 ((codes "DSTC" ++ big_bytes 8 18446744073709551615) ∷ []) ∷ []) ∷ [])
    ≡ stopped (Overrun 128) ∷ ended ∷ stopped (Overrun 128) ∷ stopped (Overrun 128) ∷ []
unfolding streams_open
chunks_pass_the_sound = refl

-- the longest frame of one channel at the lowest rate, one byte more, and the millionth frame
pub rules_on_a_frame :
    map (λ (p : ℕ × ℕ). frame_head_fault (shape_of 1 1) 1000000 99999 p.0 (record { id = codes "DSTF"; place = 140; size = p.1 }))
    ((0, 9410) ∷ (0, 9411) ∷ (999999, 9410) ∷ (1000000, 9410) ∷ (1000000, 9411) ∷ [])
    ≡ None ∷ Some (FrameTooLong 0 9411) ∷ None ∷ Some TooManyFrames ∷ Some (FrameTooLong 1000000 9411) ∷ []
rules_on_a_frame = refl

-- ---- how many chunks may come: of two in the form, and in `DST `, one may come, or two
pub chunks_of_a_form_may_come :
    map (λ most. (in_form (replicate 24 0) 24 most (record { version = Some []; prop = None }) 0).ending) (1 ∷ 2 ∷ [])
    ≡ stopped TooManyChunks ∷ stopped PropMissing ∷ []
unfolding streams_open
chunks_of_a_form_may_come = refl

pub chunks_of_a_sound_may_come :
    map (λ most. (frames_from (replicate 24 0) (shape_of 1 1) 0 24 most 0 0).ending) (1 ∷ 2 ∷ []) ≡ stopped TooManyChunks ∷ ended ∷ []
unfolding streams_open
chunks_of_a_sound_may_come = refl

-- ---- what is written of the file of one frame: `FVER`, `PROP` with another `CMPR`, and zeros for the frame while it is missing
pub zeros_stand_for_a_missing_frame :
    piped (record { version = 1 ∷ 5 ∷ 0 ∷ 0 ∷ []; prop = take 66 (drop 44 example); frames = 1 }) []
    ≡ codes "FRM8" ++ big_bytes 8 4818 ++ codes "DSD " ++ drop 16 (take 122 empty) ++ big_bytes 4 4704 ++ replicate 4704 0
unfolding written_open
zeros_stand_for_a_missing_frame = refl

pub head_of_its_sound_ends_at_126 :
    length (piped_before (record { version = 1 ∷ 5 ∷ 0 ∷ 0 ∷ []; prop = take 66 (drop 44 example); frames = 1 }) (replicate 9999 0) 0) ≡ 126
unfolding written_open
head_of_its_sound_ends_at_126 = refl

-- the sound of a frame that means one is written
pub sounds_are_written : (front : Front) (frame sound : List ℕ) → Means (shape_in front.prop) frame sound →
    PipeOut (record { front = Some front; frames = frame ∷ []; ending = ended }) front (piped front (sound ∷ []))
sounds_are_written front frame sound m = record { has_front = refl; sounds = sound ∷ []; each = (inl m, tt); written = refl }
