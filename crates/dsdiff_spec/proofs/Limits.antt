-- Rules of plain and of coded forms, and limits: files that each refuses, and files that it just accepts.
use Rattle.std.proofs.Common.{◌≡◌, ℕ, ◌+◌, ◌^◌, ◌++◌, List, [], ◌∷◌, map, refl, Some, None}
use Rattle.std.specs.Prelude.{codes}
use Rattle.dsdiff_spec.specs.Rules.{prop_chunk_fault, room_fault, plain_fault}
use Rattle.dsdiff_spec.specs.declared.faults.FileFault.TheVariants.{SoundUneven, TooManyFrames, CodedChunk, TooManyChunks, PropTooLong, FormTooLarge, FrameRate}
use Rattle.dsdiff_spec.proofs.Built.{piece, file_of, version, prop, dsd, dst, mono_coded}
use Rattle.dsdiff_spec.proofs.Forms.{forms_open, but}
use Rattle.dsdiff_spec.proofs.Opening.{faults, faults_of}

-- ---- plain forms
pub sound_is_of_whole_groups :
    faults_of (
    (version ∷ prop 2 2822400 "DSD " ∷ dsd 1 ∷ (0 ∷ []) ∷ []) ∷ (version ∷ prop 2 2822400 "DSD " ∷ dsd 2 ∷ [])
    ∷ (version ∷ prop 5 2822400 "DSD " ∷ dsd 12 ∷ []) ∷ (version ∷ prop 5 2822400 "DSD " ∷ dsd 10 ∷ []) ∷ [])
    ≡ Some SoundUneven ∷ None ∷ Some SoundUneven ∷ None ∷ []
unfolding forms_open
sound_is_of_whole_groups = refl

-- a plain form whose sound has so many bytes by its head, though they don't stand in it
abbrev telling : List ℕ → List ℕ → List ℕ
telling form_size sound_size =
    codes "FRM8" ++ form_size ++ codes "DSD " ++ version ++ prop 1 2822400 "DSD " ++ codes "DSD " ++ sound_size

-- a million frames of 4,704 bytes, and one byte more
pub a_million_frames :
    map plain_fault (
    telling (0 ∷ 0 ∷ 0 ∷ 1 ∷ 24 ∷ 97 ∷ 88 ∷ 98 ∷ []) (0 ∷ 0 ∷ 0 ∷ 1 ∷ 24 ∷ 97 ∷ 88 ∷ 0 ∷ [])
    ∷ telling (0 ∷ 0 ∷ 0 ∷ 1 ∷ 24 ∷ 97 ∷ 88 ∷ 100 ∷ []) (0 ∷ 0 ∷ 0 ∷ 1 ∷ 24 ∷ 97 ∷ 88 ∷ 1 ∷ []) ∷ [])
    ≡ None ∷ Some TooManyFrames ∷ []
unfolding forms_open
a_million_frames = refl

pub plain_form_has_no_chunk_of_a_coded_one :
    faults_of (
    (version ∷ piece "KEPT" [] ∷ prop 1 2822400 "DSD " ∷ dsd 0 ∷ []) ∷ (version ∷ prop 1 2822400 "DSD " ∷ dsd 0 ∷ piece "DSTI" [] ∷ piece "KEPT" [] ∷ [])
    ∷ (version ∷ prop 1 2822400 "DSD " ∷ dsd 0 ∷ piece "DSTC" [] ∷ []) ∷ [])
    ≡ Some (CodedChunk 32) ∷ Some (CodedChunk 110) ∷ None ∷ []
unfolding forms_open
plain_form_has_no_chunk_of_a_coded_one = refl

-- ---- room for what encoding adds
pub room_for_encoding :
    room_fault 1022 65520 (2 ^ 49) ∷ room_fault 1023 65520 (2 ^ 49) ∷ room_fault 1022 65521 (2 ^ 49) ∷ room_fault 1022 65520 (2 ^ 49 + 1) ∷ []
    ≡ None ∷ Some TooManyChunks ∷ Some PropTooLong ∷ Some FormTooLarge ∷ []
room_for_encoding = refl

-- ---- the size of `PROP`, with the sizes of the form and of a chunk in it
abbrev of_sizes : List ℕ → List ℕ → List ℕ → List ℕ
of_sizes form_size prop_size size =
    codes "FRM8" ++ (0 ∷ 0 ∷ 0 ∷ 0 ∷ []) ++ form_size ++ codes "DSD " ++ version
    ++ codes "PROP" ++ (0 ∷ 0 ∷ 0 ∷ 0 ∷ []) ++ prop_size ++ codes "SND " ++ codes "ID3 " ++ (0 ∷ 0 ∷ 0 ∷ 0 ∷ []) ++ size

pub longest_prop :
    map prop_chunk_fault (
    of_sizes (0 ∷ 1 ∷ 0 ∷ 32 ∷ []) (0 ∷ 1 ∷ 0 ∷ 0 ∷ []) (0 ∷ 0 ∷ 255 ∷ 240 ∷ [])
    ∷ of_sizes (0 ∷ 1 ∷ 0 ∷ 34 ∷ []) (0 ∷ 1 ∷ 0 ∷ 1 ∷ []) (0 ∷ 0 ∷ 255 ∷ 240 ∷ []) ∷ [])
    ≡ None ∷ Some PropTooLong ∷ []
unfolding forms_open
longest_prop = refl

-- ---- `FRTE`
abbrev of_frte : List ℕ → List ℕ
of_frte body = file_of (version ∷ prop 1 2822400 "DST " ∷ piece "DST " body ∷ [])

pub rates_of_frames :
    faults (
    of_frte (piece "FRTE" (0 ∷ 0 ∷ 0 ∷ 0 ∷ 0 ∷ 75 ∷ [])) ∷ of_frte (piece "FRTE" (0 ∷ 0 ∷ 0 ∷ 0 ∷ 0 ∷ 74 ∷ []))
    ∷ of_frte (piece "FRTE" (0 ∷ 0 ∷ 0 ∷ 0 ∷ 1 ∷ 75 ∷ [])) ∷ of_frte (piece "FRTe" (0 ∷ 0 ∷ 0 ∷ 0 ∷ 0 ∷ 75 ∷ []))
    ∷ of_frte (piece "FRTE" (0 ∷ 0 ∷ 0 ∷ 0 ∷ 0 ∷ 75 ∷ 0 ∷ [])) ∷ of_frte [] ∷ [])
    ≡ None ∷ Some FrameRate ∷ Some FrameRate ∷ Some FrameRate ∷ Some FrameRate ∷ Some FrameRate ∷ []
unfolding forms_open
rates_of_frames = refl

-- the body of `DST ` has one byte too few by its head, which stands in the file as its pad byte
pub frte_is_in_dst : faults (but 109 17 (mono_coded []) ∷ []) ≡ Some FrameRate ∷ []
unfolding forms_open
frte_is_in_dst = refl

pub a_million_frames_in_frte :
    faults_of ((version ∷ prop 1 2822400 "DST " ∷ dst 1000000 [] ∷ []) ∷ (version ∷ prop 1 2822400 "DST " ∷ dst 1000001 [] ∷ []) ∷ [])
    ≡ None ∷ Some TooManyFrames ∷ []
unfolding forms_open
a_million_frames_in_frte = refl
