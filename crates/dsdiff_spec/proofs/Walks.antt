-- Walks: frames that are found, and the first fault of those that fail.
use Rattle.std.proofs.Common.{◌≡◌, ℕ, ◌++◌, List, [], ◌∷◌, map, take, drop, replicate, refl, true, false, Some, None, Ok, Err, Result}
use Rattle.std.specs.Prelude.{codes}
use Rattle.byteorder.specs.Endian.{big_bytes}
use Rattle.dsdiff_spec.specs.Form.{Form, longest_frame}
use Rattle.dsdiff_spec.specs.Rules.{accepted}
use Rattle.dsdiff_spec.specs.Walk.{Entry, walk, frame_fault, names_frame, compare_fault, check_index_fault, by_index_fault}
use Rattle.dsdiff_spec.specs.declared.faults.FileFault.{FileFault}
use Rattle.dsdiff_spec.specs.declared.faults.FileFault.TheVariants.{Overrun, FrameTooLong, TooManyFrames, CountDiffers, IndexMissing, IndexBad}
use Rattle.dsdiff_spec.proofs.Built.{piece, file_of, version, prop, dst}
use Rattle.dsdiff_spec.proofs.Files.{example, two_coded}
use Rattle.dsdiff_spec.proofs.Forms.{forms_open, but, head, example_form}

-- the walk of a form of one channel, in which so many frames are counted; the first chunk behind `FRTE` is at 128
abbrev walk_of : ℕ → List (List ℕ) → Result (List Entry) FileFault
walk_of count pieces =
    let file = file_of (version ∷ prop 1 2822400 "DST " ∷ dst count pieces ∷ []) in
    walk file (accepted file)

abbrev frame : ℕ → List ℕ
frame n = piece "DSTF" (replicate n 0)

abbrev at : ℕ → ℕ → Entry
at offset size = record { offset = offset; size = size }

-- frames of even size, of odd size with a pad byte and at the end without one, and other chunks between them
pub frames_are_found :
    walk_of 0 [] ∷ walk_of 2 (frame 2 ∷ frame 0 ∷ []) ∷ walk_of 2 (frame 1 ∷ (0 ∷ []) ∷ frame 3 ∷ [])
    ∷ walk_of 1 (piece "DSTC" (1 ∷ 2 ∷ []) ∷ piece "ID3 " (0 ∷ 0 ∷ []) ∷ frame 2 ∷ piece "DSTC" (7 ∷ []) ∷ []) ∷ []
    ≡ Ok [] ∷ Ok (at 140 2 ∷ at 154 0 ∷ []) ∷ Ok (at 140 1 ∷ at 154 3 ∷ []) ∷ Ok (at 168 2 ∷ []) ∷ []
unfolding forms_open
frames_are_found = refl

pub other_numbers_of_frames :
    walk_of 0 (frame 2 ∷ []) ∷ walk_of 2 (frame 2 ∷ []) ∷ walk_of 1 [] ∷ walk_of 1 (piece "DSTC" (1 ∷ 2 ∷ []) ∷ []) ∷ []
    ≡ Err (CountDiffers 0 1) ∷ Err (CountDiffers 2 1) ∷ Err (CountDiffers 1 0) ∷ Err (CountDiffers 1 0) ∷ []
unfolding forms_open
other_numbers_of_frames = refl

-- fewer than twelve bytes are left, a body passes the end, a pad byte stands there as a chunk
pub chunks_that_are_not_whole :
    walk_of 1 (frame 2 ∷ replicate 11 0 ∷ []) ∷ walk_of 0 ((codes "DSTC" ++ big_bytes 8 1) ∷ [])
    ∷ walk_of 0 ((codes "DSTF" ++ big_bytes 8 18446744073709551615) ∷ []) ∷ walk_of 1 (frame 1 ∷ frame 0 ∷ []) ∷ []
    ≡ Err (Overrun 142) ∷ Err (Overrun 128) ∷ Err (Overrun 128) ∷ Err (Overrun 142) ∷ []
unfolding forms_open
chunks_that_are_not_whole = refl

-- a frame that is too long comes before a later chunk that isn't whole, and before another number of frames
pub first_fault_is_answered :
    walk_of 9 (frame 0 ∷ frame 9411 ∷ (0 ∷ []) ∷ replicate 11 0 ∷ []) ∷ walk_of 9 (frame 9410 ∷ replicate 11 0 ∷ []) ∷ []
    ≡ Err (FrameTooLong 1 9411) ∷ Err (Overrun 9550) ∷ []
unfolding forms_open
first_fault_is_answered = refl

-- twice a frame's sound and its first byte, at the least and at the greatest shape
abbrev of_shape : ℕ → ℕ → Form
of_shape count n = accepted (file_of (version ∷ prop count n "DST " ∷ dst 0 [] ∷ []))

pub longest_frames : map longest_frame (of_shape 1 2822400 ∷ of_shape 2 2822400 ∷ of_shape 6 11289600 ∷ []) ≡ 9410 ∷ 18818 ∷ 225794 ∷ []
unfolding forms_open
longest_frames = refl

pub a_million_frames_may_be_found :
    map (frame_fault example_form) ((999999, head (codes "DSTF") 140 9410) ∷ (1000000, head (codes "DSTF") 140 9410) ∷
    (1000000, head (codes "DSTF") 140 9411) ∷ [])
    ≡ None ∷ Some TooManyFrames ∷ Some (FrameTooLong 1000000 9411) ∷ []
a_million_frames_may_be_found = refl

-- ---- indexes
-- an index of other size, in a form of two frames
pub index_of_other_size :
    compare_fault two_coded (accepted two_coded) ∷ compare_fault (but 9587 23 two_coded) (accepted (but 9587 23 two_coded)) ∷ []
    ≡ None ∷ Some (IndexBad 2) ∷ []
unfolding forms_open
index_of_other_size = refl

pub form_without_index : check_index_fault example example_form ∷ by_index_fault example example_form 0 ∷ [] ≡ None ∷ Some IndexMissing ∷ []
unfolding forms_open
form_without_index = refl

-- The sound chunk's body begins at 122 and ends at 158: behind `FRTE` of 18 bytes and a head of 12 the first frame stands at 152. With
-- a byte less in front of the head it would stand at 151.
pub no_frame_stands_before_the_first_place :
    names_frame example example_form (at 152 6) ∷ names_frame (take 139 example ++ drop 140 example) example_form (at 151 6) ∷ [] ≡ true ∷ false ∷ []
no_frame_stands_before_the_first_place = refl

-- the frame ends where the chunk does, and may not end behind it
pub no_frame_ends_behind_the_sound_chunk :
    names_frame (but 151 5 example) example_form (at 152 5) ∷ names_frame (but 151 7 (example ++ 0 ∷ [])) example_form (at 152 7) ∷ [] ≡ true ∷ false ∷ []
no_frame_ends_behind_the_sound_chunk = refl
