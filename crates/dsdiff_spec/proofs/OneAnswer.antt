-- A command and a file have one outcome.
use Rattle.std.proofs.Common.{◌≡◌, ◌⊎◌, ℕ, Bool, true, false, List, refl, Option, Some, None}
use Rattle.std.specs.Prelude.{⊤}
use Rattle.std.specs.List.{AllByRecursion}
use Rattle.dst_spec.specs.Bits.{AreBytes}
use Rattle.dst_spec.proofs.Lists.{AreBytes-take, AreBytes-drop}
use Rattle.dsdiff_spec.specs.Form.{Form, Kind, plain, coded, shape}
use Rattle.dsdiff_spec.specs.Rules.{form_fault, accepted}
use Rattle.dsdiff_spec.specs.Walk.{Entry, frame_at}
use Rattle.dsdiff_spec.specs.Words.{Command, encode, decode, cut, frame, check, show, show_frame, index, make, make_run, encode_dsf, decode_dsf}
use Rattle.dsdiff_spec.specs.Words.{range}
use Rattle.dsdiff_spec.specs.Refusal.{form_refusal, refusal}
use Rattle.dsdiff_spec.specs.Outcome.{file_refused, frames_if_coded, nth_frame, indexed_frame, IsStopped, IsDone, OfCommand}
use Rattle.dsdiff_spec.specs.declared.faults.FileFault.{FileFault}
use Rattle.dsdiff_spec.proofs.CodedFiles.{frames_are_bytes, form_by, refused_by}
use Rattle.dsdiff_spec.proofs.Lawful.{form_has_a_shape}
use Rattle.dsdiff_spec.proofs.Stopping.{One, one_of_run, nothing_before}
use Rattle.dsdiff_spec.proofs.Settling.{frame_is_settled, checked_are_settled, shown_is_settled, one_sound as sound_of_frame, one_list, one_check, one_line}
use Rattle.dsdiff_spec.specs.Decoded.{frames_of}
use Rattle.dsdiff_spec.specs.Dsf.{dsf_fault}
use Rattle.dsdiff_spec.specs.Ranges.{wants}
use Rattle.dsdiff_spec.proofs.OneSound.{one_sound}
use Rattle.dsdiff_spec.proofs.DsfOutcome.{dsf_frames_are_settled, dsf_before, dsf_whole}
use Rattle.dsdiff_spec.proofs.RangeOutcome.{parts_are_settled, part_before, all_parts}
use Rattle.dsdiff_spec.proofs.OneOutcome.{decoding_has_one_outcome, all_answered}

-- ---- the commands that have an outcome: all
abbrev pub HasOutcome : Command → Type 0
HasOutcome c = ⊤

-- ---- each of them has one outcome
form_is_accepted : (c : Command) (file : List ℕ) → form_refusal c file ≡ None → form_fault file ≡ None
form_is_accepted c file h = go (form_fault file) refl h
  where
    go : (o : Option FileFault) → form_fault file ≡ o → refused_by (form_by o file) c file ≡ None → form_fault file ≡ None
    go (Some fault) e k = absurd cc
    go None e k = e

answered : (c : Command) (file : List ℕ) (r : Option FileFault) →
    (r ≡ None → One (λ o. IsStopped c file (accepted file) o ⊎ IsDone c file (accepted file) o)) → One (OfCommand c file r)
answered c file (Some fault) h = (file_refused fault, refl, λ other o. o)
answered c file None h = h refl

bytes_of_entry : (file : List ℕ) (e : Entry) → AreBytes file → AreBytes (frame_at file e)
bytes_of_entry file e h = AreBytes-take e.size _ (AreBytes-drop e.offset file h)

writing_has_one_outcome : (k : ℕ) (b : Bool) (file : List ℕ) → AreBytes file → One (OfCommand (frame k b) file (refusal (frame k b) file))
unfolding refusal
writing_has_one_outcome k false file bytes = answered (frame k false) file (form_refusal (frame k false) file) (λ none.
    one_of_run (frame k false) file (accepted file) (frame_is_settled k false _ _, tt) (λ s. nothing_before refl (λ out e. e))
    (λ never. sound_of_frame (accepted file) k (nth_frame file (accepted file) k) (form_has_a_shape file (form_is_accepted (frame k false) file none))
    (bytes_of_entry file _ bytes) never.0))
writing_has_one_outcome k true file bytes = answered (frame k true) file (form_refusal (frame k true) file) (λ none.
    one_of_run (frame k true) file (accepted file) (frame_is_settled k true _ _, tt) (λ s. nothing_before refl (λ out e. e))
    (λ never. sound_of_frame (accepted file) k (indexed_frame file (accepted file) k) (form_has_a_shape file (form_is_accepted (frame k true) file none))
    (bytes_of_entry file _ bytes) never.0))

checked_frames_are_bytes : (k : Kind) (file : List ℕ) (form : Form) → AreBytes file → AllByRecursion AreBytes (frames_if_coded k file form)
checked_frames_are_bytes plain file form h = tt
checked_frames_are_bytes coded file form h = frames_are_bytes file form h

checking_has_one_outcome : (file : List ℕ) → AreBytes file → One (OfCommand check file (refusal check file))
unfolding refusal
checking_has_one_outcome file bytes = answered check file (form_refusal check file) (λ none.
    let form = accepted file in
    let frames = frames_if_coded form.kind file form in
    one_of_run check file form (checked_are_settled form 0 frames) (λ s. nothing_before refl (λ out e. e))
    (λ never. one_check form frames (one_list (shape form) 0 frames (form_has_a_shape file (form_is_accepted check file none))
    (checked_frames_are_bytes form.kind file form bytes) never)))

showing_has_one_outcome : (file : List ℕ) → AreBytes file → One (OfCommand show file (refusal show file))
unfolding refusal
showing_has_one_outcome file bytes = answered show file (form_refusal show file)
    (λ none. one_of_run show file (accepted file) tt (λ s. nothing_before refl (λ out e. e)) (λ never. (_, refl, λ other e. e)))

showing_a_frame_has_one_outcome : (k : ℕ) (file : List ℕ) → AreBytes file → One (OfCommand (show_frame k) file (refusal (show_frame k) file))
unfolding refusal
showing_a_frame_has_one_outcome k file bytes = answered (show_frame k) file (form_refusal (show_frame k) file) (λ none.
    one_of_run (show_frame k) file (accepted file) (shown_is_settled k _ _, tt) (λ s. nothing_before refl (λ out e. e))
    (λ never. one_line (accepted file) k (nth_frame file (accepted file) k) (form_has_a_shape file (form_is_accepted (show_frame k) file none))
    (bytes_of_entry file _ bytes) never.0))

listing_has_one_outcome : (file : List ℕ) → AreBytes file → One (OfCommand index file (refusal index file))
unfolding refusal
listing_has_one_outcome file bytes = answered index file (form_refusal index file)
    (λ none. one_of_run index file (accepted file) tt (λ s. nothing_before refl (λ out e. e)) (λ never. (_, refl, λ other e. e)))

-- commands of whose run no frame is refused, and whose answer is named
coding_has_one_outcome : (level : ℕ) (file : List ℕ) → One (OfCommand (encode level) file (refusal (encode level) file))
unfolding refusal
coding_has_one_outcome level file = answered (encode level) file (form_refusal (encode level) file) (λ none.
    one_of_run (encode level) file (accepted file) tt (λ s. nothing_before refl (λ out e. e)) (λ never. (_, refl, λ other e. e)))

cutting_has_one_outcome : (first last : ℕ) (file : List ℕ) → One (OfCommand (cut first last) file (refusal (cut first last) file))
unfolding refusal
cutting_has_one_outcome first last file = answered (cut first last) file (form_refusal (cut first last) file) (λ none.
    one_of_run (cut first last) file (accepted file) tt (λ s. nothing_before refl (λ out e. e)) (λ never. (_, refl, λ other e. e)))

making_has_one_outcome : (start frames channels multiple : ℕ) (file : List ℕ) →
    One (OfCommand (make start frames channels multiple) file (refusal (make start frames channels multiple) file))
unfolding refusal
making_has_one_outcome start frames channels multiple file =
    one_of_run (make start frames channels multiple) file (accepted file) tt (λ s. nothing_before refl (λ out e. e)) (λ never. (_, refl, λ other e. e))

running_has_one_outcome : (start frames channels multiple : ℕ) (file : List ℕ) →
    One (OfCommand (make_run start frames channels multiple) file (refusal (make_run start frames channels multiple) file))
unfolding refusal
running_has_one_outcome start frames channels multiple file =
    one_of_run (make_run start frames channels multiple) file (accepted file) tt (λ s. nothing_before refl (λ out e. e)) (λ never. (_, refl, λ other e. e))

coding_dsf_has_one_outcome : (level : ℕ) (file : List ℕ) → One (OfCommand (encode_dsf level) file (refusal (encode_dsf level) file))
unfolding refusal
coding_dsf_has_one_outcome level file = answered (encode_dsf level) file (dsf_fault file) (λ none.
    one_of_run (encode_dsf level) file (accepted file) tt (λ s. nothing_before refl (λ out e. e)) (λ never. (_, refl, λ other e. e)))

-- commands that write something in front of a refused frame
decoding_dsf_has_one_outcome : (file : List ℕ) → AreBytes file → One (OfCommand decode_dsf file (refusal decode_dsf file))
unfolding refusal
decoding_dsf_has_one_outcome file bytes = answered decode_dsf file (form_refusal decode_dsf file) (λ none.
    let form = accepted file in
    let frames = frames_of file form in
    let answered = all_answered (shape form) frames (form_has_a_shape file (form_is_accepted decode_dsf file none)) (frames_are_bytes file form bytes) in
    one_of_run decode_dsf file form (dsf_frames_are_settled form 0 frames) (dsf_before file form answered) (dsf_whole file form answered))

reading_parts_has_one_outcome : (pairs : List (ℕ × ℕ)) (file : List ℕ) → AreBytes file → One (OfCommand (range pairs) file (refusal (range pairs) file))
unfolding refusal
reading_parts_has_one_outcome pairs file bytes = answered (range pairs) file (form_refusal (range pairs) file) (λ none.
    let form = accepted file in
    let sound = one_sound file form bytes (form_has_a_shape file (form_is_accepted (range pairs) file none)) in
    one_of_run (range pairs) file form (parts_are_settled pairs file form (wants form pairs)) (part_before pairs file form sound)
    (λ never. all_parts pairs file form sound))

pub command_has_one_outcome : (c : Command) (file : List ℕ) → HasOutcome c → AreBytes file → One (OfCommand c file (refusal c file))
command_has_one_outcome decode file h bytes = decoding_has_one_outcome file bytes
command_has_one_outcome (frame k b) file h bytes = writing_has_one_outcome k b file bytes
command_has_one_outcome check file h bytes = checking_has_one_outcome file bytes
command_has_one_outcome show file h bytes = showing_has_one_outcome file bytes
command_has_one_outcome (show_frame k) file h bytes = showing_a_frame_has_one_outcome k file bytes
command_has_one_outcome index file h bytes = listing_has_one_outcome file bytes
command_has_one_outcome (encode level) file h bytes = coding_has_one_outcome level file
command_has_one_outcome (cut first last) file h bytes = cutting_has_one_outcome first last file
command_has_one_outcome (make start frames channels multiple) file h bytes = making_has_one_outcome start frames channels multiple file
command_has_one_outcome (make_run start frames channels multiple) file h bytes = running_has_one_outcome start frames channels multiple file
command_has_one_outcome (encode_dsf level) file h bytes = coding_dsf_has_one_outcome level file
command_has_one_outcome decode_dsf file h bytes = decoding_dsf_has_one_outcome file bytes
command_has_one_outcome (range pairs) file h bytes = reading_parts_has_one_outcome pairs file bytes
