-- Files that a command refuses, and files that it accepts.
use Rattle.std.proofs.Common.{◌≡◌, List, [], ◌∷◌, ℕ, refl, Some, None, true, false}
use Rattle.std.specs.Prelude.{⊤}
use Rattle.dsdiff_spec.specs.Chunks.{chunks_from}
use Rattle.dsdiff_spec.specs.Cut.{cut_chunks}
use Rattle.dsdiff_spec.specs.Refusal.{refusal, form_refusal, command_fault}
use Rattle.dsdiff_spec.specs.Walk.{entries, walk_fault}
use Rattle.dsdiff_spec.specs.Rules.{accepted, form_fault}
use Rattle.dsdiff_spec.specs.Words.{Command, encode, decode, cut, frame, check, show_frame, make, range}
use Rattle.dsdiff_spec.specs.declared.faults.FileFault.TheVariants.{NotPlain, NotCoded, Range, CountDiffers, IndexMissing, IndexBad, RangePast, NotForm}
use Rattle.dsdiff_spec.proofs.Files.{example, empty, empty_coded, two_coded}
use Rattle.dsdiff_spec.proofs.OddFiles.{with_checksum, without_pad}
use Rattle.dsdiff_spec.proofs.Forms.{forms_open, but}

unfoldable refusing_open : ⊤
unfolding forms_open cut_chunks refusal
refusing_open = tt

-- ---- a file that keeps the rules of the form is refused by those of the command alone
by_command : (c : Command) (file : List ℕ) → form_fault file ≡ None → form_refusal c file ≡ command_fault c file (accepted file)
by_command c file e = rw (e, form_refusal) refl

two_are_a_form : form_fault two_coded ≡ None
unfolding forms_open
two_are_a_form = refl

-- what rules of commands compute with
unfoldable command_open : ⊤
unfolding chunks_from walk_fault cut_chunks refusal
command_open = tt

-- ---- commands and files

pub coded_file_is_not_encoded : refusal (encode 1) empty_coded ≡ Some NotPlain
unfolding refusing_open
coded_file_is_not_encoded = refl

pub plain_file_is_encoded : refusal (encode 1) empty ≡ None
unfolding refusing_open
plain_file_is_encoded = refl

pub plain_file_is_not_decoded : refusal decode empty ≡ Some NotCoded
unfolding refusing_open
plain_file_is_not_decoded = refl

pub coded_file_is_decoded : refusal decode two_coded ≡ None
unfolding command_open
coded_file_is_decoded = by_command decode two_coded two_are_a_form

pub no_form_is_decoded : refusal decode [] ≡ Some NotForm
unfolding refusing_open
no_form_is_decoded = refl

pub making_reads_no_file : refusal (make 0 0 1 1) [] ≡ None
unfolding refusing_open
making_reads_no_file = refl

pub frame_is_not_there : refusal (frame 2 false) two_coded ≡ Some (Range 2 2)
unfolding command_open
frame_is_not_there = by_command (frame 2 false) two_coded two_are_a_form

pub last_frame_is_there : refusal (frame 1 false) two_coded ≡ None
unfolding command_open
last_frame_is_there = by_command (frame 1 false) two_coded two_are_a_form

pub last_frame_of_a_cut_is_not_there : refusal (cut 0 2) two_coded ≡ Some (Range 2 2)
unfolding command_open
last_frame_of_a_cut_is_not_there = by_command (cut 0 2) two_coded two_are_a_form

pub frame_to_show_is_not_there : refusal (show_frame 2) two_coded ≡ Some (Range 2 2)
unfolding command_open
frame_to_show_is_not_there = by_command (show_frame 2) two_coded two_are_a_form

pub plain_file_has_no_frame_to_show : refusal (show_frame 0) empty ≡ Some NotCoded
unfolding refusing_open
plain_file_has_no_frame_to_show = refl

pub index_is_not_there : refusal (frame 0 true) example ≡ Some IndexMissing
unfolding refusing_open
index_is_not_there = refl

pub part_is_past_the_end : refusal (range ((0, 4705) ∷ (4705, 1) ∷ [])) two_coded ≡ Some (RangePast 4706 4705)
unfolding command_open
part_is_past_the_end = by_command (range ((0, 4705) ∷ (4705, 1) ∷ [])) two_coded two_are_a_form

-- ---- where the second frame's chunk has another id, the first frame is found by the index, and not by the walk
abbrev broken : List ℕ
broken = but 4861 88 two_coded

pub walk_finds_one_frame : refusal (frame 0 false) broken ≡ Some (CountDiffers 2 1)
unfolding refusing_open
walk_finds_one_frame = refl

pub index_needs_no_walk : refusal (frame 0 true) broken ≡ None
unfolding refusing_open
index_needs_no_walk = refl

pub index_names_no_frame : refusal (frame 1 true) broken ≡ Some (IndexBad 1)
unfolding refusing_open
index_names_no_frame = refl

-- ---- an index that isn't the walk is refused in checking alone
pub checking_compares_the_index : refusal check (but 9611 96 two_coded) ≡ Some (IndexBad 1)
unfolding refusing_open
checking_compares_the_index = refl

pub decoding_looks_at_no_index : refusal decode (but 9611 96 two_coded) ≡ None
unfolding refusing_open
decoding_looks_at_no_index = refl

-- ---- a checksum is no frame, and the last pad byte in `DST ` may be missing
pub checksum_is_no_frame : entries with_checksum (accepted with_checksum) ≡ record { offset = 152; size = 6 } ∷ []
unfolding refusing_open
checksum_is_no_frame = refl

pub last_pad_byte_may_be_missing : entries without_pad (accepted without_pad) ≡ record { offset = 152; size = 7 } ∷ []
unfolding refusing_open
last_pad_byte_may_be_missing = refl
