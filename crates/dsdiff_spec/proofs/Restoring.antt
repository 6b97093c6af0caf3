-- What encoding, decoding and cutting write of files.
use Rattle.std.proofs.Common.{◌≡◌, ℕ, arith, ◌++◌, List, [], ◌∷◌, take, drop, replicate, refl}
use Rattle.std.specs.Prelude.{codes, ⊤}
use Rattle.dst_spec.specs.Sample.{IsSound}
use Rattle.dst_spec.proofs.Certain.{mono}
use Rattle.dst_spec.proofs.Frames.{frame_with_code_of_zeros, plain_frame_means_its_bytes}
use Rattle.dst_spec.proofs.Lists.{AreBytes-same}
use Rattle.dsdiff_spec.specs.Rules.{accepted}
use Rattle.dsdiff_spec.specs.Coded as encoding
use Rattle.dsdiff_spec.specs.Coded.{Picks, pieces, stored_frames, coded_with}
use Rattle.dsdiff_spec.specs.Decoded.{Plain, decoded_with}
use Rattle.dsdiff_spec.specs.Cut.{cut, cut_chunks}
use Rattle.dsdiff_spec.proofs.Files.{example, empty, empty_coded, three_behind, three_behind_coded, two, two_coded, two_cut, two_cut_plain}
use Rattle.dsdiff_spec.proofs.OddFiles.{kept_one}
use Rattle.dsdiff_spec.proofs.Forms.{forms_open, but}

-- what definitions of written files compute with, named once
unfoldable pub written_open : ⊤
unfolding forms_open pieces stored_frames coded_with decoded_with cut_chunks
written_open = tt

-- an encoder that tries nothing, so that each frame is stored plain
abbrev pub no_picks : Picks
no_picks sound f = []

-- ---- without sound
pub empty_is_coded : encoding.coded no_picks empty (accepted empty) ≡ empty_coded
unfolding written_open
empty_is_coded = refl

pub empty_comes_back : Plain empty_coded (accepted empty_coded) empty
unfolding written_open
empty_comes_back = record { sounds = []; each = tt; written = refl }

pub bytes_behind_are_kept : encoding.coded no_picks three_behind (accepted three_behind) ≡ three_behind_coded
unfolding written_open
bytes_behind_are_kept = refl

pub bytes_behind_come_back : Plain three_behind_coded (accepted three_behind_coded) three_behind
unfolding written_open
bytes_behind_come_back = record { sounds = []; each = tt; written = refl }

-- ---- the file of one frame, which keeps no plain file
abbrev pub example_plain : List ℕ
example_plain =
    codes "FRM8" ++ (0 ∷ 0 ∷ 0 ∷ 0 ∷ 0 ∷ 0 ∷ 18 ∷ 210 ∷ []) ++ codes "DSD "
    ++ take 98 (drop 16 empty)
    ++ codes "DSD " ++ (0 ∷ 0 ∷ 0 ∷ 0 ∷ 0 ∷ 0 ∷ 18 ∷ 96 ∷ []) ++ replicate 4704 255

pub example_is_decoded : Plain example (accepted example) example_plain
unfolding written_open
example_is_decoded = record { sounds = replicate 4704 255 ∷ []; each = (frame_with_code_of_zeros 4704, tt); written = refl }

-- ---- two frames, the second of which is filled up
pub two_are_coded : encoding.coded no_picks two (accepted two) ≡ two_coded
unfolding written_open
two_are_coded = refl

abbrev pub two_sounds : List (List ℕ)
two_sounds = replicate 4704 170 ∷ (85 ∷ replicate 4703 105) ∷ []

pub alternate : IsSound (mono 4704) (replicate 4704 170)
alternate = record { long = refl; bytes = AreBytes-same 4704 170 (omega arith) }

pub filled_up : IsSound (mono 4704) (85 ∷ replicate 4703 105)
filled_up = record { long = refl; bytes = (omega arith, AreBytes-same 4703 105 (omega arith)) }

-- a plain frame of any shape means the bytes behind its first
pub two_come_back : Plain two_coded (accepted two_coded) two
unfolding written_open
two_come_back = record {
  sounds = two_sounds;
  each = (plain_frame_means_its_bytes _ alternate, (plain_frame_means_its_bytes _ filled_up, tt));
  written = refl;
}

pub second_is_cut_out : cut two_coded (accepted two_coded) 1 1 ≡ two_cut
unfolding written_open
second_is_cut_out = refl

pub cut_keeps_the_pad_byte : Plain two_cut (accepted two_cut) two_cut_plain
unfolding written_open
cut_keeps_the_pad_byte = record { sounds = (85 ∷ replicate 4703 105) ∷ []; each = (plain_frame_means_its_bytes _ filled_up, tt); written = refl }

-- ---- a `KEPT` of version 1
pub version_1_comes_back : Plain kept_one (accepted kept_one) empty
unfolding written_open
version_1_comes_back = record { sounds = []; each = tt; written = refl }

-- ---- a `CMPR` of another name is kept
pub other_name_is_kept : encoding.coded no_picks (but 99 78 three_behind) (accepted (but 99 78 three_behind)) ≡ but 195 78 three_behind_coded
unfolding written_open
other_name_is_kept = refl

pub other_name_comes_back : Plain (but 195 78 three_behind_coded) (accepted (but 195 78 three_behind_coded)) (but 99 78 three_behind)
unfolding written_open
other_name_comes_back = record { sounds = []; each = tt; written = refl }
