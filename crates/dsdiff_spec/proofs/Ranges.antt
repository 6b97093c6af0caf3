-- Parts of a sound, made sound, and DSF files.
use Rattle.std.proofs.Common.{◌≡◌, ℕ, arith, get_or, neg_ℤ, ◌++◌, List, [], ◌∷◌, map, replicate, refl, inl}
use Rattle.std.specs.Prelude.{⊤, pos, codes}
use Rattle.std.specs.Fmt.{digits}
use Rattle.rand_core.specs.Pcg32Seed.{pcg32_seed}
use Rattle.rand_core.specs.Steps.{u32_at, word_bytes}
use Rattle.dst_spec.specs.Bits.{number_from}
use Rattle.dst_spec.specs.Sample.{Shape, IsSound}
use Rattle.dst_spec.specs.Header.{Params}
use Rattle.dst_spec.proofs.Certain.{mono}
use Rattle.dst_spec.proofs.Frames.{plain_frame_means_its_bytes}
use Rattle.dst_spec.proofs.Lists.{AreBytes-same}
use Rattle.level_spec.specs.Picks.{per_channel, shared, level_picks}
use Rattle.dsdiff_spec.specs.Form.{size_of_sound}
use Rattle.dsdiff_spec.specs.Rules.{accepted}
use Rattle.dsdiff_spec.specs.Lines.{made_run_line}
use Rattle.dsdiff_spec.specs.Outcome.{run_line}
use Rattle.dsdiff_spec.specs.Samples.{sound_of}
use Rattle.dsdiff_spec.specs.Made.{Wave, at_time, bounded, dither, times_from, seeded, channel_id, prop_of, plain_form, height, made_sound, made}
use Rattle.dsdiff_spec.specs.Ranges.{Sound, wants, range_of, range_before, place_of}
use Rattle.dsdiff_spec.specs.Dsf.{dsf_fault, dsf_with, dsdiff, bare, ToDsf}
use Rattle.dsdiff_spec.specs.Coded as encoding
use Rattle.dsdiff_spec.proofs.Files.{empty, two_coded}
use Rattle.dsdiff_spec.proofs.OddFiles.{dsf, dsf_coded, dsf_back}
use Rattle.dsdiff_spec.proofs.Restoring.{written_open, no_picks, two_sounds, alternate, filled_up}

-- ---- parts of a sound of 4,705 bytes in two frames
abbrev two_sound : List ℕ
two_sound = replicate 4704 170 ++ 85 ∷ []

pub two_have_a_sound : Sound two_coded (accepted two_coded) two_sound
unfolding written_open
two_have_a_sound = record {
  sounds = two_sounds;
  each = (inl (plain_frame_means_its_bytes _ alternate), (inl (plain_frame_means_its_bytes _ filled_up), tt));
  is_sound = refl;
}

pub frames_are_wanted_pair_by_pair : wants (accepted two_coded) ((4703, 2) ∷ (0, 1) ∷ (5, 0) ∷ [])
    ≡ record { frame = 0; bytes = 1 } ∷ record { frame = 1; bytes = 1 } ∷ record { frame = 0; bytes = 1 } ∷ []
unfolding written_open
frames_are_wanted_pair_by_pair = refl

pub parts_are_written : range_of (accepted two_coded) ((4703, 2) ∷ (0, 1) ∷ []) two_sound ≡ 170 ∷ 85 ∷ 170 ∷ []
unfolding written_open
parts_are_written = refl

-- in front of the second frame's part one byte is written
pub part_of_the_second_frame : range_before (accepted two_coded) ((4703, 2) ∷ (0, 1) ∷ []) two_sound 1 ≡ 170 ∷ []
unfolding written_open
part_of_the_second_frame = refl

-- before the first want of a frame stand those before it, and before that of a frame that isn't wanted all
pub places_of_frames :
    map (λ k. place_of k (wants (accepted two_coded) ((4704, 1) ∷ (4703, 2) ∷ (0, 1) ∷ []))) (0 ∷ 1 ∷ 2 ∷ []) ∷ (place_of 0 [] ∷ []) ∷ []
    ≡ (1 ∷ 0 ∷ 4 ∷ []) ∷ (0 ∷ []) ∷ []
unfolding written_open
places_of_frames = refl

-- ---- made sound
pub ids_of_six_channels :
    map channel_id (0 ∷ 1 ∷ 2 ∷ 3 ∷ 4 ∷ 5 ∷ []) ≡ codes "C000" ∷ codes "C001" ∷ codes "C002" ∷ codes "C003" ∷ codes "C004" ∷ codes "C005" ∷ []
unfolding digits
ids_of_six_channels = refl

-- the chunk `PROP` of two channels at twice the lowest rate
pub prop_of_two_channels :
    prop_of 2 2 ≡ codes "PROP" ++ (0 ∷ 0 ∷ 0 ∷ 0 ∷ 0 ∷ 0 ∷ 0 ∷ 74 ∷ []) ++ codes "SND "
    ++ codes "FS  " ++ (0 ∷ 0 ∷ 0 ∷ 0 ∷ 0 ∷ 0 ∷ 0 ∷ 4 ∷ 0 ∷ 86 ∷ 34 ∷ 0 ∷ [])
    ++ codes "CHNL" ++ (0 ∷ 0 ∷ 0 ∷ 0 ∷ 0 ∷ 0 ∷ 0 ∷ 10 ∷ 0 ∷ 2 ∷ []) ++ codes "C000" ++ codes "C001"
    ++ codes "CMPR" ++ (0 ∷ 0 ∷ 0 ∷ 0 ∷ 0 ∷ 0 ∷ 0 ∷ 19 ∷ []) ++ codes "DSD " ++ (14 ∷ []) ++ codes "not compressed" ++ (0 ∷ [])
unfolding digits
prop_of_two_channels = refl

pub file_without_sound_is_made : made 0 0 1 1 ≡ empty
unfolding made_sound plain_form sound_of digits
file_without_sound_is_made = refl

pub height_of_the_wave : map (λ t. height t 0) (0 ∷ 1600 ∷ 3200 ∷ 4800 ∷ 6400 ∷ []) ≡ neg_ℤ (pos 16000) ∷ pos 0 ∷ pos 16000 ∷ pos 0 ∷ neg_ℤ (pos 16000) ∷ []
height_of_the_wave = refl

pub dither_of_random_words : map dither (0 ∷ 2048 ∷ 4095 ∷ 4096 ∷ []) ≡ neg_ℤ (pos 2048) ∷ pos 0 ∷ pos 2047 ∷ neg_ℤ (pos 2048) ∷ []
dither_of_random_words = refl

pub bounds_of_the_numbers : map bounded (pos 16777216 ∷ pos 16777217 ∷ neg_ℤ (pos 16777216) ∷ neg_ℤ (pos 16777217) ∷ [])
    ≡ pos 16777216 ∷ pos 16777216 ∷ neg_ℤ (pos 16777216) ∷ neg_ℤ (pos 16777216) ∷ []
bounds_of_the_numbers = refl

abbrev still : Wave
still = record { u = pos 0; w = pos 0 }

-- the first bytes of sound from the number 7, of one channel and of two
pub first_bytes_of_one_channel : sound_of (λ c t. get_or (get_or (times_from 128 0 (still ∷ []) (seeded 7)) t []) c 0) 1 16
    ≡ 132 ∷ 133 ∷ 5 ∷ 9 ∷ 9 ∷ 18 ∷ 17 ∷ 65 ∷ 66 ∷ 68 ∷ 72 ∷ 137 ∷ 9 ∷ 33 ∷ 66 ∷ 68 ∷ []
unfolding sound_of times_from at_time pcg32_seed u32_at word_bytes number_from
first_bytes_of_one_channel = refl

pub first_bytes_of_two_channels : sound_of (λ c t. get_or (get_or (times_from 64 0 (still ∷ still ∷ []) (seeded 7)) t []) c 0) 2 8
    ≡ 132 ∷ 140 ∷ 133 ∷ 82 ∷ 5 ∷ 148 ∷ 9 ∷ 98 ∷ 9 ∷ 148 ∷ 18 ∷ 163 ∷ 17 ∷ 36 ∷ 65 ∷ 168 ∷ []
unfolding sound_of times_from at_time pcg32_seed u32_at word_bytes number_from
first_bytes_of_two_channels = refl

-- a made file is coded with filters of four orders, for each channel and then for all together, and decoded
abbrev all_orders : List ℕ → Shape → List Params
all_orders sound f =
    per_channel f sound 16 ∷ per_channel f sound 32 ∷ per_channel f sound 64 ∷ per_channel f sound 128
    ∷ shared f sound 16 ∷ shared f sound 32 ∷ shared f sound 64 ∷ shared f sound 128 ∷ []

pub made_file_is_coded_with_all_orders : (frames : ℕ) (file : List ℕ) → run_line frames file ≡
    made_run_line frames (size_of_sound (accepted file)) (encoding.stored_bytes all_orders file (accepted file))
    (size_of_sound (accepted (encoding.coded all_orders file (accepted file))))
unfolding level_picks
made_file_is_coded_with_all_orders frames file = refl

-- ---- a DSF file of twelve samples
unfoldable dsf_open : ⊤
unfolding written_open digits dsf_fault plain_form sound_of dsf_with number_from
dsf_open = tt

pub dsf_is_coded : encoding.coded no_picks (dsdiff dsf) (accepted (dsdiff dsf)) ≡ dsf_coded
unfolding dsf_open
dsf_is_coded = refl

pub dsf_without_the_rest : bare dsf ≡ dsf_back
unfolding dsf_open
dsf_without_the_rest = refl

dsf_sound : IsSound (mono 4704) (172 ∷ 240 ∷ replicate 4702 105)
dsf_sound = record { long = refl; bytes = (omega arith, (omega arith, AreBytes-same 4702 105 (omega arith))) }

pub dsf_comes_back : ToDsf dsf_coded (accepted dsf_coded) dsf_back
unfolding dsf_open
dsf_comes_back = record { sounds = (172 ∷ 240 ∷ replicate 4702 105) ∷ []; each = (plain_frame_means_its_bytes _ dsf_sound, tt); written = refl }
