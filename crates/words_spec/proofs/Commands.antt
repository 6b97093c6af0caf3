-- Words of command lines: those that are a row, and those that aren't.
use Rattle.std.proofs.Common.{◌≡◌, ℕ, List, [], ◌∷◌, map, refl, true, false, Some, None}
use Rattle.std.specs.Prelude.{codes}
use Rattle.std.specs.List.{range_with_len}
use Prim.Native.String.{String}
use Rattle.dsdiff_spec.specs.Words.{Word, Command, Task, encode, decode, cut, frame, check, show, show_frame, index, make, make_run, encode_dsf}
use Rattle.dsdiff_spec.specs.Words.{decode_dsf, range}
use Rattle.words_spec.specs.Rows.{task_of}

abbrev pub words : List String → List Word
words texts = map codes texts

-- a command, and how many work at it
infix 40 ◌by◌
abbrev ◌by◌ : Command → ℕ → Task
c by n = record { command = c; workers = n }

-- ---- lawful words
pub level_one_does_else : task_of (words ("encode" ∷ "a" ∷ "b.dff" ∷ [])) ≡ Some ((encode 1) by 1)
unfolding task_of
level_one_does_else = refl

pub least_level : task_of (words ("encode" ∷ "a" ∷ "b" ∷ "--level" ∷ "0" ∷ [])) ≡ Some ((encode 0) by 1)
unfolding task_of
least_level = refl

pub greatest_level : task_of (words ("encode" ∷ "a" ∷ "b" ∷ "--level" ∷ "3" ∷ [])) ≡ Some ((encode 3) by 1)
unfolding task_of
greatest_level = refl

pub level_and_workers : task_of (words ("encode" ∷ "a" ∷ "b" ∷ "--level" ∷ "2" ∷ "--workers" ∷ "4" ∷ [])) ≡ Some ((encode 2) by 4)
unfolding task_of
level_and_workers = refl

pub workers_and_level : task_of (words ("encode" ∷ "a" ∷ "b" ∷ "--workers" ∷ "16" ∷ "--level" ∷ "2" ∷ [])) ≡ Some ((encode 2) by 16)
unfolding task_of
workers_and_level = refl

pub two_files_are_decoded : task_of (words ("decode" ∷ "a" ∷ "b.dff" ∷ [])) ≡ Some (decode by 1)
unfolding task_of
two_files_are_decoded = refl

pub dash_may_stand_behind_the_first_byte : task_of (words ("decode" ∷ "a-" ∷ "a--" ∷ [])) ≡ Some (decode by 1)
unfolding task_of
dash_may_stand_behind_the_first_byte = refl

pub output_may_have_any_name : task_of (words ("decode" ∷ "decode" ∷ "." ∷ [])) ≡ Some (decode by 1)
unfolding task_of
output_may_have_any_name = refl

pub sixteen_workers : task_of (words ("decode" ∷ "a" ∷ "b" ∷ "--workers" ∷ "16" ∷ [])) ≡ Some (decode by 16)
unfolding task_of
sixteen_workers = refl

pub frame_row : task_of (words ("frame" ∷ "a" ∷ "b" ∷ "0" ∷ [])) ≡ Some ((frame 0 false) by 1)
unfolding task_of
frame_row = refl

pub frame_by_index : task_of (words ("frame" ∷ "a" ∷ "b" ∷ "4294967295" ∷ "--by-index" ∷ [])) ≡ Some ((frame 4294967295 true) by 1)
unfolding task_of
frame_by_index = refl

pub check_row : task_of (words ("check" ∷ "a" ∷ [])) ≡ Some (check by 1)
unfolding task_of
check_row = refl

pub check_by_one_worker : task_of (words ("check" ∷ "a" ∷ "--workers" ∷ "1" ∷ [])) ≡ Some (check by 1)
unfolding task_of
check_by_one_worker = refl

pub show_row : task_of (words ("show" ∷ "a" ∷ [])) ≡ Some (show by 1)
unfolding task_of
show_row = refl

pub show_frame_row : task_of (words ("show" ∷ "a" ∷ "12" ∷ [])) ≡ Some ((show_frame 12) by 1)
unfolding task_of
show_frame_row = refl

pub index_row : task_of (words ("index" ∷ "a" ∷ [])) ≡ Some (index by 1)
unfolding task_of
index_row = refl

pub file_may_be_a_number : task_of (words ("frame" ∷ "1" ∷ "2" ∷ "3" ∷ [])) ≡ Some ((frame 3 false) by 1)
unfolding task_of
file_may_be_a_number = refl

pub first_frame_is_cut : task_of (words ("cut" ∷ "a" ∷ "b" ∷ "0" ∷ "0" ∷ [])) ≡ Some ((cut 0 0) by 1)
unfolding task_of
first_frame_is_cut = refl

pub first_and_last_may_be_one_frame : task_of (words ("cut" ∷ "a" ∷ "b.dff" ∷ "12" ∷ "12" ∷ [])) ≡ Some ((cut 12 12) by 1)
unfolding task_of
first_and_last_may_be_one_frame = refl

pub greatest_number_is_a_last_frame : task_of (words ("cut" ∷ "a" ∷ "b" ∷ "3" ∷ "4294967295" ∷ [])) ≡ Some ((cut 3 4294967295) by 1)
unfolding task_of
greatest_number_is_a_last_frame = refl

pub lowest_rate_does_else : task_of (words ("make" ∷ "7" ∷ "a.dff" ∷ "3" ∷ "6" ∷ [])) ≡ Some ((make 7 3 6 1) by 1)
unfolding task_of
lowest_rate_does_else = refl

pub most_made_frames : task_of (words ("make" ∷ "4294967295" ∷ "a" ∷ "1000" ∷ "1" ∷ [])) ≡ Some ((make 4294967295 1000 1 1) by 1)
unfolding task_of
most_made_frames = refl

pub no_made_frames : task_of (words ("make" ∷ "0" ∷ "a" ∷ "0" ∷ "1" ∷ "--rate" ∷ "64" ∷ [])) ≡ Some ((make 0 0 1 1) by 1)
unfolding task_of
no_made_frames = refl

pub made_at_twice_the_lowest_rate : task_of (words ("make" ∷ "7" ∷ "a" ∷ "1" ∷ "2" ∷ "--rate" ∷ "128" ∷ [])) ≡ Some ((make 7 1 2 2) by 1)
unfolding task_of
made_at_twice_the_lowest_rate = refl

pub made_at_four_times_the_lowest_rate : task_of (words ("make" ∷ "7" ∷ "a" ∷ "1" ∷ "2" ∷ "--rate" ∷ "256" ∷ [])) ≡ Some ((make 7 1 2 4) by 1)
unfolding task_of
made_at_four_times_the_lowest_rate = refl

pub made_file_may_have_any_name : task_of (words ("make" ∷ "7" ∷ "run" ∷ "1" ∷ "2" ∷ [])) ≡ Some ((make 7 1 2 1) by 1)
unfolding task_of
made_file_may_have_any_name = refl

pub most_frames_that_are_made_and_run : task_of (words ("make" ∷ "7" ∷ "--run" ∷ "100" ∷ "6" ∷ [])) ≡ Some ((make_run 7 100 6 1) by 1)
unfolding task_of
most_frames_that_are_made_and_run = refl

pub no_frames_are_made_and_run : task_of (words ("make" ∷ "7" ∷ "--run" ∷ "0" ∷ "1" ∷ "--rate" ∷ "256" ∷ [])) ≡ Some ((make_run 7 0 1 4) by 1)
unfolding task_of
no_frames_are_made_and_run = refl

pub level_one_does_else_of_dsf : task_of (words ("encode-dsf" ∷ "a.dsf" ∷ "b.dff" ∷ [])) ≡ Some ((encode_dsf 1) by 1)
unfolding task_of
level_one_does_else_of_dsf = refl

pub level_and_workers_of_dsf : task_of (words ("encode-dsf" ∷ "a" ∷ "b" ∷ "--workers" ∷ "16" ∷ "--level" ∷ "3" ∷ [])) ≡ Some ((encode_dsf 3) by 16)
unfolding task_of
level_and_workers_of_dsf = refl

pub decoded_to_dsf : task_of (words ("decode-dsf" ∷ "a.dff" ∷ "b.dsf" ∷ [])) ≡ Some (decode_dsf by 1)
unfolding task_of
decoded_to_dsf = refl

pub decoded_to_dsf_by_workers : task_of (words ("decode-dsf" ∷ "a" ∷ "b" ∷ "--workers" ∷ "16" ∷ [])) ≡ Some (decode_dsf by 16)
unfolding task_of
decoded_to_dsf_by_workers = refl

-- ---- words that no row has
pub no_words : task_of [] ≡ None
unfolding task_of
no_words = refl

pub name_alone : task_of (words ("decode" ∷ [])) ≡ None
unfolding task_of
name_alone = refl

pub no_output : task_of (words ("decode" ∷ "a" ∷ [])) ≡ None
unfolding task_of
no_output = refl

pub one_word_too_many : task_of (words ("decode" ∷ "a" ∷ "b" ∷ "c" ∷ [])) ≡ None
unfolding task_of
one_word_too_many = refl

pub input_word_with_a_dash : task_of (words ("decode" ∷ "-a" ∷ "b" ∷ [])) ≡ None
unfolding task_of
input_word_with_a_dash = refl

pub output_word_with_a_dash : task_of (words ("decode" ∷ "a" ∷ "-b" ∷ [])) ≡ None
unfolding task_of
output_word_with_a_dash = refl

pub dash_is_no_file : task_of (words ("decode" ∷ "-" ∷ "b" ∷ [])) ≡ None
unfolding task_of
dash_is_no_file = refl

pub empty_input_word : task_of (codes "decode" ∷ [] ∷ codes "b" ∷ []) ≡ None
unfolding task_of
empty_input_word = refl

pub empty_output_word : task_of (codes "decode" ∷ codes "a" ∷ [] ∷ []) ≡ None
unfolding task_of
empty_output_word = refl

pub no_worker : task_of (words ("decode" ∷ "a" ∷ "b" ∷ "--workers" ∷ "0" ∷ [])) ≡ None
unfolding task_of
no_worker = refl

pub seventeen_workers : task_of (words ("check" ∷ "a" ∷ "--workers" ∷ "17" ∷ [])) ≡ None
unfolding task_of
seventeen_workers = refl

pub option_given_twice : task_of (words ("decode" ∷ "a" ∷ "b" ∷ "--workers" ∷ "2" ∷ "--workers" ∷ "2" ∷ [])) ≡ None
unfolding task_of
option_given_twice = refl

pub flag_given_twice : task_of (words ("frame" ∷ "a" ∷ "b" ∷ "0" ∷ "--by-index" ∷ "--by-index" ∷ [])) ≡ None
unfolding task_of
flag_given_twice = refl

pub option_without_its_value : task_of (words ("check" ∷ "a" ∷ "--workers" ∷ [])) ≡ None
unfolding task_of
option_without_its_value = refl

pub option_before_the_files : task_of (words ("decode" ∷ "--workers" ∷ "1" ∷ "a" ∷ "b" ∷ [])) ≡ None
unfolding task_of
option_before_the_files = refl

pub option_of_another_row : task_of (words ("decode" ∷ "a" ∷ "b" ∷ "--by-index" ∷ [])) ≡ None
unfolding task_of
option_of_another_row = refl

pub option_of_no_row : task_of (words ("decode" ∷ "a" ∷ "b" ∷ "--level" ∷ "1" ∷ [])) ≡ None
unfolding task_of
option_of_no_row = refl

pub leading_zero : task_of (words ("frame" ∷ "a" ∷ "b" ∷ "01" ∷ [])) ≡ None
unfolding task_of
leading_zero = refl

pub leading_zero_of_a_value : task_of (words ("decode" ∷ "a" ∷ "b" ∷ "--workers" ∷ "04" ∷ [])) ≡ None
unfolding task_of
leading_zero_of_a_value = refl

pub number_past_32_bits : task_of (words ("frame" ∷ "a" ∷ "b" ∷ "4294967296" ∷ [])) ≡ None
unfolding task_of
number_past_32_bits = refl

pub number_with_a_sign : task_of (words ("frame" ∷ "a" ∷ "b" ∷ "+1" ∷ [])) ≡ None
unfolding task_of
number_with_a_sign = refl

-- `/` and `:` stand beside the digits
pub byte_before_the_digits : task_of (words ("frame" ∷ "a" ∷ "b" ∷ "1/" ∷ [])) ≡ None
unfolding task_of
byte_before_the_digits = refl

pub byte_behind_the_digits : task_of (words ("frame" ∷ "a" ∷ "b" ∷ "1:" ∷ [])) ≡ None
unfolding task_of
byte_behind_the_digits = refl

pub first_byte_behind_the_digits : task_of (words ("frame" ∷ "a" ∷ "b" ∷ ":" ∷ [])) ≡ None
unfolding task_of
first_byte_behind_the_digits = refl

pub empty_number : task_of (codes "show" ∷ codes "a" ∷ [] ∷ []) ≡ None
unfolding task_of
empty_number = refl

pub two_files_are_needed_to_encode : task_of (words ("encode" ∷ "a" ∷ [])) ≡ None
unfolding task_of
two_files_are_needed_to_encode = refl

pub level_past_the_greatest : task_of (words ("encode" ∷ "a" ∷ "b" ∷ "--level" ∷ "4" ∷ [])) ≡ None
unfolding task_of
level_past_the_greatest = refl

pub level_without_its_value : task_of (words ("encode" ∷ "a" ∷ "b" ∷ "--level" ∷ [])) ≡ None
unfolding task_of
level_without_its_value = refl

pub level_twice : task_of (words ("encode" ∷ "a" ∷ "b" ∷ "--level" ∷ "1" ∷ "--level" ∷ "1" ∷ [])) ≡ None
unfolding task_of
level_twice = refl

pub options_stand_behind_files : task_of (words ("encode" ∷ "--level" ∷ "1" ∷ "a" ∷ "b" ∷ [])) ≡ None
unfolding task_of
options_stand_behind_files = refl

pub no_level_of_decoding : task_of (words ("decode" ∷ "a" ∷ "b" ∷ "--level" ∷ "1" ∷ [])) ≡ None
unfolding task_of
no_level_of_decoding = refl

pub first_behind_the_last : task_of (words ("cut" ∷ "a" ∷ "b" ∷ "3" ∷ "2" ∷ [])) ≡ None
unfolding task_of
first_behind_the_last = refl

pub no_last_frame : task_of (words ("cut" ∷ "a" ∷ "b" ∷ "3" ∷ [])) ≡ None
unfolding task_of
no_last_frame = refl

pub one_frame_too_many : task_of (words ("cut" ∷ "a" ∷ "b" ∷ "1" ∷ "2" ∷ "3" ∷ [])) ≡ None
unfolding task_of
one_frame_too_many = refl

pub frame_to_cut_past_32_bits : task_of (words ("cut" ∷ "a" ∷ "b" ∷ "0" ∷ "4294967296" ∷ [])) ≡ None
unfolding task_of
frame_to_cut_past_32_bits = refl

pub options_of_cutting : task_of (words ("cut" ∷ "a" ∷ "b" ∷ "0" ∷ "1" ∷ "--workers" ∷ "2" ∷ [])) ≡ None
unfolding task_of
options_of_cutting = refl

pub start_is_a_number : task_of (words ("make" ∷ "a" ∷ "b" ∷ "1" ∷ "1" ∷ [])) ≡ None
unfolding task_of
start_is_a_number = refl

pub start_past_32_bits : task_of (words ("make" ∷ "4294967296" ∷ "a" ∷ "1" ∷ "1" ∷ [])) ≡ None
unfolding task_of
start_past_32_bits = refl

pub too_many_made_frames : task_of (words ("make" ∷ "7" ∷ "a" ∷ "1001" ∷ "6" ∷ [])) ≡ None
unfolding task_of
too_many_made_frames = refl

pub too_many_frames_to_run : task_of (words ("make" ∷ "7" ∷ "--run" ∷ "101" ∷ "6" ∷ [])) ≡ None
unfolding task_of
too_many_frames_to_run = refl

pub no_made_channel : task_of (words ("make" ∷ "7" ∷ "a" ∷ "1" ∷ "0" ∷ [])) ≡ None
unfolding task_of
no_made_channel = refl

pub seven_made_channels : task_of (words ("make" ∷ "7" ∷ "a" ∷ "1" ∷ "7" ∷ [])) ≡ None
unfolding task_of
seven_made_channels = refl

pub no_channel_to_run : task_of (words ("make" ∷ "7" ∷ "--run" ∷ "1" ∷ "0" ∷ [])) ≡ None
unfolding task_of
no_channel_to_run = refl

pub seven_channels_to_run : task_of (words ("make" ∷ "7" ∷ "--run" ∷ "1" ∷ "7" ∷ [])) ≡ None
unfolding task_of
seven_channels_to_run = refl

pub no_made_channels_named : task_of (words ("make" ∷ "7" ∷ "a" ∷ "1" ∷ [])) ≡ None
unfolding task_of
no_made_channels_named = refl

pub rate_below_the_lowest : task_of (words ("make" ∷ "7" ∷ "a" ∷ "1" ∷ "1" ∷ "--rate" ∷ "32" ∷ [])) ≡ None
unfolding task_of
rate_below_the_lowest = refl

pub rate_between_two : task_of (words ("make" ∷ "7" ∷ "a" ∷ "1" ∷ "1" ∷ "--rate" ∷ "192" ∷ [])) ≡ None
unfolding task_of
rate_between_two = refl

pub rate_above_the_greatest : task_of (words ("make" ∷ "7" ∷ "a" ∷ "1" ∷ "1" ∷ "--rate" ∷ "512" ∷ [])) ≡ None
unfolding task_of
rate_above_the_greatest = refl

pub rate_of_a_run_between_two : task_of (words ("make" ∷ "7" ∷ "--run" ∷ "1" ∷ "1" ∷ "--rate" ∷ "65" ∷ [])) ≡ None
unfolding task_of
rate_of_a_run_between_two = refl

pub rate_without_its_value : task_of (words ("make" ∷ "7" ∷ "a" ∷ "1" ∷ "1" ∷ "--rate" ∷ [])) ≡ None
unfolding task_of
rate_without_its_value = refl

pub rate_given_twice : task_of (words ("make" ∷ "7" ∷ "a" ∷ "1" ∷ "1" ∷ "--rate" ∷ "64" ∷ "--rate" ∷ "64" ∷ [])) ≡ None
unfolding task_of
rate_given_twice = refl

pub rate_stands_behind_the_numbers : task_of (words ("make" ∷ "7" ∷ "--rate" ∷ "64" ∷ "1" ∷ "1" ∷ [])) ≡ None
unfolding task_of
rate_stands_behind_the_numbers = refl

pub workers_of_a_run : task_of (words ("make" ∷ "7" ∷ "--run" ∷ "1" ∷ "1" ∷ "--workers" ∷ "4" ∷ [])) ≡ None
unfolding task_of
workers_of_a_run = refl

pub run_stands_in_the_place_of_the_file : task_of (words ("make" ∷ "7" ∷ "a" ∷ "1" ∷ "1" ∷ "--run" ∷ [])) ≡ None
unfolding task_of
run_stands_in_the_place_of_the_file = refl

pub longer_word_than_run : task_of (words ("make" ∷ "7" ∷ "--runs" ∷ "1" ∷ "1" ∷ [])) ≡ None
unfolding task_of
longer_word_than_run = refl

pub name_begins_a_longer_word : task_of (words ("decoder" ∷ "a" ∷ "b" ∷ [])) ≡ None
unfolding task_of
name_begins_a_longer_word = refl

pub name_is_spelled_small : task_of (words ("Decode" ∷ "a" ∷ "b" ∷ [])) ≡ None
unfolding task_of
name_is_spelled_small = refl

pub pipe_is_no_row : task_of (words ("pipe" ∷ "b" ∷ [])) ≡ None
unfolding task_of
pipe_is_no_row = refl

pub help_is_no_row : task_of (words ("--help" ∷ [])) ≡ None
unfolding task_of
help_is_no_row = refl

pub level_of_dsf_past_the_greatest : task_of (words ("encode-dsf" ∷ "a" ∷ "b" ∷ "--level" ∷ "4" ∷ [])) ≡ None
unfolding task_of
level_of_dsf_past_the_greatest = refl

pub no_level_of_decoding_to_dsf : task_of (words ("decode-dsf" ∷ "a" ∷ "b" ∷ "--level" ∷ "1" ∷ [])) ≡ None
unfolding task_of
no_level_of_decoding_to_dsf = refl

pub two_files_are_needed_of_dsf : task_of (words ("decode-dsf" ∷ "a" ∷ [])) ≡ None
unfolding task_of
two_files_are_needed_of_dsf = refl

-- ---- parts of the sound
pub one_part : task_of (words ("range" ∷ "a" ∷ "b" ∷ "0" ∷ "4294967295" ∷ [])) ≡ Some ((range ((0, 4294967295) ∷ [])) by 1)
unfolding task_of
one_part = refl

pub two_parts : task_of (words ("range" ∷ "a" ∷ "b" ∷ "588" ∷ "1" ∷ "0" ∷ "2" ∷ [])) ≡ Some ((range ((588, 1) ∷ (0, 2) ∷ [])) by 1)
unfolding task_of
two_parts = refl

abbrev fifteen : List String
fifteen =
    "0" ∷ "1" ∷ "1" ∷ "1" ∷ "2" ∷ "1" ∷ "3" ∷ "1" ∷ "4" ∷ "1" ∷ "5" ∷ "1" ∷ "6" ∷ "1" ∷ "7" ∷ "1"
    ∷ "8" ∷ "1" ∷ "9" ∷ "1" ∷ "10" ∷ "1" ∷ "11" ∷ "1" ∷ "12" ∷ "1" ∷ "13" ∷ "1" ∷ "14" ∷ "1"
    ∷ []

pub sixteen_parts :
    task_of (words ("range" ∷ "a" ∷ "b" ∷ "7" ∷ "0" ∷ fifteen)) ≡ Some ((range ((7, 0) ∷ map (λ k. (k, 1)) (range_with_len 0 15))) by 1)
unfolding task_of
sixteen_parts = refl

pub seventeen_parts : task_of (words ("range" ∷ "a" ∷ "b" ∷ "7" ∷ "0" ∷ "7" ∷ "0" ∷ fifteen)) ≡ None
unfolding task_of
seventeen_parts = refl

pub no_part : task_of (words ("range" ∷ "a" ∷ "b" ∷ [])) ≡ None
unfolding task_of
no_part = refl

pub part_without_its_count : task_of (words ("range" ∷ "a" ∷ "b" ∷ "0" ∷ [])) ≡ None
unfolding task_of
part_without_its_count = refl

pub last_part_without_its_count : task_of (words ("range" ∷ "a" ∷ "b" ∷ "7" ∷ fifteen)) ≡ None
unfolding task_of
last_part_without_its_count = refl

pub count_past_the_greatest : task_of (words ("range" ∷ "a" ∷ "b" ∷ "0" ∷ "4294967296" ∷ [])) ≡ None
unfolding task_of
count_past_the_greatest = refl

pub beginning_past_the_greatest : task_of (words ("range" ∷ "a" ∷ "b" ∷ "0" ∷ "1" ∷ "4294967296" ∷ "1" ∷ [])) ≡ None
unfolding task_of
beginning_past_the_greatest = refl

pub two_files_are_needed_of_parts : task_of (words ("range" ∷ "a" ∷ "-b" ∷ "0" ∷ "1" ∷ [])) ≡ None
unfolding task_of
two_files_are_needed_of_parts = refl

pub no_workers_of_parts : task_of (words ("range" ∷ "a" ∷ "b" ∷ "0" ∷ "1" ∷ "--workers" ∷ "2" ∷ [])) ≡ None
unfolding task_of
no_workers_of_parts = refl
