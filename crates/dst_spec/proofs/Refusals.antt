-- Frames that are refused: at which field, and why.
use Rattle.std.proofs.Common.{[], ◌∷◌, replicate, refl}
use Rattle.dst_spec.specs.Offends.{Offends}
use Rattle.dst_spec.specs.declared.faults.Reason.TheVariants.{Truncated, PlainStuffing, MultiSegment, MapSkips, MethodReserved, TableTooShort}
use Rattle.dst_spec.specs.declared.faults.Reason.TheVariants.{CoefRange, ProbRange, FirstCodeBit, CodeRange}
pub use Rattle.dst_spec.proofs.Examples.{channels_of, at}
unfoldable pub use Rattle.dst_spec.proofs.Examples.{fields_open}

-- ---- a frame cut short, byte by byte: FC 00 00 05 FF F8 without its last bytes
pub empty_frame_is_truncated : Offends (channels_of 1) [] (at Truncated 0)
unfolding fields_open
empty_frame_is_truncated = refl

pub cut_in_the_length_of_the_filter : Offends (channels_of 1) (252 ∷ []) (at Truncated 7)
unfolding fields_open
cut_in_the_length_of_the_filter = refl

pub cut_in_its_coefficient : Offends (channels_of 1) (252 ∷ 0 ∷ []) (at Truncated 15)
unfolding fields_open
cut_in_its_coefficient = refl

pub cut_before_the_probabilities : Offends (channels_of 1) (252 ∷ 0 ∷ 0 ∷ []) (at Truncated 24)
unfolding fields_open
cut_before_the_probabilities = refl

pub cut_in_the_first_probability : Offends (channels_of 1) (252 ∷ 0 ∷ 0 ∷ 5 ∷ []) (at Truncated 31)
unfolding fields_open
cut_in_the_first_probability = refl

pub cut_in_the_second_probability : Offends (channels_of 1) (252 ∷ 0 ∷ 0 ∷ 5 ∷ 255 ∷ []) (at Truncated 38)
unfolding fields_open
cut_in_the_second_probability = refl

-- ---- segments and maps
pub several_segments_are_refused : Offends (channels_of 1) (224 ∷ []) (at MultiSegment 3)
unfolding fields_open
several_segments_are_refused = refl

-- two channels, given for each: 1 0 0 1 0, the second channel's end bit
pub several_segments_of_the_second_channel : Offends (channels_of 2) (144 ∷ []) (at MultiSegment 4)
unfolding fields_open
several_segments_of_the_second_channel = refl

pub number_three_behind_two_skips : Offends (channels_of 3) (251 ∷ 128 ∷ []) (at MapSkips 7)
unfolding fields_open
number_three_behind_two_skips = refl

pub map_of_three_is_no_fault : Offends (channels_of 3) (251 ∷ 0 ∷ []) (at Truncated 12)
unfolding fields_open
map_of_three_is_no_fault = refl

-- ---- tables
pub method_3_is_reserved : Offends (channels_of 1) (252 ∷ 7 ∷ 128 ∷ []) (at MethodReserved 15)
unfolding fields_open
method_3_is_reserved = refl

pub two_values_are_too_few_for_method_2 : Offends (channels_of 1) (252 ∷ 7 ∷ 0 ∷ []) (at TableTooShort 15)
unfolding fields_open
two_values_are_too_few_for_method_2 = refl

pub one_value_is_too_few_for_method_1 : Offends (channels_of 1) (252 ∷ 2 ∷ 128 ∷ []) (at TableTooShort 15)
unfolding fields_open
one_value_is_too_few_for_method_1 = refl

-- method 3 of a table of one value is reserved before it is too short
pub method_3_of_one_value : Offends (channels_of 1) (252 ∷ 3 ∷ 128 ∷ []) (at MethodReserved 15)
unfolding fields_open
method_3_of_one_value = refl

pub method_is_truncated : Offends (channels_of 1) (252 ∷ 2 ∷ []) (at Truncated 15)
unfolding fields_open
method_is_truncated = refl

pub coefficient_256_is_refused : Offends (channels_of 1) (252 ∷ 6 ∷ 63 ∷ 194 ∷ []) (at CoefRange 29)
unfolding fields_open
coefficient_256_is_refused = refl

-- -256, and one less by method 0: its residual is -257 and 256, -1
pub coefficient_minus_257_is_refused : Offends (channels_of 1) (252 ∷ 6 ∷ 64 ∷ 3 ∷ []) (at CoefRange 29)
unfolding fields_open
coefficient_minus_257_is_refused = refl

pub probability_0_is_refused : Offends (channels_of 1) (252 ∷ 0 ∷ 0 ∷ 6 ∷ 0 ∷ 12 ∷ []) (at ProbRange 43)
unfolding fields_open
probability_0_is_refused = refl

pub probability_129_is_refused : Offends (channels_of 1) (252 ∷ 0 ∷ 0 ∷ 6 ∷ 127 ∷ 8 ∷ []) (at ProbRange 43)
unfolding fields_open
probability_129_is_refused = refl

-- ---- the arithmetic code
pub first_code_bit_1_is_refused : Offends (channels_of 1) (252 ∷ 0 ∷ 0 ∷ 5 ∷ 255 ∷ 252 ∷ []) (at FirstCodeBit 45)
unfolding fields_open
first_code_bit_1_is_refused = refl

pub twelve_ones_are_refused : Offends (channels_of 1) (252 ∷ 0 ∷ 0 ∷ 5 ∷ 255 ∷ 251 ∷ 255 ∷ 192 ∷ []) (at CodeRange 46)
unfolding fields_open
twelve_ones_are_refused = refl

-- ---- plain frames of the real size
pub stuffing_of_a_plain_frame : Offends (channels_of 1) (1 ∷ replicate 4704 105) (at PlainStuffing 2)
unfolding fields_open
stuffing_of_a_plain_frame = refl

pub first_stuffing_bit : Offends (channels_of 1) (32 ∷ replicate 4704 105) (at PlainStuffing 2)
unfolding fields_open
first_stuffing_bit = refl

pub stuffing_comes_before_the_end : Offends (channels_of 1) (1 ∷ []) (at PlainStuffing 2)
unfolding fields_open
stuffing_comes_before_the_end = refl

pub short_plain_frame_is_truncated : Offends (channels_of 1) (0 ∷ replicate 4703 105) (at Truncated 8)
unfolding fields_open
short_plain_frame_is_truncated = refl
