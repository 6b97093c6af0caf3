-- Samples, predictions, probabilities and symbols, worked out.
use Rattle.std.proofs.Common.{◌≡◌, ℕ, ◌+◌, ◌*◌, true, false, pos, negsuc, List, [], ◌∷◌, map, reverse, replicate, refl}
use Rattle.std.specs.List.{range_with_len}
use Rattle.dst_spec.specs.Bits.{number_from}
use Rattle.dst_spec.specs.Sample.{Shape, sample, samples, sound_bytes}
use Rattle.dst_spec.specs.Header.{Params}
use Rattle.dst_spec.specs.Guess.{sum_before, prediction, probability, as_guessed}
use Rattle.dst_spec.specs.Symbols.{reserved_probability, symbols}
use Rattle.dst_spec.proofs.Examples.{mono, channels_of, pair, params_of, shared_filter, shared_probs, symbols_open}

-- the samples at -1, -2 and -3, and sixteen of them as bytes AA, the latest in the least significant bit
pub one_before_the_frame_is_0 : (f : Shape) (sound : List ℕ) (c : ℕ) → sample f sound c (negsuc 0) ≡ 0
one_before_the_frame_is_0 f sound c = refl

pub two_before_the_frame_is_1 : (f : Shape) (sound : List ℕ) (c : ℕ) → sample f sound c (negsuc 1) ≡ 1
two_before_the_frame_is_1 f sound c = refl

pub three_before_the_frame_is_0 : (f : Shape) (sound : List ℕ) (c : ℕ) → sample f sound c (negsuc 2) ≡ 0
three_before_the_frame_is_0 f sound c = refl

pub sixteen_before_the_frame_are_AA_AA : (f : Shape) (sound : List ℕ) (c : ℕ) →
    number_from (reverse (map (λ n. sample f sound c (negsuc n)) (range_with_len 0 16))) 0 16 ≡ 170 * 256 + 170
unfolding number_from
sixteen_before_the_frame_are_AA_AA f sound c = refl

-- a frame of 64 times 44.1 kHz
pub samples_of_a_channel : samples (mono 4704) ≡ 37632
samples_of_a_channel = refl

pub bytes_of_six_channels : sound_bytes (channels_of 6) ≡ 28224
bytes_of_six_channels = refl

-- two channels: byte 0 has the first eight samples of channel 0, byte 1 of channel 1, byte 2 the next of channel 0
pub earliest_sample_is_most_significant : sample (record { channels = 2; octets = 2 }) (128 ∷ 1 ∷ 64 ∷ 2 ∷ []) 0 (pos 0) ≡ 1
earliest_sample_is_most_significant = refl

pub eighth_sample_of_the_second_channel : sample (record { channels = 2; octets = 2 }) (128 ∷ 1 ∷ 64 ∷ 2 ∷ []) 1 (pos 7) ≡ 1
eighth_sample_of_the_second_channel = refl

pub tenth_sample_of_the_first_channel : sample (record { channels = 2; octets = 2 }) (128 ∷ 1 ∷ 64 ∷ 2 ∷ []) 0 (pos 9) ≡ 1
tenth_sample_of_the_first_channel = refl

-- the ninth sample is the first of the channel's next byte, and 0
pub ninth_sample_of_the_first_channel : sample (record { channels = 2; octets = 2 }) (128 ∷ 1 ∷ 64 ∷ 2 ∷ []) 0 (pos 8) ≡ 0
ninth_sample_of_the_first_channel = refl

pub samples_of_a_byte : map (λ t. sample (mono 1) (156 ∷ []) 0 (pos t)) (range_with_len 0 8) ≡ 1 ∷ 0 ∷ 0 ∷ 1 ∷ 1 ∷ 1 ∷ 0 ∷ 0 ∷ []
samples_of_a_byte = refl

-- the first prediction
pub coefficient_1_predicts_minus_1 : prediction (mono 4704) (params_of (pos 1 ∷ []) (128 ∷ [])) [] 0 0 ≡ negsuc 0
unfolding sum_before
coefficient_1_predicts_minus_1 = refl

pub two_coefficients_see_0_and_1 : prediction (mono 4704) (params_of (pos 3 ∷ pos 5 ∷ []) (128 ∷ [])) [] 0 0 ≡ pos 2
unfolding sum_before
two_coefficients_see_0_and_1 = refl

-- at sample 2 of 1, 0 and on: the sample before it is 0, the one before that 1, the one before the frame 0
pub three_coefficients_see_0_1_0 : prediction (mono 1) (params_of (pos 3 ∷ pos 5 ∷ pos 11 ∷ []) (128 ∷ [])) (128 ∷ []) 0 2 ≡ negsuc 8
unfolding sum_before
three_coefficients_see_0_1_0 = refl

-- the greatest
pub greatest_prediction : prediction (mono 16) (params_of (replicate 128 (negsuc 255)) (128 ∷ [])) (replicate 16 0) 0 128 ≡ pos 32768
unfolding sum_before
greatest_prediction = refl

-- the entry of a prediction: its size by 8, at most the last place
pub size_7_has_entry_0 : probability (mono 4704) (params_of (pos 7 ∷ []) (11 ∷ 12 ∷ 13 ∷ [])) [] 0 0 ≡ 11
unfolding sum_before
size_7_has_entry_0 = refl

pub size_8_has_entry_1 : probability (mono 4704) (params_of (pos 8 ∷ []) (11 ∷ 12 ∷ 13 ∷ [])) [] 0 0 ≡ 12
unfolding sum_before
size_8_has_entry_1 = refl

pub size_100_has_the_last_entry : probability (mono 4704) (params_of (negsuc 99 ∷ []) (11 ∷ 12 ∷ 13 ∷ [])) [] 0 0 ≡ 13
unfolding sum_before
size_100_has_the_last_entry = refl

-- a half bit is for as many samples as the filter is long
abbrev with_half_bit : Params
with_half_bit = record { filter_map = 0 ∷ []; prob_map = 0 ∷ []; half_prob = true ∷ []; filters = (pos 7 ∷ pos 7 ∷ []) ∷ []; probs = (11 ∷ 12 ∷ 13 ∷ []) ∷ [] }

pub half_bit_at_1 : probability (mono 4704) with_half_bit [] 0 1 ≡ 128
unfolding sum_before
half_bit_at_1 = refl

pub no_half_bit_at_2 : probability (mono 4704) with_half_bit [] 0 2 ≡ 12
unfolding sum_before
no_half_bit_at_2 = refl

-- the guess is 1 where the prediction is 0 or greater
pub zero_guesses_1 : as_guessed (mono 1) (params_of (pos 0 ∷ []) (128 ∷ [])) (128 ∷ []) 0 0 ≡ true
unfolding sum_before
zero_guesses_1 = refl

pub zero_does_not_guess_0 : as_guessed (mono 1) (params_of (pos 0 ∷ []) (128 ∷ [])) (128 ∷ []) 0 1 ≡ false
unfolding sum_before
zero_does_not_guess_0 = refl

pub minus_1_guesses_0 : as_guessed (mono 1) (params_of (pos 1 ∷ []) (128 ∷ [])) (0 ∷ []) 0 0 ≡ true
unfolding sum_before
minus_1_guesses_0 = refl

pub minus_1_does_not_guess_1 : as_guessed (mono 1) (params_of (pos 1 ∷ []) (128 ∷ [])) (128 ∷ []) 0 0 ≡ false
unfolding sum_before
minus_1_does_not_guess_1 = refl

-- the probability of the reserved symbol: the low seven bits of coefficient 0, reversed, and 1
pub reserved_at_0 : reserved_probability (params_of (pos 0 ∷ []) (128 ∷ [])) ≡ 1
unfolding symbols_open
reserved_at_0 = refl

pub reserved_at_1 : reserved_probability (params_of (pos 1 ∷ []) (128 ∷ [])) ≡ 65
unfolding symbols_open
reserved_at_1 = refl

pub reserved_at_minus_1 : reserved_probability (params_of (negsuc 0 ∷ []) (128 ∷ [])) ≡ 128
unfolding symbols_open
reserved_at_minus_1 = refl

pub reserved_at_minus_200 : reserved_probability (params_of (negsuc 199 ∷ []) (128 ∷ [])) ≡ 15
unfolding symbols_open
reserved_at_minus_200 = refl

pub reserved_at_minus_256 : reserved_probability (params_of (negsuc 255 ∷ []) (128 ∷ [])) ≡ 1
unfolding symbols_open
reserved_at_minus_256 = refl

pub reserved_at_200 : reserved_probability (params_of (pos 200 ∷ []) (128 ∷ [])) ≡ 10
unfolding symbols_open
reserved_at_200 = refl

-- coefficient 0 of filter 0: those behind it don't count
pub reserved_of_two_filters : reserved_probability shared_probs ≡ 65
unfolding symbols_open
reserved_of_two_filters = refl

-- ---- the symbols of eight samples of two channels, 9C and 35: the reserved one, then each sample's, channel after channel
-- one filter, 20 and -8: the size of a prediction is 28 or 12, whose entries are 7 and 6 of the first channel's table; the
-- second channel's entry is 128
pub symbols_by_a_shared_filter : symbols pair shared_filter (156 ∷ 53 ∷ []) true
    ≡ (true, 21) ∷ (false, 7) ∷ (true, 128) ∷ (false, 7) ∷ (true, 128) ∷ (true, 7) ∷ (false, 128) ∷ (false, 6) ∷ (true, 128)
    ∷ (true, 7) ∷ (false, 128) ∷ (true, 6) ∷ (false, 128) ∷ (false, 6) ∷ (false, 128) ∷ (true, 7) ∷ (false, 128) ∷ []
unfolding symbols_open
symbols_by_a_shared_filter = refl

-- a filter each: the size of a prediction is at most 3, whose entry is 5; the first channel's half bit is for its first two samples
pub symbols_by_shared_probabilities : symbols pair shared_probs (156 ∷ 53 ∷ []) false
    ≡ (false, 65) ∷ (false, 128) ∷ (true, 5) ∷ (false, 128) ∷ (true, 5) ∷ (true, 5) ∷ (false, 5) ∷ (true, 5) ∷ (true, 5)
    ∷ (true, 5) ∷ (false, 5) ∷ (false, 5) ∷ (false, 5) ∷ (true, 5) ∷ (false, 5) ∷ (true, 5) ∷ (false, 5) ∷ []
unfolding symbols_open
symbols_by_shared_probabilities = refl
