-- Frames and the sounds that they mean.
use Rattle.std.proofs.Common.{◌≡◌, ℕ, ◌+◌, ◌-◌, ◌*◌, ◌≤◌, true, pos, negsuc, List, [], ◌∷◌, ◌++◌, length, replicate, take, drop, get_or, refl, inl}
use Rattle.std.proofs.Common.{inr, sym, arith, append-nil, length-append, take_at}
use Rattle.dst_spec.specs.Bits.{low_bits, bits, number_from}
use Rattle.dst_spec.specs.Sample.{IsSound}
use Rattle.dst_spec.specs.Header.{Params, HasHeader}
use Rattle.dst_spec.specs.Symbols.{symbols}
use Rattle.dst_spec.specs.Interval.{code_number}
use Rattle.dst_spec.specs.Means.{Means, IsPlain, MeansWithTail}
use Rattle.dst_spec.proofs.Beginnings.{header_to_45, header_of_coefficient_1, header_of_coefficient_minus_1, header_of_two_segmentations}
use Rattle.dst_spec.proofs.Beginnings.{header_of_two_maps, header_of_method_2, header_of_one_probability}
use Rattle.dst_spec.proofs.Numbers.{number_from-past, number_from-add}
use Rattle.dst_spec.proofs.Certain.{mono, params_of, IsGuessed, ones_two_probs, ones_one_prob, zeros_guessed, turns_guessed, symbols_are_sure, zeros_are_code}

-- ---- a plain frame means the bytes behind its first, which may be 00 or 40, whatever follows them
plain_means : (n first : ℕ) (sound more : List ℕ) → IsSound (mono n) sound →
    get_or (bits (first ∷ [])) 0 0 ≡ 0 → take 6 (drop 2 (bits (first ∷ []))) ≡ replicate 6 0 → IsPlain (mono n) (first ∷ sound ++ more) sound
unfolding bits low_bits
plain_means n first sound more s a b = record {
  coded = a;
  stuffing = b;
  long = omega (arith, s.long, length-append sound more);
  is_sound = sym (take_at sound more (n * 1) s.long);
}

pub plain_frame_means_its_bytes : (sound : List ℕ) → IsSound (mono 4704) sound → Means (mono 4704) (0 ∷ sound) sound
unfolding bits low_bits
plain_frame_means_its_bytes sound s = (s, inl (rw append-nil at (plain_means 4704 0 sound [] s refl refl)))

pub reserved_bit_is_not_looked_at : (sound : List ℕ) → IsSound (mono 4704) sound → Means (mono 4704) (64 ∷ sound) sound
unfolding bits low_bits
reserved_bit_is_not_looked_at sound s = (s, inl (rw append-nil at (plain_means 4704 64 sound [] s refl refl)))

pub three_bytes_more_are_a_tail : (sound : List ℕ) (a b c : ℕ) → IsSound (mono 4704) sound → MeansWithTail (mono 4704) (0 ∷ sound ++ a ∷ b ∷ c ∷ []) sound 3
unfolding bits low_bits
three_bytes_more_are_a_tail sound a b c s =
    (s, inl (plain_means 4704 0 sound (a ∷ b ∷ c ∷ []) s refl refl, omega (arith, s.long, length-append sound (a ∷ b ∷ c ∷ []))))

-- ---- coded frames of one channel whose code is zeros, for frames of any length
-- behind m zero bits the frame ends
zeros_to_the_end : (xs : List ℕ) (i m : ℕ) → m ≤ 12 → number_from xs (i + 1) m ≡ 0 → length xs ≤ i + 1 + m → (n : ℕ) → code_number xs i n ≡ 0
zeros_to_the_end xs i m h e l n =
    let same : 12 + n ≡ m + (12 - m + n) = omega arith in
    let p = number_from-add xs (i + 1) m (12 - m + n) in
    let q = number_from-past xs (i + 1 + m) (12 - m + n) l in
    rw (same, p, e, q) (omega arith)

coded_means : (n place : ℕ) (frame : List ℕ) (P : Params) (sound : List ℕ) → IsGuessed P n sound → place ≤ length (bits frame) →
    HasHeader 1 P (take place (bits frame)) →
    get_or (bits frame) place 0 ≡ 0 → ((n : ℕ) → code_number (bits frame) place n ≡ 0) → Means (mono n) frame sound
coded_means n place frame P sound s inside header first z = (
  s.sound_is,
  inr (record {
    params = P;
    place = place;
    inside = inside;
    header = header;
    first_bit = first;
    reserved = true;
    code = zeros_are_code (bits frame) place (symbols (mono n) P sound true) (symbols_are_sure P n sound s) z;
  }),
)

pub frame_with_code_of_zeros : (n : ℕ) → Means (mono n) (252 ∷ 0 ∷ 0 ∷ 5 ∷ 255 ∷ 248 ∷ []) (replicate n 255)
unfolding low_bits bits number_from
frame_with_code_of_zeros n =
    coded_means n 45 (252 ∷ 0 ∷ 0 ∷ 5 ∷ 255 ∷ 248 ∷ []) (params_of (pos 0 ∷ []) (128 ∷ 128 ∷ [])) (replicate n 255) (ones_two_probs 0 n)
    (omega arith) header_to_45 refl
    (zeros_to_the_end (bits (252 ∷ 0 ∷ 0 ∷ 5 ∷ 255 ∷ 248 ∷ [])) 45 2 (omega arith) refl (omega arith))

pub frame_of_double_rate : Means (mono 9408) (252 ∷ 0 ∷ 0 ∷ 5 ∷ 255 ∷ 248 ∷ []) (replicate 9408 255)
frame_of_double_rate = frame_with_code_of_zeros 9408

-- the coefficient 1, and a sound of zeros; -1, and a sound of 1 and 0 in turn
pub frame_of_zeros : (n : ℕ) → Means (mono n) (252 ∷ 0 ∷ 1 ∷ 5 ∷ 255 ∷ 248 ∷ []) (replicate n 0)
unfolding low_bits bits number_from
frame_of_zeros n =
    coded_means n 45 (252 ∷ 0 ∷ 1 ∷ 5 ∷ 255 ∷ 248 ∷ []) (params_of (pos 1 ∷ []) (128 ∷ 128 ∷ [])) (replicate n 0) (zeros_guessed n)
    (omega arith) header_of_coefficient_1 refl
    (zeros_to_the_end (bits (252 ∷ 0 ∷ 1 ∷ 5 ∷ 255 ∷ 248 ∷ [])) 45 2 (omega arith) refl (omega arith))

pub frame_of_ones_and_zeros_in_turn : (n : ℕ) → Means (mono n) (252 ∷ 1 ∷ 255 ∷ 5 ∷ 255 ∷ 248 ∷ []) (replicate n 170)
unfolding low_bits bits number_from
frame_of_ones_and_zeros_in_turn n =
    coded_means n 45 (252 ∷ 1 ∷ 255 ∷ 5 ∷ 255 ∷ 248 ∷ []) (params_of (negsuc 0 ∷ []) (128 ∷ 128 ∷ [])) (replicate n 170) (turns_guessed n)
    (omega arith) header_of_coefficient_minus_1 refl
    (zeros_to_the_end (bits (252 ∷ 1 ∷ 255 ∷ 5 ∷ 255 ∷ 248 ∷ [])) 45 2 (omega arith) refl (omega arith))

-- two segmentations, each given for all channels at once
pub two_segmentations_spelled_for_all_channels : (n : ℕ) → Means (mono n) (191 ∷ 0 ∷ 0 ∷ 1 ∷ 127 ∷ 254 ∷ []) (replicate n 255)
unfolding low_bits bits number_from
two_segmentations_spelled_for_all_channels n =
    coded_means n 47 (191 ∷ 0 ∷ 0 ∷ 1 ∷ 127 ∷ 254 ∷ []) (params_of (pos 0 ∷ []) (128 ∷ 128 ∷ [])) (replicate n 255) (ones_two_probs 0 n)
    (omega arith) header_of_two_segmentations refl
    (zeros_to_the_end (bits (191 ∷ 0 ∷ 0 ∷ 1 ∷ 127 ∷ 254 ∷ [])) 47 0 (omega arith) refl (omega arith))

-- two segmentations and two maps, each given for each channel; the first code bit is past the end
pub two_segmentations_and_two_maps_spelled_for_each_channel : (n : ℕ) → Means (mono n) (148 ∷ 0 ∷ 0 ∷ 0 ∷ 191 ∷ 255 ∷ []) (replicate n 255)
unfolding low_bits bits number_from
two_segmentations_and_two_maps_spelled_for_each_channel n =
    coded_means n 48 (148 ∷ 0 ∷ 0 ∷ 0 ∷ 191 ∷ 255 ∷ []) (params_of (pos 0 ∷ []) (128 ∷ 128 ∷ [])) (replicate n 255) (ones_two_probs 0 n)
    (omega arith) header_of_two_maps refl
    (zeros_to_the_end (bits (148 ∷ 0 ∷ 0 ∷ 0 ∷ 191 ∷ 255 ∷ [])) 48 0 (omega arith) refl (omega arith))

-- a filter of three coefficients by method 2, without a residual
pub method_2_without_residual : (n : ℕ) → Means (mono n) (252 ∷ 11 ∷ 0 ∷ 0 ∷ 0 ∷ 0 ∷ 11 ∷ 255 ∷ 240 ∷ []) (replicate n 255)
unfolding low_bits bits number_from
method_2_without_residual n =
    coded_means n 68 (252 ∷ 11 ∷ 0 ∷ 0 ∷ 0 ∷ 0 ∷ 11 ∷ 255 ∷ 240 ∷ []) (params_of (pos 0 ∷ pos 0 ∷ pos 0 ∷ []) (128 ∷ 128 ∷ [])) (replicate n 255)
    (ones_two_probs 2 n) (omega arith) header_of_method_2 refl
    (zeros_to_the_end (bits (252 ∷ 11 ∷ 0 ∷ 0 ∷ 0 ∷ 0 ∷ 11 ∷ 255 ∷ 240 ∷ [])) 68 3 (omega arith) refl (omega arith))

-- a table of one probability, which is its length field alone
pub one_probability_alone : (n : ℕ) → Means (mono n) (252 ∷ 0 ∷ 0 ∷ 0 ∷ []) (replicate n 255)
unfolding low_bits bits number_from
one_probability_alone n =
    coded_means n 30 (252 ∷ 0 ∷ 0 ∷ 0 ∷ []) (params_of (pos 0 ∷ []) (128 ∷ [])) (replicate n 255) (ones_one_prob 0 n)
    (omega arith) header_of_one_probability refl
    (zeros_to_the_end (bits (252 ∷ 0 ∷ 0 ∷ 0 ∷ [])) 30 1 (omega arith) refl (omega arith))
