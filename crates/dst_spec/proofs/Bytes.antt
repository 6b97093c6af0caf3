-- Bits, numbers and bytes, worked out.
use Rattle.std.proofs.Common.{◌≡◌, pos, negsuc, [], ◌∷◌, replicate, refl, arith}
use Rattle.dst_spec.specs.Bits.{low_bits, signed_bits, bits, number_from, signed_value, octets, AreBits, AreBytes}

pub ten_in_four_bits : low_bits 4 10 ≡ 1 ∷ 0 ∷ 1 ∷ 0 ∷ []
unfolding low_bits
ten_in_four_bits = refl

pub high_bits_are_left_out : low_bits 3 13 ≡ 1 ∷ 0 ∷ 1 ∷ []
unfolding low_bits
high_bits_are_left_out = refl

-- two's complement
pub minus_one_in_nine_bits : signed_bits 9 (negsuc 0) ≡ replicate 9 1
unfolding low_bits
minus_one_in_nine_bits = refl

pub minus_256_in_nine_bits : signed_bits 9 (negsuc 255) ≡ 1 ∷ replicate 8 0
unfolding low_bits
minus_256_in_nine_bits = refl

pub greatest_of_nine_bits : signed_bits 9 (pos 255) ≡ 0 ∷ replicate 8 1
unfolding low_bits
greatest_of_nine_bits = refl

pub greatest_is_255 : signed_value 9 255 ≡ pos 255
greatest_is_255 = refl

pub least_is_minus_256 : signed_value 9 256 ≡ negsuc 255
least_is_minus_256 = refl

pub nine_ones_are_minus_one : signed_value 9 511 ≡ negsuc 0
nine_ones_are_minus_one = refl

-- bytes
pub most_significant_bit_first : bits (1 ∷ 128 ∷ []) ≡ 0 ∷ 0 ∷ 0 ∷ 0 ∷ 0 ∷ 0 ∷ 0 ∷ 1 ∷ 1 ∷ 0 ∷ 0 ∷ 0 ∷ 0 ∷ 0 ∷ 0 ∷ 0 ∷ []
unfolding bits low_bits
most_significant_bit_first = refl

pub three_bits_from_place_one : number_from (1 ∷ 1 ∷ 1 ∷ 0 ∷ 1 ∷ []) 1 3 ≡ 6
unfolding number_from
three_bits_from_place_one = refl

pub bits_past_the_end_are_0 : number_from (1 ∷ []) 0 3 ≡ 4
unfolding number_from
bits_past_the_end_are_0 = refl

pub zeros_to_the_end_of_the_byte : octets (1 ∷ 0 ∷ 1 ∷ []) ≡ 160 ∷ []
unfolding octets number_from
zeros_to_the_end_of_the_byte = refl

pub no_bits_no_byte : octets [] ≡ []
unfolding octets number_from
no_bits_no_byte = refl

pub eight_bits_one_byte : octets (0 ∷ 0 ∷ 1 ∷ 0 ∷ 0 ∷ 0 ∷ 1 ∷ 1 ∷ []) ≡ 35 ∷ []
unfolding octets number_from
eight_bits_one_byte = refl

pub nine_bits_two_bytes : octets (replicate 9 1) ≡ 255 ∷ 128 ∷ []
unfolding octets number_from
nine_bits_two_bytes = refl

-- what a bit and a byte are
pub zero_and_one_are_bits : AreBits (0 ∷ 1 ∷ [])
zero_and_one_are_bits = (omega arith, (omega arith, tt))

pub two_is_no_bit : AreBits (2 ∷ []) → ⊥
two_is_no_bit h = omega (arith, h.0)

pub zero_and_255_are_bytes : AreBytes (0 ∷ 255 ∷ [])
zero_and_255_are_bytes = (omega arith, (omega arith, tt))

pub number_256_is_no_byte : AreBytes (256 ∷ []) → ⊥
number_256_is_no_byte h = omega (arith, h.0)
