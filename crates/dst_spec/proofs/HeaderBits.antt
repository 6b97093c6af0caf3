-- Segmentations, maps and whole headers, worked out.
use Rattle.std.proofs.Common.{◌≡◌, ℕ, pos, List, [], ◌∷◌, ◌++◌, drop, replicate, refl, Some, None, Ok}
use Rattle.dst_spec.specs.Bits.{bits}
use Rattle.dst_spec.specs.Map.{element_count, map_bits}
use Rattle.dst_spec.specs.Fields.{read}
use Rattle.dst_spec.specs.Offends.{segment_fields, map_fields, both_segments, both_maps, header_fields, frame_fields}
use Rattle.dst_spec.specs.Spell.{map_spelling, maps_spelling, header_spelling}
use Rattle.dst_spec.proofs.Examples.{mono, params_of, shared_filter, shared_probs, fields_open, spelling_open}

-- the bits of a map's numbers
pub bits_behind_one : map_bits 1 ≡ 1
bits_behind_one = refl

pub bits_behind_two : map_bits 2 ≡ 2
bits_behind_two = refl

pub bits_behind_three : map_bits 3 ≡ 2
bits_behind_three = refl

pub bits_behind_four : map_bits 4 ≡ 3
bits_behind_four = refl

pub bits_behind_five : map_bits 5 ≡ 3
bits_behind_five = refl

-- a map of six channels with five elements: numbers 1, 2, 1, 3, 4 of 1, 2, 2, 2 and 3 bits
abbrev five_elements : List ℕ
five_elements = 0 ∷ 1 ∷ 2 ∷ 1 ∷ 3 ∷ 4 ∷ []

abbrev five_elements_bits : List ℕ
five_elements_bits = 0 ∷ (1 ∷ []) ++ (1 ∷ 0 ∷ []) ++ (0 ∷ 1 ∷ []) ++ (1 ∷ 1 ∷ []) ++ (1 ∷ 0 ∷ 0 ∷ [])

pub it_has_five_elements : element_count five_elements ≡ 5
it_has_five_elements = refl

pub one_element_is_counted : element_count (0 ∷ 0 ∷ 0 ∷ []) ≡ 1
one_element_is_counted = refl

pub no_element_is_counted : element_count [] ≡ 0
no_element_is_counted = refl

pub map_of_five_elements : map_spelling five_elements ≡ five_elements_bits
unfolding spelling_open
map_of_five_elements = refl

pub map_is_read_back : read (map_fields 6) five_elements_bits 5 ≡ Ok (five_elements, [], 16)
unfolding fields_open
map_is_read_back = refl

pub map_of_zeros_is_one_bit : map_spelling (0 ∷ 0 ∷ 0 ∷ []) ≡ 1 ∷ []
unfolding spelling_open
map_of_zeros_is_one_bit = refl

pub zeros_are_read_back : read (map_fields 3) (1 ∷ []) 0 ≡ Ok (0 ∷ 0 ∷ 0 ∷ [], [], 1)
unfolding fields_open
zeros_are_read_back = refl

pub zeros_spelled_by_number : read (map_fields 3) (0 ∷ 0 ∷ 0 ∷ []) 0 ≡ Ok (0 ∷ 0 ∷ 0 ∷ [], [], 3)
unfolding fields_open
zeros_spelled_by_number = refl

-- equal maps, and different ones
pub equal_maps_stand_once : read (both_maps 2) (1 ∷ 0 ∷ 1 ∷ 1 ∷ []) 0 ≡ Ok ((0 ∷ 1 ∷ [], 0 ∷ 1 ∷ []), 1 ∷ [], 3)
unfolding fields_open
equal_maps_stand_once = refl

pub equal_maps_stand_twice : read (both_maps 2) (0 ∷ 0 ∷ 1 ∷ 0 ∷ 1 ∷ []) 0 ≡ Ok ((0 ∷ 1 ∷ [], 0 ∷ 1 ∷ []), [], 5)
unfolding fields_open
equal_maps_stand_twice = refl

-- segmentations for all channels at once and for each of three, and two of them
pub segments_spelled_at_once : read (segment_fields 3) (1 ∷ 1 ∷ 1 ∷ []) 0 ≡ Ok (1 ∷ [], 1 ∷ [], 2)
unfolding fields_open
segments_spelled_at_once = refl

pub segments_spelled_for_each : read (segment_fields 3) (0 ∷ 1 ∷ 1 ∷ 1 ∷ 1 ∷ []) 0 ≡ Ok (1 ∷ 1 ∷ 1 ∷ [], 1 ∷ [], 4)
unfolding fields_open
segments_spelled_for_each = refl

pub one_segmentation : read (both_segments 3) (1 ∷ 1 ∷ 1 ∷ 1 ∷ []) 0 ≡ Ok (1 ∷ [], 1 ∷ [], 3)
unfolding fields_open
one_segmentation = refl

pub two_segmentations : read (both_segments 3) (0 ∷ 1 ∷ 1 ∷ 0 ∷ 1 ∷ 1 ∷ 1 ∷ []) 0 ≡ Ok (1 ∷ 1 ∷ 1 ∷ [], [], 7)
unfolding fields_open
two_segmentations = refl

-- ---- whole headers of two channels, spelled and read back behind their first bit
-- coded, one segment; the maps differ, 0, 0 and 0, 1; half bits 0, 1; the filter 20, -8 plain;
-- 5, 6, 7 by method 0 with residuals 1 and 1; 128 alone
abbrev pub shared_filter_bits : List ℕ
shared_filter_bits =
    1 ∷ 1 ∷ 1 ∷ 0 ∷ 1 ∷ 0 ∷ 1 ∷ 0 ∷ 1 ∷ (0 ∷ 0 ∷ 0 ∷ 0 ∷ 0 ∷ 0 ∷ 1 ∷ 0 ∷ []) ++ (0 ∷ 0 ∷ 0 ∷ 0 ∷ 1 ∷ 0 ∷ 1 ∷ 0 ∷ 0 ∷ []) ++
    (1 ∷ 1 ∷ 1 ∷ 1 ∷ 1 ∷ 1 ∷ 0 ∷ 0 ∷ 0 ∷ [])
    ++ (0 ∷ 0 ∷ 0 ∷ 0 ∷ 1 ∷ 0 ∷ 1 ∷ 0 ∷ 0 ∷ []) ++ (0 ∷ 0 ∷ 0 ∷ 0 ∷ 1 ∷ 0 ∷ 0 ∷ []) ++ (0 ∷ 0 ∷ 0 ∷ []) ++ (0 ∷ 1 ∷ 0 ∷ []) ++ (0 ∷ 1 ∷ 0 ∷ []) ++ replicate 6 0

pub header_of_a_shared_filter : header_spelling shared_filter ≡ 1 ∷ shared_filter_bits
unfolding spelling_open
header_of_a_shared_filter = refl

pub shared_filter_is_read_back : read (header_fields 2) shared_filter_bits 1 ≡ Ok (shared_filter, [], 67)
unfolding fields_open
shared_filter_is_read_back = refl

-- the maps differ, 0, 1 and 0, 0; half bits 1, 0; the filters 1, -2 and 3, and 5, 6, all plain
abbrev shared_probs_bits : List ℕ
shared_probs_bits =
    1 ∷ 1 ∷ 1 ∷ 0 ∷ 0 ∷ 1 ∷ 1 ∷ 1 ∷ 0 ∷ (0 ∷ 0 ∷ 0 ∷ 0 ∷ 0 ∷ 0 ∷ 1 ∷ 0 ∷ []) ++ (0 ∷ 0 ∷ 0 ∷ 0 ∷ 0 ∷ 0 ∷ 0 ∷ 0 ∷ 1 ∷ []) ++
    (1 ∷ 1 ∷ 1 ∷ 1 ∷ 1 ∷ 1 ∷ 1 ∷ 1 ∷ 0 ∷ [])
    ++ replicate 8 0 ++ (0 ∷ 0 ∷ 0 ∷ 0 ∷ 0 ∷ 0 ∷ 0 ∷ 1 ∷ 1 ∷ []) ++ (0 ∷ 0 ∷ 0 ∷ 0 ∷ 0 ∷ 1 ∷ 0 ∷ []) ++ (0 ∷ 0 ∷ 0 ∷ 0 ∷ 1 ∷ 0 ∷ 0 ∷ []) ++
    (0 ∷ 0 ∷ 0 ∷ 0 ∷ 1 ∷ 0 ∷ 1 ∷ [])

pub header_of_shared_probabilities : header_spelling shared_probs ≡ 1 ∷ shared_probs_bits
unfolding spelling_open
header_of_shared_probabilities = refl

pub shared_probabilities_are_read_back : read (header_fields 2) shared_probs_bits 1 ≡ Ok (shared_probs, [], 74)
unfolding fields_open
shared_probabilities_are_read_back = refl

pub equal_maps_are_spelled_once : maps_spelling (params_of (pos 0 ∷ []) (128 ∷ [])) ≡ 1 ∷ 1 ∷ []
unfolding spelling_open
equal_maps_are_spelled_once = refl

-- ---- frames whose fields are all read
-- FC 00 00 05 FF F8: one map for all channels, no half bit, the filter 0, the probabilities 128 and 128; the first code bit is
-- at 45
pub fields_of_a_frame : read (frame_fields (mono 4704)) (bits (252 ∷ 0 ∷ 0 ∷ 5 ∷ 255 ∷ 248 ∷ [])) 0
    ≡ Ok (Some (params_of (pos 0 ∷ []) (128 ∷ 128 ∷ [])), [], 58)
unfolding fields_open
fields_of_a_frame = refl

pub header_ends_at_45 : read (header_fields 1) (drop 1 (bits (252 ∷ 0 ∷ 0 ∷ 5 ∷ 255 ∷ 248 ∷ []))) 1
    ≡ Ok (params_of (pos 0 ∷ []) (128 ∷ 128 ∷ []), 0 ∷ 0 ∷ 0 ∷ [], 45)
unfolding fields_open
header_ends_at_45 = refl

pub header_with_one_probability_ends_at_30 : read (header_fields 1) (drop 1 (bits (252 ∷ 0 ∷ 0 ∷ 0 ∷ []))) 1
    ≡ Ok (params_of (pos 0 ∷ []) (128 ∷ []), 0 ∷ 0 ∷ [], 30)
unfolding fields_open
header_with_one_probability_ends_at_30 = refl

-- the first code bit is past the end
pub code_past_the_end_is_read : read (frame_fields (mono 4704)) (bits (148 ∷ 0 ∷ 0 ∷ 0 ∷ 191 ∷ 255 ∷ [])) 0
    ≡ Ok (Some (params_of (pos 0 ∷ []) (128 ∷ 128 ∷ [])), [], 61)
unfolding fields_open
code_past_the_end_is_read = refl

pub plain_frame_is_read : read (frame_fields (mono 2)) (bits (64 ∷ 7 ∷ 8 ∷ [])) 0 ≡ Ok (None, [], 24)
unfolding fields_open
plain_frame_is_read = refl
