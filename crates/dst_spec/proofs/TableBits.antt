-- Tables, worked out: what their values foretell, how they are spelled, and read back.
use Rattle.std.proofs.Common.{◌≡◌, ℕ, ℤ, pos, negsuc, List, [], ◌∷◌, ◌++◌, length, replicate, refl, Ok}
use Rattle.dst_spec.specs.Rice.{rice}
use Rattle.dst_spec.specs.Table.{filter_kind, prob_kind, filter_weights, prob_weights, plain, coded, weighted, eighth, later_values, table_bits}
use Rattle.dst_spec.specs.Fields.{read}
use Rattle.dst_spec.specs.Offends.{table_fields}
use Rattle.dst_spec.specs.Spell.{shortest}
use Rattle.dst_spec.proofs.Examples.{fields_open, tables_open}

-- ---- three coefficients take 35 bits plain, 34 by method 0 at its best, and 32 by method 1, the least
abbrev three : List ℤ
three = pos 10 ∷ pos 20 ∷ pos 30 ∷ []

pub plain_table_takes_35 : length (table_bits filter_kind three plain) ≡ 35
unfolding tables_open
plain_table_takes_35 = refl

-- with m = 2 and m = 3 method 0 is at its best
pub method_0_takes_34 : length (table_bits filter_kind three (coded 0 2)) ≡ 34
unfolding tables_open
method_0_takes_34 = refl

pub method_1_takes_32 : length (table_bits filter_kind three (coded 1 0)) ≡ 32
unfolding tables_open
method_1_takes_32 = refl

pub its_one_residual_is_zero : later_values (filter_weights 1) 0 (pos 20 ∷ pos 10 ∷ []) (pos 30 ∷ []) ≡ 1 ∷ []
unfolding tables_open
its_one_residual_is_zero = refl

pub method_1_is_shortest : shortest filter_kind three ≡ coded 1 0
unfolding tables_open
method_1_is_shortest = refl

-- length less 1, coded, method 1, two values plain, m, the residual 0
pub three_by_method_1 : table_bits filter_kind three (coded 1 0)
    ≡ (0 ∷ 0 ∷ 0 ∷ 0 ∷ 0 ∷ 1 ∷ 0 ∷ []) ++ (1 ∷ 0 ∷ 1 ∷ []) ++ (0 ∷ 0 ∷ 0 ∷ 0 ∷ 0 ∷ 1 ∷ 0 ∷ 1 ∷ 0 ∷ []) ++ (0 ∷ 0 ∷ 0 ∷ 0 ∷ 1 ∷ 0 ∷ 1 ∷ 0 ∷ 0 ∷ []) ++
    (0 ∷ 0 ∷ 0 ∷ []) ++ 1 ∷ []
unfolding tables_open
three_by_method_1 = refl

pub three_is_read_back : read (table_fields filter_kind) (table_bits filter_kind three (coded 1 0)) 0 ≡ Ok (three, [], 32)
unfolding fields_open tables_open
three_is_read_back = refl

-- ---- other spellings, bit for bit, and read back
pub least_and_greatest_coefficient : table_bits filter_kind (pos 255 ∷ negsuc 255 ∷ []) plain ≡ (0 ∷ 0 ∷ 0 ∷ 0 ∷ 0 ∷ 0 ∷ 1 ∷ []) ++ 0 ∷ (0 ∷ replicate 8 1)
    ++ (1 ∷ replicate 8 0)
unfolding tables_open
least_and_greatest_coefficient = refl

pub they_are_read_back : read (table_fields filter_kind) ((0 ∷ 0 ∷ 0 ∷ 0 ∷ 0 ∷ 0 ∷ 1 ∷ []) ++ 0 ∷ (0 ∷ replicate 8 1) ++ (1 ∷ replicate 8 0)) 0 ≡ Ok
    (pos 255 ∷ negsuc 255 ∷ [], [], 26)
unfolding fields_open
they_are_read_back = refl

pub least_and_greatest_probability : table_bits prob_kind (pos 1 ∷ pos 128 ∷ []) plain ≡ (0 ∷ 0 ∷ 0 ∷ 0 ∷ 0 ∷ 1 ∷ []) ++ 0 ∷ replicate 7 0 ++ replicate 7 1
unfolding tables_open
least_and_greatest_probability = refl

pub probabilities_are_read_back : read (table_fields prob_kind) ((0 ∷ 0 ∷ 0 ∷ 0 ∷ 0 ∷ 1 ∷ []) ++ 0 ∷ replicate 7 0 ++ replicate 7 1) 0 ≡ Ok
    (pos 1 ∷ pos 128 ∷ [], [], 21)
unfolding fields_open
probabilities_are_read_back = refl

-- 7, -9 and 200 by method 0: the residuals are -9 less 7 and 200 and 9, -16 and 209, with m = 7
abbrev far_apart : List ℤ
far_apart = pos 7 ∷ negsuc 8 ∷ pos 200 ∷ []

abbrev far_apart_bits : List ℕ
far_apart_bits = (0 ∷ 0 ∷ 0 ∷ 0 ∷ 0 ∷ 1 ∷ 0 ∷ []) ++ (1 ∷ 0 ∷ 0 ∷ []) ++ (0 ∷ 0 ∷ 0 ∷ 0 ∷ 0 ∷ 0 ∷ 1 ∷ 1 ∷ 1 ∷ []) ++ (1 ∷ 1 ∷ 1 ∷ [])
    ++ (1 ∷ 0 ∷ 0 ∷ 1 ∷ 0 ∷ 0 ∷ 0 ∷ 0 ∷ 1 ∷ []) ++ (0 ∷ 1 ∷ 1 ∷ 0 ∷ 1 ∷ 0 ∷ 0 ∷ 0 ∷ 1 ∷ 0 ∷ [])

pub far_apart_by_method_0 : table_bits filter_kind far_apart (coded 0 7) ≡ far_apart_bits
unfolding tables_open
far_apart_by_method_0 = refl

pub far_apart_is_read_back : read (table_fields filter_kind) far_apart_bits 100 ≡ Ok (far_apart, [], 141)
unfolding fields_open
far_apart_is_read_back = refl

-- 9, 4, 1 and 100 by method 2: the sum is -24 + 96 - 72, which is 0, so the residual is 100, with m = 5
abbrev probs_by_method_2 : List ℕ
probs_by_method_2 = (0 ∷ 0 ∷ 0 ∷ 0 ∷ 1 ∷ 1 ∷ []) ++ (1 ∷ 1 ∷ 0 ∷ []) ++ (0 ∷ 0 ∷ 0 ∷ 1 ∷ 0 ∷ 0 ∷ 0 ∷ []) ++ (0 ∷ 0 ∷ 0 ∷ 0 ∷ 0 ∷ 1 ∷ 1 ∷ [])
    ++ replicate 7 0 ++ (1 ∷ 0 ∷ 1 ∷ [])
    ++ (0 ∷ 0 ∷ 0 ∷ 1 ∷ 0 ∷ 0 ∷ 1 ∷ 0 ∷ 0 ∷ 0 ∷ [])

pub squares_by_prob_method_2 : table_bits prob_kind (pos 9 ∷ pos 4 ∷ pos 1 ∷ pos 100 ∷ []) (coded 2 5) ≡ probs_by_method_2
unfolding tables_open
squares_by_prob_method_2 = refl

pub squares_are_read_back : read (table_fields prob_kind) probs_by_method_2 0 ≡ Ok (pos 9 ∷ pos 4 ∷ pos 1 ∷ pos 100 ∷ [], [], 43)
unfolding fields_open
squares_are_read_back = refl

-- three values by method 2 have no residual
pub three_by_method_2 : read (table_fields filter_kind) (0 ∷ 0 ∷ 0 ∷ 0 ∷ 0 ∷ 1 ∷ 0 ∷ 1 ∷ 1 ∷ 0 ∷ replicate 30 0) 0 ≡ Ok (pos 0 ∷ pos 0 ∷ pos 0 ∷ [], [], 40)
unfolding fields_open
three_by_method_2 = refl

-- the least and the greatest values by a residual, which is 0 behind the same value
pub coefficient_255_by_a_residual : read (table_fields filter_kind)
    ((0 ∷ 0 ∷ 0 ∷ 0 ∷ 0 ∷ 0 ∷ 1 ∷ []) ++ (1 ∷ 0 ∷ 0 ∷ []) ++ (0 ∷ replicate 8 1) ++ (0 ∷ 0 ∷ 0 ∷ 1 ∷ [])) 0 ≡ Ok (pos 255 ∷ pos 255 ∷ [], [], 23)
unfolding fields_open
coefficient_255_by_a_residual = refl

pub coefficient_minus_256_by_a_residual : read (table_fields filter_kind)
    ((0 ∷ 0 ∷ 0 ∷ 0 ∷ 0 ∷ 0 ∷ 1 ∷ []) ++ (1 ∷ 0 ∷ 0 ∷ []) ++ (1 ∷ replicate 8 0) ++ (0 ∷ 0 ∷ 0 ∷ 1 ∷ [])) 0 ≡ Ok (negsuc 255 ∷ negsuc 255 ∷ [], [], 23)
unfolding fields_open
coefficient_minus_256_by_a_residual = refl

pub probability_1_by_a_residual : read (table_fields prob_kind)
    ((0 ∷ 0 ∷ 0 ∷ 0 ∷ 0 ∷ 1 ∷ []) ++ (1 ∷ 0 ∷ 0 ∷ []) ++ replicate 7 0 ++ (0 ∷ 0 ∷ 0 ∷ 1 ∷ [])) 0 ≡ Ok (pos 1 ∷ pos 1 ∷ [], [], 20)
unfolding fields_open
probability_1_by_a_residual = refl

pub probability_128_by_a_residual : read (table_fields prob_kind)
    ((0 ∷ 0 ∷ 0 ∷ 0 ∷ 0 ∷ 1 ∷ []) ++ (1 ∷ 0 ∷ 0 ∷ []) ++ replicate 7 1 ++ (0 ∷ 0 ∷ 0 ∷ 1 ∷ [])) 0 ≡ Ok (pos 128 ∷ pos 128 ∷ [], [], 20)
unfolding fields_open
probability_128_by_a_residual = refl

-- values on a line by method 1: each residual is 0, the nearest earlier values being the two before it
pub line_has_no_residuals : later_values (prob_weights 1) 0 (pos 7 ∷ pos 4 ∷ []) (pos 10 ∷ pos 13 ∷ []) ≡ 1 ∷ 1 ∷ []
unfolding tables_open
line_has_no_residuals = refl

pub one_of_128_takes_6 : table_bits prob_kind (pos 128 ∷ []) plain ≡ replicate 6 0
unfolding tables_open
one_of_128_takes_6 = refl

pub one_probability_is_128 : read (table_fields prob_kind) (replicate 6 0) 0 ≡ Ok (pos 128 ∷ [], [], 6)
unfolding fields_open
one_probability_is_128 = refl

-- ---- what each method foretells: constant values, values on a line, and squares
-- the fourth of 0, 0, 1 and 1 by method 2: the sum is -9, and the eighth goes down, to -1
pub sum_of_weights_is_minus_nine : weighted (filter_weights 2) (pos 1 ∷ pos 0 ∷ pos 0 ∷ []) ≡ negsuc 8
unfolding weighted
sum_of_weights_is_minus_nine = refl

pub eighth_goes_down : eighth (filter_weights 2) (pos 1 ∷ pos 0 ∷ pos 0 ∷ []) ≡ negsuc 0
unfolding weighted
eighth_goes_down = refl

pub fourth_value_is_one : later_values (filter_weights 2) 0 (pos 1 ∷ pos 0 ∷ pos 0 ∷ []) (pos 1 ∷ []) ≡ rice (pos 0) 0
unfolding tables_open
fourth_value_is_one = refl

-- a half is rounded up: -4 to 0, -5 to -1, 4 to 1
pub half_goes_up : eighth (negsuc 3 ∷ []) (pos 1 ∷ []) ≡ pos 0
unfolding weighted
half_goes_up = refl

pub less_than_half_goes_down : eighth (negsuc 4 ∷ []) (pos 1 ∷ []) ≡ negsuc 0
unfolding weighted
less_than_half_goes_down = refl

pub half_above_goes_up : eighth (pos 4 ∷ []) (pos 1 ∷ []) ≡ pos 1
unfolding weighted
half_above_goes_up = refl

pub constant_by_method_0 : eighth (filter_weights 0) (pos 100 ∷ []) ≡ negsuc 99
unfolding weighted
constant_by_method_0 = refl

pub line_by_method_1 : eighth (prob_weights 1) (pos 7 ∷ pos 4 ∷ []) ≡ negsuc 9
unfolding weighted
line_by_method_1 = refl

pub constant_by_method_2 : eighth (filter_weights 2) (pos 100 ∷ pos 100 ∷ pos 100 ∷ []) ≡ negsuc 99
unfolding weighted
constant_by_method_2 = refl

pub squares_by_method_2 : eighth (prob_weights 2) (pos 9 ∷ pos 4 ∷ pos 1 ∷ []) ≡ negsuc 15
unfolding weighted
squares_by_method_2 = refl

-- the sums themselves, of which each weight has its share
pub sum_by_filter_method_0 : weighted (filter_weights 0) (pos 7 ∷ []) ≡ negsuc 55
unfolding weighted
sum_by_filter_method_0 = refl

pub sum_by_filter_method_1 : weighted (filter_weights 1) (pos 7 ∷ pos 4 ∷ []) ≡ negsuc 79
unfolding weighted
sum_by_filter_method_1 = refl

pub sum_by_filter_method_2 : weighted (filter_weights 2) (pos 7 ∷ pos 4 ∷ pos 1 ∷ []) ≡ negsuc 76
unfolding weighted
sum_by_filter_method_2 = refl

pub sum_by_prob_method_0 : weighted (prob_weights 0) (pos 7 ∷ []) ≡ negsuc 55
unfolding weighted
sum_by_prob_method_0 = refl

pub sum_by_prob_method_1 : weighted (prob_weights 1) (pos 7 ∷ pos 4 ∷ []) ≡ negsuc 79
unfolding weighted
sum_by_prob_method_1 = refl

pub sum_by_prob_method_2 : weighted (prob_weights 2) (pos 9 ∷ pos 4 ∷ pos 1 ∷ []) ≡ negsuc 127
unfolding weighted
sum_by_prob_method_2 = refl
