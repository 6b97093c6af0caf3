-- The least spellings of tables, worked out.
use Rattle.std.proofs.Common.{◌≡◌, pos, negsuc, [], ◌∷◌, length, replicate, refl}
use Rattle.dst_spec.specs.Table.{filter_kind, prob_kind, plain, coded, table_bits}
use Rattle.dst_spec.specs.Spell.{shortest}
use Rattle.dst_spec.proofs.Examples.{tables_open}

pub zeros_by_method_0 : shortest filter_kind (replicate 128 (pos 0)) ≡ coded 0 0
unfolding tables_open
zeros_by_method_0 = refl

pub zeros_take_149 : length (table_bits filter_kind (replicate 128 (pos 0)) (coded 0 0)) ≡ 149
unfolding tables_open
zeros_take_149 = refl

pub two_of_128_by_method_0 : shortest prob_kind (pos 128 ∷ pos 128 ∷ []) ≡ coded 0 0
unfolding tables_open
two_of_128_by_method_0 = refl

pub two_of_128_take_20 : length (table_bits prob_kind (pos 128 ∷ pos 128 ∷ []) (coded 0 0)) ≡ 20
unfolding tables_open
two_of_128_take_20 = refl

pub two_of_1_by_method_0 : shortest prob_kind (pos 1 ∷ pos 1 ∷ []) ≡ coded 0 0
unfolding tables_open
two_of_1_by_method_0 = refl

pub two_of_1_take_20 : length (table_bits prob_kind (pos 1 ∷ pos 1 ∷ []) (coded 0 0)) ≡ 20
unfolding tables_open
two_of_1_take_20 = refl

pub one_of_128_is_plain : shortest prob_kind (pos 128 ∷ []) ≡ plain
unfolding tables_open
one_of_128_is_plain = refl

-- each method can be the least: method 1 with 10, 20, 30, method 2 with 12, 29, 37, 36
pub line_by_method_1 : shortest filter_kind (pos 10 ∷ pos 20 ∷ pos 30 ∷ []) ≡ coded 1 0
unfolding tables_open
line_by_method_1 = refl

pub curve_by_method_2 : shortest prob_kind (pos 12 ∷ pos 29 ∷ pos 37 ∷ pos 36 ∷ []) ≡ coded 2 0
unfolding tables_open
curve_by_method_2 = refl

-- far apart, so that m is 6
pub far_apart_by_6 : shortest filter_kind (pos 59 ∷ pos 110 ∷ negsuc 61 ∷ negsuc 105 ∷ negsuc 54 ∷ negsuc 22 ∷ pos 38 ∷ pos 20 ∷ pos 77 ∷ []) ≡ coded 0 6
unfolding tables_open
far_apart_by_6 = refl

-- of equally short ones the first: plain before coded, method 0 before 1, the lesser m
pub plain_before_coded : shortest filter_kind (pos 1 ∷ pos 3 ∷ []) ≡ plain
unfolding tables_open
plain_before_coded = refl

pub it_is_as_short_by_method_0 : length (table_bits filter_kind (pos 1 ∷ pos 3 ∷ []) (coded 0 0)) ≡ length (table_bits filter_kind (pos 1 ∷ pos 3 ∷ []) plain)
unfolding tables_open
it_is_as_short_by_method_0 = refl

pub method_0_before_1 : shortest prob_kind (pos 54 ∷ pos 52 ∷ pos 50 ∷ []) ≡ coded 0 0
unfolding tables_open
method_0_before_1 = refl

pub lesser_m_first : shortest filter_kind (negsuc 17 ∷ negsuc 11 ∷ negsuc 5 ∷ []) ≡ coded 0 2
unfolding tables_open
lesser_m_first = refl

-- a method 3 that had four values plain would be shorter here, but there is none
pub no_method_3 : shortest filter_kind (negsuc 23 ∷ negsuc 28 ∷ pos 24 ∷ negsuc 13 ∷ pos 22 ∷ []) ≡ plain
unfolding tables_open
no_method_3 = refl
