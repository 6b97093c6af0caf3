-- The arithmetic code, worked out.
use Rattle.std.proofs.Common.{◌≡◌, ℕ, ◌++◌, Bool, true, false, List, [], ◌∷◌, ◌+◌, ◌*◌, refl, arith}
use Rattle.dst_spec.specs.Bits.{low_bits, bits, number_from, octets}
use Rattle.dst_spec.specs.Interval.{whole, doubled, narrowed, interval_from, interval, scale, code_number, IsCodeOf}
use Rattle.dst_spec.specs.Spell.{code_spelling}

-- a decoder's trace over the bits 0 1000 0000 0000 and zeros: the range after each symbol, and what the code has more
-- than the low end
pub after_one : narrowed whole (true, 128) ≡ record { low = 0; range = 2175; doublings = 0 }
unfolding doubled
after_one = refl

pub after_two : interval ((true, 128) ∷ (false, 128) ∷ []) ≡ record { low = 2302; range = 2048; doublings = 1 }
unfolding doubled interval_from
after_two = refl

abbrev three : List (Bool × ℕ)
three = (true, 128) ∷ (false, 128) ∷ (true, 1) ∷ []

pub after_three : interval three ≡ record { low = 4604; range = 4080; doublings = 2 }
unfolding doubled interval_from
after_three = refl

pub code_of_three : octets (code_spelling three) ≡ 35 ∷ 248 ∷ []
unfolding low_bits number_from octets doubled interval_from code_spelling
code_of_three = refl

-- with the twelve bits, the first code bit and the bits of the doublings a decoder has taken 15
pub bits_taken_by_three : 1 + 12 + (interval three).doublings ≡ 15
unfolding doubled interval_from
bits_taken_by_three = refl

-- the scale is the quotient by 256, or, where that is even, the quotient and bit 7
pub scale_of_whole : scale 4095 ≡ 15
scale_of_whole = refl

pub scale_of_half : scale 2048 ≡ 8
scale_of_half = refl

pub bit_7_makes_an_even_quotient_odd : scale 2176 ≡ 9
bit_7_makes_an_even_quotient_odd = refl

pub bit_7_leaves_an_odd_quotient : scale 2432 ≡ 9
bit_7_leaves_an_odd_quotient = refl

-- a range of 2047 is doubled, one of 2048 isn't
pub range_2047_is_doubled : narrowed (record { low = 0; range = 2055; doublings = 0 }) (true, 1) ≡ record { low = 0; range = 4094; doublings = 1 }
unfolding doubled
range_2047_is_doubled = refl

pub range_2048_is_not_doubled : narrowed (record { low = 0; range = 2056; doublings = 0 }) (true, 1) ≡ record { low = 0; range = 2048; doublings = 0 }
unfolding doubled
range_2048_is_not_doubled = refl

-- a symbol 0 of probability 1 leaves a range of 8, which doubles 8 times
pub eight_doublings : narrowed (record { low = 5; range = 2048; doublings = 3 }) (false, 1) ≡ record { low = (5 + 2040) * 256; range = 2048; doublings = 11 }
unfolding doubled
eight_doublings = refl

-- a range of 1, which no symbols of lawful probabilities leave, doubles 11 times
pub eleven_doublings : narrowed (record { low = 0; range = 1; doublings = 0 }) (true, 1) ≡ record { low = 0; range = 2048; doublings = 11 }
unfolding doubled
eleven_doublings = refl

abbrev more : List (Bool × ℕ)
more = (false, 128) ∷ []

pub after_four : interval (three ++ more) ≡ record { low = 13528; range = 3840; doublings = 3 }
unfolding doubled interval_from
after_four = refl

pub after_five : interval (three ++ more ++ more) ≡ record { low = 30896; range = 3840; doublings = 4 }
unfolding doubled interval_from
after_five = refl

pub after_six : interval (three ++ more ++ more ++ more) ≡ record { low = 65632; range = 3840; doublings = 5 }
unfolding doubled interval_from
after_six = refl

pub code_of_six : octets (code_spelling (three ++ more ++ more ++ more)) ≡ 64 ∷ 24 ∷ 0 ∷ []
unfolding low_bits number_from octets doubled interval_from code_spelling
code_of_six = refl

abbrev trace : List ℕ
trace = 0 ∷ 1 ∷ []

pub offset_after_one : code_number trace 0 0 ≡ 0 + 2048
unfolding number_from
offset_after_one = refl

pub offset_after_two : code_number trace 0 1 ≡ 2302 + 1794
unfolding number_from
offset_after_two = refl

pub offset_after_three : code_number trace 0 2 ≡ 4604 + 3588
unfolding number_from
offset_after_three = refl

pub trace_is_code_of_three : IsCodeOf trace 0 three
unfolding doubled interval_from number_from
trace_is_code_of_three = record { above = omega arith; below = omega arith }

-- what four of them have at the end of an encoder
pub code_of_four : octets (code_spelling (three ++ more)) ≡ 52 ∷ 216 ∷ []
unfolding low_bits number_from octets doubled interval_from code_spelling
code_of_four = refl

pub bits_taken_by_six : 1 + 12 + (interval (three ++ more ++ more ++ more)).doublings ≡ 18
unfolding doubled interval_from
bits_taken_by_six = refl

pub code_of_six_has_them : IsCodeOf (bits (64 ∷ 24 ∷ 0 ∷ [])) 0 (three ++ more ++ more ++ more)
unfolding doubled interval_from number_from bits low_bits
code_of_six_has_them = record { above = omega arith; below = omega arith }

-- where there are no bits, the code is 0
pub no_bits_have_one : IsCodeOf [] 0 ((true, 1) ∷ [])
unfolding doubled interval_from number_from
no_bits_have_one = record { above = omega arith; below = omega arith }

-- an interval has its low end, and not the end behind it: 2175 is the end of a first symbol 1 and the low end of a first 0
abbrev code_2174 : List ℕ
code_2174 = 0 ∷ 1 ∷ 0 ∷ 0 ∷ 0 ∷ 0 ∷ 1 ∷ 1 ∷ 1 ∷ 1 ∷ 1 ∷ 1 ∷ 0 ∷ []

abbrev code_2175 : List ℕ
code_2175 = 0 ∷ 1 ∷ 0 ∷ 0 ∷ 0 ∷ 0 ∷ 1 ∷ 1 ∷ 1 ∷ 1 ∷ 1 ∷ 1 ∷ 1 ∷ []

pub code_2174_has_symbol_1 : IsCodeOf code_2174 0 ((true, 128) ∷ [])
unfolding doubled interval_from number_from
code_2174_has_symbol_1 = record { above = omega arith; below = omega arith }

pub code_2175_has_not_symbol_1 : IsCodeOf code_2175 0 ((true, 128) ∷ []) → ⊥
unfolding doubled interval_from number_from
code_2175_has_not_symbol_1 h = omega (arith, h.below)

pub code_2174_has_not_symbol_0 : IsCodeOf code_2174 0 ((false, 128) ∷ []) → ⊥
unfolding doubled interval_from number_from
code_2174_has_not_symbol_0 h = omega (arith, h.above)

pub code_2175_has_symbol_0 : IsCodeOf code_2175 0 ((false, 128) ∷ [])
unfolding doubled interval_from number_from
code_2175_has_symbol_0 = record { above = omega arith; below = omega arith }

-- the number of a code in 13 bits begins behind the first code bit, here at place 2
pub number_of_thirteen_bits : code_number (1 ∷ 1 ∷ 0 ∷ 1 ∷ 0 ∷ 0 ∷ 0 ∷ 0 ∷ 0 ∷ 0 ∷ 0 ∷ 0 ∷ 0 ∷ 0 ∷ 1 ∷ 1 ∷ []) 2 1 ≡ 4099
unfolding number_from
number_of_thirteen_bits = refl
