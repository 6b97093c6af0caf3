-- What is lawful and what isn't: shapes, sounds, tables, maps, spellings.
use Rattle.std.proofs.Common.{ℕ, zero, suc, inl, inr, pos, negsuc, nat_abs, [], ◌∷◌, get_or, replicate, refl, ap, arith}
use Rattle.std.proofs.lemmas.Int.{ints}
use Rattle.std.specs.Int.Signed.{le_z_yes}
use Rattle.std.specs.List.{AllByRecursion}
use Rattle.dst_spec.specs.Sample.{IsShape, IsSound}
use Rattle.dst_spec.specs.Table.{InRange, filter_kind, prob_kind, IsTable, coded, Suits}
use Rattle.dst_spec.specs.Map.{Numbers, IsMap}
use Rattle.dst_spec.proofs.Examples.{mono, channels_of, pair}

-- ---- shapes: 1 to 6 channels, 64, 128 or 256 times 44.1 kHz
pub mono_is_a_shape : IsShape (channels_of 1)
mono_is_a_shape = record { least = omega arith; most = omega arith; rate = inl refl }

pub six_channels_are_a_shape : IsShape (channels_of 6)
six_channels_are_a_shape = record { least = omega arith; most = omega arith; rate = inl refl }

pub no_channel_is_no_shape : IsShape (channels_of 0) → ⊥
no_channel_is_no_shape h = omega (arith, h.least)

pub seven_channels_are_no_shape : IsShape (channels_of 7) → ⊥
seven_channels_are_no_shape h = omega (arith, h.most)

pub double_rate : IsShape (mono 9408)
double_rate = record { least = omega arith; most = omega arith; rate = inr (inl refl) }

pub fourfold_rate : IsShape (mono 18816)
fourfold_rate = record { least = omega arith; most = omega arith; rate = inr (inr refl) }

-- ---- sounds
pub sound_of_a_pair : IsSound pair (255 ∷ 0 ∷ [])
sound_of_a_pair = record { long = refl; bytes = (omega arith, (omega arith, tt)) }

pub one_byte_is_no_sound_of_a_pair : IsSound pair (255 ∷ []) → ⊥
one_byte_is_no_sound_of_a_pair h = omega (arith, h.long)

-- ---- values
pub least_coefficient : InRange filter_kind (negsuc 255)
least_coefficient = (le_z_yes tt, le_z_yes tt)

pub greatest_coefficient : InRange filter_kind (pos 255)
greatest_coefficient = (le_z_yes tt, le_z_yes tt)

pub coefficient_minus_257 : InRange filter_kind (negsuc 256) → ⊥
coefficient_minus_257 h = omega (arith, ints, h.0)

pub coefficient_256 : InRange filter_kind (pos 256) → ⊥
coefficient_256 h = omega (arith, ints, h.1)

pub least_probability : InRange prob_kind (pos 1)
least_probability = (le_z_yes tt, le_z_yes tt)

pub greatest_probability : InRange prob_kind (pos 128)
greatest_probability = (le_z_yes tt, le_z_yes tt)

pub probability_0 : InRange prob_kind (pos 0) → ⊥
probability_0 h = omega (arith, ints, h.0)

pub probability_129 : InRange prob_kind (pos 129) → ⊥
probability_129 h = omega (arith, ints, h.1)

-- ---- tables: 1 to 128 coefficients, 1 to 64 probabilities; one probability is 128
zeros_in_range : (n : ℕ) → AllByRecursion (InRange filter_kind) (replicate n (pos 0))
zeros_in_range zero = tt
zeros_in_range (suc n) = ((le_z_yes tt, le_z_yes tt), zeros_in_range n)

ones_in_range : (n : ℕ) → AllByRecursion (InRange prob_kind) (replicate n (pos 1))
ones_in_range zero = tt
ones_in_range (suc n) = ((le_z_yes tt, le_z_yes tt), ones_in_range n)

pub filter_of_128 : IsTable filter_kind (replicate 128 (pos 0))
filter_of_128 = record { least = omega arith; most = omega arith; each = zeros_in_range 128; alone = λ e f. absurd (omega (arith, f)) }

pub filter_of_129 : IsTable filter_kind (replicate 129 (pos 0)) → ⊥
filter_of_129 h = omega (arith, h.most)

pub filter_of_none : IsTable filter_kind [] → ⊥
filter_of_none h = omega (arith, h.least)

pub filter_of_one : IsTable filter_kind (pos 0 ∷ [])
filter_of_one = record { least = omega arith; most = omega arith; each = zeros_in_range 1; alone = λ e. absurd cc }

pub probs_of_64 : IsTable prob_kind (replicate 64 (pos 1))
probs_of_64 = record { least = omega arith; most = omega arith; each = ones_in_range 64; alone = λ e f. absurd (omega (arith, f)) }

pub probs_of_65 : IsTable prob_kind (replicate 65 (pos 1)) → ⊥
probs_of_65 h = omega (arith, h.most)

pub one_probability_128 : IsTable prob_kind (pos 128 ∷ [])
one_probability_128 = record { least = omega arith; most = omega arith; each = ((le_z_yes tt, le_z_yes tt), tt); alone = λ e f. refl }

pub one_probability_127 : IsTable prob_kind (pos 127 ∷ []) → ⊥
one_probability_127 h = omega (arith, ap (λ vs. nat_abs (get_or vs 0 (pos 0))) (h.alone refl refl))

-- ---- spellings: methods 0 to 2 of more values than the method's number, m from 0 to 7
pub method_2_of_three_values : Suits filter_kind (replicate 3 (pos 0)) (coded 2 7)
method_2_of_three_values = (refl, omega arith, omega arith, omega arith)

pub method_2_of_two_values : Suits filter_kind (replicate 2 (pos 0)) (coded 2 0) → ⊥
method_2_of_two_values h = omega (arith, h.2)

pub method_3 : Suits filter_kind (replicate 8 (pos 0)) (coded 3 0) → ⊥
method_3 h = omega (arith, h.1)

pub m_of_8 : Suits filter_kind (replicate 8 (pos 0)) (coded 0 8) → ⊥
m_of_8 h = omega (arith, h.3)

pub one_probability_is_not_coded : Suits prob_kind (pos 128 ∷ []) (coded 0 0) → ⊥
one_probability_is_not_coded h = let e = h.0 in absurd cc

-- ---- maps: the first element is 0, each later one one of those before it or the next
pub map_of_new_elements : IsMap 3 (0 ∷ 1 ∷ 2 ∷ [])
unfolding Numbers
map_of_new_elements = (refl, (omega arith, (omega arith, (omega arith, tt))))

pub map_of_old_elements : IsMap 4 (0 ∷ 1 ∷ 0 ∷ 2 ∷ [])
unfolding Numbers
map_of_old_elements = (refl, (omega arith, (omega arith, (omega arith, (omega arith, tt)))))

pub map_that_begins_with_1 : IsMap 1 (1 ∷ []) → ⊥
unfolding Numbers
map_that_begins_with_1 h = omega (arith, h.1.0)

pub map_that_skips_1 : IsMap 2 (0 ∷ 2 ∷ []) → ⊥
unfolding Numbers
map_that_skips_1 h = omega (arith, h.1.1.0)

-- behind 0, 1, 0 the next new element is 2
pub map_that_skips_2 : IsMap 4 (0 ∷ 1 ∷ 0 ∷ 3 ∷ []) → ⊥
unfolding Numbers
map_that_skips_2 h = omega (arith, h.1.1.1.1.0)
