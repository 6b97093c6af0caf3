-- Steps of made sound that no short piece of it reaches: bounds that bound, the new u in w, and the ends of what a random number gives.
use Rattle.std.proofs.Common.{◌≡◌, ℤ, pos, [], ◌∷◌, map, refl}
use Rattle.std.specs.Prelude.{neg_ℤ}
use Rattle.dsdiff_spec.specs.Made.{Wave, bounded, dither, phase, sample_of, level_of, next_wave}

abbrev wave : ℤ → ℤ → Wave
wave u w = record { u = u; w = w }

pub numbers_are_moved_to_the_nearer_bound :
    map bounded (pos 16777215 ∷ pos 16777216 ∷ pos 16777217 ∷ pos 20000000 ∷ neg_ℤ (pos 16777216) ∷ neg_ℤ (pos 16777217) ∷ [])
    ≡ pos 16777215 ∷ pos 16777216 ∷ pos 16777216 ∷ pos 16777216 ∷ neg_ℤ (pos 16777216) ∷ neg_ℤ (pos 16777216) ∷ []
numbers_are_moved_to_the_nearer_bound = refl

-- u is 100 + 16,000 - 32,768, and w is that and -50 - 32,768
pub step_within_the_bounds : next_wave (wave (pos 100) (neg_ℤ (pos 50))) (pos 16000) (pos 32768) ≡ wave (neg_ℤ (pos 16668)) (neg_ℤ (pos 49486))
step_within_the_bounds = refl

-- u would be 16,825,768, and w is its bound less 100,000 and 32,768 more; so downwards
pub step_past_the_upper_bound :
    next_wave (wave (pos 16777000) (neg_ℤ (pos 100000))) (pos 16000) (neg_ℤ (pos 32768)) ≡ wave (pos 16777216) (pos 16709984)
step_past_the_upper_bound = refl

pub step_past_the_lower_bound :
    next_wave (wave (neg_ℤ (pos 16777000)) (pos 100000)) (neg_ℤ (pos 16000)) (pos 32768) ≡ wave (neg_ℤ (pos 16777216)) (neg_ℤ (pos 16709984))
step_past_the_lower_bound = refl

-- w would be 16,777,216 and 32,768
pub w_is_bounded_too : next_wave (wave (pos 16777216) (pos 0)) (pos 0) (neg_ℤ (pos 32768)) ≡ wave (pos 16777216) (pos 16777216)
w_is_bounded_too = refl

pub dither_of_numbers : map dither (0 ∷ 4095 ∷ 4096 ∷ 6144 ∷ []) ≡ neg_ℤ (pos 2048) ∷ pos 2047 ∷ neg_ℤ (pos 2048) ∷ pos 0 ∷ []
dither_of_numbers = refl

pub sample_by_its_sign : map (sample_of (wave (pos 0) (pos 5))) (neg_ℤ (pos 5) ∷ neg_ℤ (pos 6) ∷ []) ≡ 1 ∷ 0 ∷ []
sample_by_its_sign = refl

pub level_by_the_sample : map level_of (1 ∷ 0 ∷ []) ≡ pos 32768 ∷ neg_ℤ (pos 32768) ∷ []
level_by_the_sample = refl

pub channels_are_800_apart : map (phase 6399) (0 ∷ 1 ∷ 5 ∷ []) ≡ 6399 ∷ 799 ∷ 3999 ∷ []
channels_are_800_apart = refl
