-- Correlations, the recursion, scales, counts and candidates, worked out.
use Rattle.std.proofs.Common.{◌≡◌, ℕ, ◌+◌, ◌^◌, pos, negsuc, neg_ℤ, true, false, List, [], ◌∷◌, ◌++◌, ◌==◌, if◌then◌else◌, length, map, replicate, get_or, refl}
use Rattle.std.specs.Prelude.{⊤}
use Rattle.dst_spec.specs.Sample.{Shape}
use Rattle.dst_spec.specs.Guess.{sum_before}
use Rattle.level_spec.specs.Correlation.{sum_over, correlation, joint_correlation, correlations}
use Rattle.level_spec.specs.Recursion.{begin, left_over, reflection, moved, stops, fallen, step, after, solution}
use Rattle.level_spec.specs.Scale.{coefficient, scale, last_place, quantised}
use Rattle.level_spec.specs.Counts.{place, is_wrong, count_from, total, wrong, entry, table_of, counted}
use Rattle.level_spec.specs.Picks.{filter_for, per_channel, shared, level_picks}

-- one channel of so many bytes, and two channels of one byte
abbrev pub mono : ℕ → Shape
mono n = record { channels = 1; octets = n }

abbrev pub pair : Shape
pair = record { channels = 2; octets = 1 }

unfoldable pub sums_open : ⊤
unfolding sum_over joint_correlation
sums_open = tt

unfoldable pub recursion_open : ⊤
unfolding sum_over begin left_over reflection moved stops fallen step after solution
recursion_open = tt

unfoldable pub picks_open : ⊤
unfolding sum_over joint_correlation begin left_over reflection moved stops fallen step after solution scale last_place quantised sum_before count_from
    counted filter_for per_channel shared
picks_open = tt

unfoldable pub counts_open : ⊤
unfolding sum_before last_place count_from counted
counts_open = tt

-- eight samples 1 agree with those before them; of 1 and 0 in turn those one place apart differ, and those two places apart agree
pub ones_at_lags_0_1_and_7 : map (correlation (mono 1) (255 ∷ []) 0) (0 ∷ 1 ∷ 7 ∷ 8 ∷ []) ≡ pos 8 ∷ pos 7 ∷ pos 1 ∷ pos 0 ∷ []
unfolding sums_open
ones_at_lags_0_1_and_7 = refl

pub turns_at_lags_0_1_and_2 : map (correlation (mono 1) (170 ∷ []) 0) (0 ∷ 1 ∷ 2 ∷ []) ≡ pos 8 ∷ negsuc 6 ∷ pos 6 ∷ []
unfolding sums_open
turns_at_lags_0_1_and_2 = refl

-- one 1 and seven 0: the first sample is taken with none before the frame
pub first_sample_has_none_before : correlation (mono 1) (128 ∷ []) 0 1 ≡ pos 5
unfolding sums_open
first_sample_has_none_before = refl

-- channels together: 7 of the one and -7 of the other
pub second_channel_alone : joint_correlation pair (255 ∷ 170 ∷ []) (1 ∷ []) 1 ≡ negsuc 6
unfolding sums_open
second_channel_alone = refl

pub two_channels_together : map (joint_correlation pair (255 ∷ 170 ∷ []) (0 ∷ 1 ∷ [])) (0 ∷ 1 ∷ 2 ∷ []) ≡ pos 16 ∷ pos 0 ∷ pos 12 ∷ []
unfolding sums_open
two_channels_together = refl

-- lags 0 to 128: of seventeen bytes of ones, 136 samples, eight are 128 places behind others
pub lags_to_128 : (length (correlations (mono 17) (replicate 17 255) (0 ∷ [])) ≡ 129)
    × (get_or (correlations (mono 17) (replicate 17 255) (0 ∷ [])) 128 (pos 0) ≡ pos 8)
unfolding sums_open
lags_to_128 = (refl, refl)

-- the recursion begins with R(0) and 24 fraction bits
pub begins_with_24_bits : (begin (pos 4 ∷ [])).error ≡ pos 67108864
unfolding recursion_open
begins_with_24_bits = refl

pub order_1_of_4_2 : after (pos 4 ∷ pos 2 ∷ []) 1 ≡ record { error = pos 50331648; values = pos 8388608 ∷ [] }
unfolding recursion_open
order_1_of_4_2 = refl

pub order_2_of_4_2_1 : after (pos 4 ∷ pos 2 ∷ pos 1 ∷ []) 2 ≡ record { error = pos 50331648; values = pos 8388608 ∷ pos 0 ∷ [] }
unfolding recursion_open
order_2_of_4_2_1 = refl

-- -1 for the third one: the next value is -0.5, and the first one grows by half of itself
pub order_2_of_4_2_less_1 : after (pos 4 ∷ pos 2 ∷ negsuc 0 ∷ []) 2 ≡ record { error = pos 27962028; values = pos 13981014 ∷ negsuc 11184810 ∷ [] }
unfolding recursion_open
order_2_of_4_2_less_1 = refl

-- a third of -16,777,216, rounded down, and what is left, rounded down
pub rounded_down : after (pos 3 ∷ negsuc 0 ∷ []) 1 ≡ record { error = pos 44739243; values = negsuc 5592405 ∷ [] }
unfolding recursion_open
rounded_down = refl

-- 1 is too great a value, and so is -1; one fraction less is not
pub one_stops : solution (pos 4 ∷ pos 4 ∷ []) 1 ≡ pos 0 ∷ []
unfolding recursion_open
one_stops = refl

pub minus_one_stops : solution (pos 4 ∷ negsuc 3 ∷ []) 1 ≡ pos 0 ∷ []
unfolding recursion_open
minus_one_stops = refl

pub less_than_one_goes_on : solution (pos 16777216 ∷ pos 16777215 ∷ []) 1 ≡ pos 16777215 ∷ []
unfolding recursion_open
less_than_one_goes_on = refl

-- after a stop all stays, also where a later correlation would go on
pub a_stop_ends : solution (pos 4 ∷ pos 4 ∷ pos 1 ∷ []) 2 ≡ pos 0 ∷ pos 0 ∷ []
unfolding recursion_open
a_stop_ends = refl

-- a value of 2 ^ 40 goes on, a greater one stops
pub a_value_of_40_bits_goes_on : (step (pos 4 ∷ []) (record { error = pos 9; values = pos (2 ^ 40) ∷ [] })).values ≡ pos (2 ^ 40) ∷ pos 0 ∷ []
unfolding recursion_open
a_value_of_40_bits_goes_on = refl

pub a_greater_value_stops : (step (pos 4 ∷ []) (record { error = pos 9; values = neg_ℤ (pos (2 ^ 40 + 1)) ∷ [] })).values ≡ neg_ℤ (pos (2 ^ 40 + 1)) ∷ []
unfolding recursion_open
a_greater_value_stops = refl

-- 0.5 is 128 at the greatest scale, and the zero behind it goes
pub a_half_is_128 : quantised (pos 8388608 ∷ pos 0 ∷ []) ≡ pos 128 ∷ []
unfolding scale last_place quantised
a_half_is_128 = refl

pub one_is_128_at_scale_7 : (scale 8 (pos 16777216 ∷ []) ≡ 7) × (quantised (pos 16777216 ∷ []) ≡ pos 128 ∷ [])
unfolding scale last_place quantised
one_is_128_at_scale_7 = (refl, refl)

pub minus_one_is_minus_256 : (scale 8 (negsuc 16777215 ∷ []) ≡ 8) × (quantised (negsuc 16777215 ∷ []) ≡ negsuc 255 ∷ [])
unfolding scale last_place quantised
minus_one_is_minus_256 = (refl, refl)

pub nothing_is_one_zero : quantised (pos 0 ∷ pos 0 ∷ []) ≡ pos 0 ∷ []
unfolding scale last_place quantised
nothing_is_one_zero = refl

-- a zero in front of a coefficient stays
pub zero_in_front_stays : quantised (pos 0 ∷ pos 8388608 ∷ pos 0 ∷ pos 0 ∷ []) ≡ pos 0 ∷ pos 128 ∷ []
unfolding scale last_place quantised
zero_in_front_stays = refl

-- rounded at a half of the last place, upward
pub rounded_at_a_half : map (coefficient 8) (pos 32767 ∷ pos 32768 ∷ negsuc 32767 ∷ negsuc 32768 ∷ []) ≡ pos 0 ∷ pos 1 ∷ pos 0 ∷ negsuc 0 ∷ []
rounded_at_a_half = refl

-- 256 and -257 need a lesser scale, 255 and -256 don't
pub bounds_of_scale_8 : map (λ a. scale 8 (a ∷ [])) (pos 16744447 ∷ pos 16744448 ∷ negsuc 16809983 ∷ negsuc 16809984 ∷ []) ≡ 8 ∷ 7 ∷ 8 ∷ 7 ∷ []
unfolding scale
bounds_of_scale_8 = refl

-- where no scale serves, it is 0, and the coefficient is the nearer bound
pub too_great_for_any_scale : (scale 8 (pos (2 ^ 40) ∷ []) ≡ 0)
    × (quantised (pos (2 ^ 40) ∷ pos (2 ^ 24) ∷ neg_ℤ (pos (2 ^ 40)) ∷ []) ≡ pos 255 ∷ pos 1 ∷ negsuc 255 ∷ [])
unfolding scale last_place quantised
too_great_for_any_scale = (refl, refl)

-- places of eight sizes each, at most 63
pub places_of_sizes : map (λ a. place (mono 1) [] 0 (a ∷ []) 0) (pos 7 ∷ pos 8 ∷ negsuc 7 ∷ pos 255 ∷ negsuc 255 ∷ []) ≡ 0 ∷ 1 ∷ 1 ∷ 31 ∷ 32 ∷ []
unfolding counts_open
places_of_sizes = refl

pub places_62_and_63 : map (λ coefs. place (mono 1) [] 0 coefs 0)
    ((negsuc 254 ∷ pos 248 ∷ []) ∷ (negsuc 254 ∷ pos 249 ∷ []) ∷ (negsuc 254 ∷ pos 255 ∷ negsuc 254 ∷ []) ∷ []) ≡ 62 ∷ 63 ∷ 63 ∷ []
unfolding counts_open
places_62_and_63 = refl

-- where the prediction is 0 the guess is 1
pub guess_of_0_is_1 : (is_wrong (mono 1) (128 ∷ []) 0 (pos 0 ∷ []) 0 ≡ false) × (is_wrong (mono 1) (128 ∷ []) 0 (pos 0 ∷ []) 1 ≡ true)
unfolding counts_open
guess_of_0_is_1 = (refl, refl)

pub guess_below_0_is_0 : (is_wrong (mono 1) (128 ∷ []) 0 (negsuc 0 ∷ []) 1 ≡ false) × (is_wrong (mono 1) (128 ∷ []) 0 (negsuc 0 ∷ []) 2 ≡ true)
unfolding counts_open
guess_below_0_is_0 = (refl, refl)

-- of samples 1, 0, 0, 1, 1, 1, 0, 0 by the one before: seven are counted, three of them wrong
pub first_sample_is_not_counted : (total (mono 1) (156 ∷ []) (0 ∷ []) (pos 1 ∷ []) 0 ≡ 7) × (wrong (mono 1) (156 ∷ []) (0 ∷ []) (pos 1 ∷ []) 0 ≡ 3)
unfolding counts_open
first_sample_is_not_counted = (refl, refl)

pub two_channels_are_counted : (total pair (156 ∷ 255 ∷ []) (0 ∷ 1 ∷ []) (pos 1 ∷ []) 0 ≡ 14) × (wrong pair (156 ∷ 255 ∷ []) (0 ∷ 1 ∷ []) (pos 1 ∷ []) 0 ≡ 3)
unfolding counts_open
two_channels_are_counted = (refl, refl)

pub table_of_eight_samples : counted (mono 1) (156 ∷ []) (0 ∷ []) (pos 1 ∷ []) ≡ 110 ∷ 128 ∷ []
unfolding counts_open
table_of_eight_samples = refl

pub entry_of_3_in_10 : entry 10 3 ≡ 77
entry_of_3_in_10 = refl

pub entry_of_0_in_10 : entry 10 0 ≡ 1
entry_of_0_in_10 = refl

pub entry_of_1_in_1 : entry 1 1 ≡ 128
entry_of_1_in_1 = refl

pub entry_of_nothing : entry 0 0 ≡ 128
entry_of_nothing = refl

-- rounded: 25.6 is 26, 51.2 is 51, and 38.5 is 39
pub entries_are_rounded : (entry 10 1 ≡ 26) × (entry 10 2 ≡ 51) × (entry 512 77 ≡ 39)
entries_are_rounded = (refl, refl, refl)

-- a table has the last place with a sample, and two entries at least
pub table_to_the_last_place : table_of (λ p. if p == 0 then 10 else (if p == 3 then 4 else 0)) (λ p. 1) ≡ 26 ∷ 128 ∷ 128 ∷ 64 ∷ []
unfolding last_place
table_to_the_last_place = refl

pub table_to_place_63 : length (table_of (λ p. p) (λ p. 0)) ≡ 64
unfolding last_place
table_to_place_63 = refl

-- candidates: two channels of eight samples, by filters of order 2
pub for_each_channel : per_channel pair (255 ∷ 170 ∷ []) 2 ≡ record {
  filter_map = 0 ∷ 1 ∷ [];
  prob_map = 0 ∷ 1 ∷ [];
  half_prob = true ∷ true ∷ [];
  filters = (pos 239 ∷ negsuc 16 ∷ []) ∷ (negsuc 238 ∷ negsuc 16 ∷ []) ∷ [];
  probs = (replicate 27 128 ++ 1 ∷ []) ∷ (replicate 27 128 ++ 1 ∷ []) ∷ [];
}
unfolding picks_open
for_each_channel = refl

pub for_both_channels : shared pair (255 ∷ 170 ∷ []) 2 ≡ record {
  filter_map = 0 ∷ 0 ∷ [];
  prob_map = 0 ∷ 0 ∷ [];
  half_prob = true ∷ true ∷ [];
  filters = (pos 0 ∷ pos 192 ∷ []) ∷ [];
  probs = (replicate 24 128 ++ 1 ∷ []) ∷ [];
}
unfolding picks_open
for_both_channels = refl

pub level_0_has_none : (sound : List ℕ) (f : Shape) → level_picks 0 sound f ≡ []
unfolding level_picks
level_0_has_none sound f = refl

pub level_1_has_order_32 : (sound : List ℕ) (f : Shape) → level_picks 1 sound f ≡ per_channel f sound 32 ∷ []
unfolding level_picks
level_1_has_order_32 sound f = refl

pub level_2_has_all_orders : (sound : List ℕ) (f : Shape) → level_picks 2 sound f ≡
    per_channel f sound 16 ∷ per_channel f sound 32 ∷ per_channel f sound 64 ∷ per_channel f sound 128
    ∷ shared f sound 16 ∷ shared f sound 32 ∷ shared f sound 64 ∷ shared f sound 128 ∷ []
unfolding level_picks
level_2_has_all_orders sound f = refl
