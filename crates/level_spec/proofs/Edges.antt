-- Numbers of the definitions, each at its edge: scales, last places, sizes, steps of refining, roundings.
use Rattle.std.proofs.Common.{◌≡◌, ℕ, ◌+◌, ◌*◌, ◌^◌, ◌==◌, pos, negsuc, neg_ℤ, true, false, ℤ, List, [], ◌∷◌}
use Rattle.std.proofs.Common.{Some, None, if◌then◌else◌, map, length, replicate, refl}
use Rattle.dst_spec.specs.Table.{filter_kind, prob_kind}
use Rattle.dst_spec.specs.Sample.{Shape}
use Rattle.dst_spec.specs.Guess.{sum_before}
use Rattle.level_spec.specs.Correlation.{sum_over, correlations}
use Rattle.level_spec.specs.Recursion.{State, lag}
use Rattle.level_spec.specs.Scale.{last_place, scale, quantised}
use Rattle.level_spec.specs.Counts.{place, is_wrong, count_from, total, wrong, table_of, counted}
use Rattle.level_spec.specs.Rows.{row_stops, rows}
use Rattle.level_spec.specs.Solving.{left_by, growth, grown, is_unsolved, solved}
use Rattle.level_spec.specs.Fitting.{greatest, rounding, fed_back, fit_down, fitted}
use Rattle.level_spec.specs.Size.{shortened, sum_below, next_digit, digits_after, bits_of, spelled_bits, size}
use Rattle.level_spec.specs.Refining.{agreement, power, weight, gradient, pull, target, moved_by, next_filter, short_table, filter_size}
use Rattle.level_spec.specs.Picks.{refined_shared, refined_own, refined_own_with_one_table}
use Rattle.level_spec.proofs.Examples.{mono, pair}

-- 0.25 is 64 at scale 8, which is the greatest, and would be 128 at scale 9
pub a_quarter_is_64 : quantised (pos 4194304 ∷ []) ≡ pos 64 ∷ []
unfolding scale last_place quantised
a_quarter_is_64 = refl

-- a last place with one sample has an entry
pub table_to_a_place_with_one_sample : table_of (λ p. if p == 0 then 10 else (if p == 3 then 1 else 0)) (λ p. if p == 0 then 1 else 0) ≡ 26 ∷ 128 ∷ 128 ∷ 1 ∷ []
unfolding last_place
table_to_a_place_with_one_sample = refl

-- ten samples at place 63, three of them wrong, and seven at place 64, which is none
abbrev pub at_the_last : ℕ → ℕ
at_the_last p = if p == 63 then 10 else (if p == 64 then 7 else 0)

abbrev pub wrong_at_the_last : ℕ → ℕ
wrong_at_the_last p = if p == 63 then 3 else 0

-- the middle of place 63 is 508: four times it, and ten times its square
pub place_63_is_the_last_of_a_step : (agreement at_the_last wrong_at_the_last ≡ pos 2032) × (power at_the_last ≡ pos 2580640)
unfolding sum_over agreement power
place_63_is_the_last_of_a_step = (refl, refl)

-- three symbols of 32,768 and seven of 24
pub place_63_is_the_last_of_a_size : size (pos 10 ∷ []) 2 at_the_last wrong_at_the_last (77 ∷ 1 ∷ [])
    ≡ 4096 * (spelled_bits filter_kind (pos 10 ∷ []) + spelled_bits prob_kind (pos 77 ∷ pos 1 ∷ []) + 2) + 98472
unfolding sum_below next_digit digits_after bits_of last_place size
place_63_is_the_last_of_a_size = refl

-- of 129 coefficients and values 128 are taken, each coefficient with 24 fraction bits
pub target_of_128_places : target (replicate 129 (pos 1)) (replicate 129 (pos 3)) ≡ replicate 128 (pos 16777219)
target_of_128_places = refl

-- the error of 0.75 is a quarter; those of 300 and -300, of which 255 and -256 are the nearest, are 1 in size at most
pub rounding_is_at_most_1 : map rounding (pos 12582912 ∷ pos (300 * 2 ^ 24) ∷ neg_ℤ (pos (300 * 2 ^ 24)) ∷ [])
    ≡ pos 4194304 ∷ negsuc 16777215 ∷ pos 16777216 ∷ []
rounding_is_at_most_1 = refl

-- a value of 1 stops a row, and so does -1; one fraction less goes on
pub one_stops_a_row : (map (λ f. row_stops (pos 4 ∷ []) f (pos 4) []) (pos 16777215 ∷ negsuc 16777214 ∷ []) ≡ false ∷ false ∷ [])
    × (map (λ f. row_stops (pos 4 ∷ []) f (pos 4) []) (pos 16777216 ∷ negsuc 16777215 ∷ []) ≡ true ∷ true ∷ [])
unfolding row_stops
one_stops_a_row = (refl, refl)

-- at place 127 a value grows by 2 ^ 65 and there is no answer; at place 128 none is solved, and all values stay 0
abbrev pub rows_past_the_last : List State
rows_past_the_last = replicate 129 (record { error = pos 1; values = [] })

pub step_of_128_places : (moved_by (pos 4) rows_past_the_last (pos 1) (pos 1) (λ j. if j == 127 then pos 1 else pos 0) [] ≡ None)
    × (moved_by (pos 4) rows_past_the_last (pos 1) (pos 1) (λ j. if j == 128 then pos 1 else pos 0) [] ≡ Some (pos 0 ∷ []))
unfolding sum_over last_place left_by growth grown is_unsolved solved greatest fed_back fit_down fitted pull moved_by
step_of_128_places = (refl, refl)

-- of samples 1, 0, 0, 1, 1, 1, 0, 0 and eight samples 1 by the one before fourteen are counted, three of them wrong: three symbols of
-- 9,088 and eleven of 1,430, and a bit for the first sample of each channel
pub size_of_two_channels : filter_size pair (156 ∷ 255 ∷ []) (0 ∷ 1 ∷ []) (pos 1 ∷ [])
    ≡ 4096 * (spelled_bits filter_kind (pos 1 ∷ []) + spelled_bits prob_kind (pos 55 ∷ pos 128 ∷ []) + 2) + 42994
unfolding sum_before count_from counted shortened sum_below next_digit digits_after bits_of last_place size short_table filter_size
size_of_two_channels = refl

-- the next filter by 128 rows and R(0); the samples behind the filter's first ones are taken by their weights
pub next_filter_by_128_rows : (f : Shape) (sound channels : List ℕ) (coefs : List ℤ) → next_filter f sound channels coefs ≡
    moved_by (lag (correlations f sound channels) 0) (rows (correlations f sound channels) 128)
    (agreement (total f sound channels coefs) (wrong f sound channels coefs)) (power (total f sound channels coefs))
    (gradient f sound (λ c t. weight (total f sound channels coefs) (wrong f sound channels coefs) (place f sound c coefs t) (is_wrong f sound c coefs t))
    (length coefs) channels) coefs
unfolding next_filter
next_filter_by_128_rows f sound channels coefs = refl

-- of samples 1, 0, 0, 1, 1, 1, 0, 0 by the second one before six are counted, five of them wrong, and there is no next filter
pub no_next_filter : next_filter (mono 1) (156 ∷ []) (0 ∷ []) (pos 0 ∷ pos 1 ∷ []) ≡ None
unfolding sum_over sum_before count_from agreement power moved_by next_filter
no_next_filter = refl

-- maps and half bits of refined parameters of two channels
pub maps_of_a_shared_filter : (sound : List ℕ) → ((refined_shared pair sound).filter_map ≡ 0 ∷ 0 ∷ [])
    × ((refined_shared pair sound).prob_map ≡ 0 ∷ 0 ∷ []) × ((refined_shared pair sound).half_prob ≡ true ∷ true ∷ [])
unfolding refined_shared
maps_of_a_shared_filter sound = (refl, refl, refl)

pub maps_of_own_filters : (sound : List ℕ) → ((refined_own pair sound).filter_map ≡ 0 ∷ 1 ∷ [])
    × ((refined_own pair sound).prob_map ≡ 0 ∷ 1 ∷ []) × ((refined_own pair sound).half_prob ≡ true ∷ true ∷ [])
unfolding refined_own
maps_of_own_filters sound = (refl, refl, refl)

pub maps_of_own_filters_with_one_table : (sound : List ℕ) → ((refined_own_with_one_table pair sound).filter_map ≡ 0 ∷ 1 ∷ [])
    × ((refined_own_with_one_table pair sound).prob_map ≡ 0 ∷ 0 ∷ []) × ((refined_own_with_one_table pair sound).half_prob ≡ true ∷ true ∷ [])
unfolding refined_own_with_one_table
maps_of_own_filters_with_one_table sound = (refl, refl, refl)
