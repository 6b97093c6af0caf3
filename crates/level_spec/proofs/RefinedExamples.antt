-- Refined filters, worked out: rows, solving, fitting, sizes, steps.
use Rattle.std.proofs.Common.{◌≡◌, ℕ, ◌+◌, ◌-◌, ◌*◌, ◌^◌, nat_lt, ◌==◌, ℤ, pos, negsuc, neg_ℤ, true}
use Rattle.std.proofs.Common.{false, ◌+ℤ◌, nat_abs, List, [], ◌∷◌, ◌++◌, if◌then◌else◌, map, get_or, Option, Some, None, refl}
use Rattle.std.specs.Prelude.{⊤}
use Rattle.dst_spec.specs.Sample.{Shape}
use Rattle.dst_spec.specs.Table.{filter_kind, prob_kind}
use Rattle.level_spec.specs.Correlation.{sum_over, correlations}
use Rattle.level_spec.specs.Recursion.{State, left_over, reflection, moved, fallen}
use Rattle.level_spec.specs.Scale.{last_place}
use Rattle.level_spec.specs.Counts.{table_of}
use Rattle.level_spec.specs.Rows.{first_row, row_stops, next_row, row_after, rows, row_solution}
use Rattle.level_spec.specs.Solving.{left_by, growth, grown, is_unsolved, solved}
use Rattle.level_spec.specs.Fitting.{greatest, fed_back, fit_down, fitted}
use Rattle.level_spec.specs.Size.{shortened, sum_below, next_digit, digits_after, bits_of, spelled_bits, size}
use Rattle.level_spec.specs.Refining.{agreement, power, weight, pull, target, moved_by, gradient, refine, refined_from, first_filter}
use Rattle.level_spec.specs.Picks.{channels_of, refined_together, refined_alone, refined_shared, refined_own, sum_of, refined_own_with_one_table, level_picks}

unfoldable pub rows_open : ⊤
unfolding sum_over left_over reflection moved fallen first_row row_stops next_row row_after rows row_solution
rows_open = tt

unfoldable pub solving_open : ⊤
unfolding sum_over left_over reflection moved fallen first_row row_stops next_row row_after rows left_by growth grown is_unsolved solved
solving_open = tt

-- the recursion begins with 64 more than 24 fraction bits of R(0)
pub rows_of_4_2_1 : rows (pos 4 ∷ pos 2 ∷ pos 1 ∷ []) 2 ≡ record { error = pos 67109120; values = [] }
    ∷ record { error = pos 50331969; values = pos 8388576 ∷ [] } ∷ []
unfolding rows_open
rows_of_4_2_1 = refl

pub solution_of_4_2_1 : row_solution (pos 4 ∷ pos 2 ∷ pos 1 ∷ []) 2 ≡ pos 8388566 ∷ pos 21 ∷ []
unfolding rows_open
solution_of_4_2_1 = refl

-- with the ridge equal correlations go on
pub rows_of_4_4_4 : rows (pos 4 ∷ pos 4 ∷ pos 4 ∷ []) 2 ≡ record { error = pos 67109120; values = [] }
    ∷ record { error = pos 513; values = pos 16777152 ∷ [] } ∷ []
unfolding rows_open
rows_of_4_4_4 = refl

-- a value of more than 1 in size stops, and there is the first row alone
pub rows_of_4_less_5 : (rows (pos 4 ∷ negsuc 4 ∷ pos 4 ∷ []) 2 ≡ record { error = pos 67109120; values = [] } ∷ [])
    × (row_solution (pos 4 ∷ negsuc 4 ∷ pos 4 ∷ []) 2 ≡ pos 0 ∷ pos 0 ∷ [])
unfolding rows_open
rows_of_4_less_5 = (refl, refl)

-- a value of 2 ^ 32 goes on, a greater one stops
pub a_value_of_32_bits_goes_on : (next_row (pos 4 ∷ []) (record { error = pos 9; values = pos (2 ^ 32) ∷ [] })).values ≡ pos (2 ^ 32) ∷ pos 0 ∷ []
unfolding rows_open
a_value_of_32_bits_goes_on = refl

pub a_greater_value_stops_a_row : (next_row (pos 4 ∷ []) (record { error = pos 9; values = neg_ℤ (pos (2 ^ 32 + 1)) ∷ [] })).values
    ≡ neg_ℤ (pos (2 ^ 32 + 1)) ∷ []
unfolding rows_open
a_greater_value_stops_a_row = refl

-- as much left as R(0) goes on, less stops
pub less_than_r0_stops : (row_stops (pos 4 ∷ []) (pos 0) (pos 4) [] ≡ false) × (row_stops (pos 4 ∷ []) (pos 0) (pos 3) [] ≡ true)
unfolding row_stops
less_than_r0_stops = (refl, refl)

-- the whole recursion: 128 steps
pub solved_by_rows : solved (rows (pos 4 ∷ pos 2 ∷ pos 1 ∷ []) 2) (pos 16777216 ∷ pos 0 ∷ []) ≡ Some (pos 5592369 ∷ negsuc 2796174 ∷ [])
unfolding solving_open
solved_by_rows = refl

-- a growth of 2 ^ 62 is answered, a greater one isn't
pub no_greater_growth : (solved (record { error = pos (2 ^ 24); values = [] } ∷ []) (pos (2 ^ 38) ∷ []) ≡ Some (pos (2 ^ 38) ∷ []))
    × (solved (record { error = pos (2 ^ 24 - 1); values = [] } ∷ []) (pos (2 ^ 38) ∷ []) ≡ None)
unfolding solving_open
no_greater_growth = (refl, refl)

unfoldable pub fitting_open : ⊤
unfolding greatest fed_back fit_down fitted last_place
fitting_open = tt

-- the error of 28 is fed back by the second row, where there is one
pub errors_are_fed_back : fitted (record { error = pos 0; values = [] } ∷ record { error = pos 0; values = pos 16777216 ∷ [] }
    ∷ record { error = pos 0; values = pos 0 ∷ pos 0 ∷ [] } ∷ []) (pos 26 ∷ pos 7 ∷ pos 64 ∷ []) ≡ pos 103 ∷ pos 28 ∷ pos 255 ∷ []
unfolding fitting_open
errors_are_fed_back = refl

pub no_row_feeds_nothing : fitted (record { error = pos 0; values = [] } ∷ []) (pos 26 ∷ pos 7 ∷ pos 64 ∷ []) ≡ pos 104 ∷ pos 28 ∷ pos 255 ∷ []
unfolding fitting_open
no_row_feeds_nothing = refl

-- the greatest is 255 in size, also where it is negative, and nothing is one zero
pub greatest_is_255 : (fitted [] (negsuc 0 ∷ []) ≡ negsuc 254 ∷ []) × (fitted [] (pos 0 ∷ pos 0 ∷ []) ≡ pos 0 ∷ [])
unfolding fitting_open
greatest_is_255 = (refl, refl)

unfoldable pub bits_open : ⊤
unfolding next_digit digits_after bits_of last_place
bits_open = tt

pub bits_of_symbols : map bits_of (1 ∷ 2 ∷ 3 ∷ 77 ∷ 128 ∷ 255 ∷ []) ≡ 32768 ∷ 28672 ∷ 26276 ∷ 7100 ∷ 4096 ∷ 24 ∷ []
unfolding bits_open
bits_of_symbols = refl

-- of four places of 10, three wrong in the first, the table has two entries: two more equal the second
pub short_table_of_four : shortened (table_of (λ p. if nat_lt p 4 then 10 else 0) (λ p. if p == 0 then 3 else 0)) ≡ 77 ∷ 1 ∷ []
unfolding shortened last_place
short_table_of_four = refl

-- two equal entries stay, and a different one behind equal ones keeps all
pub two_entries_stay : (shortened (128 ∷ 128 ∷ 128 ∷ []) ≡ 128 ∷ 128 ∷ []) × (shortened (7 ∷ 7 ∷ 7 ∷ 9 ∷ 9 ∷ []) ≡ 7 ∷ 7 ∷ 7 ∷ 9 ∷ [])
unfolding shortened last_place
two_entries_stay = (refl, refl)

-- ten at place 0, three of them wrong, and ten at place 2
abbrev pub tens : ℕ → ℕ
tens p = if p == 0 then 10 else (if p == 2 then 10 else 0)

abbrev pub threes : ℕ → ℕ
threes p = if p == 0 then 3 else 0

pub sums_of_a_step : (agreement tens threes ≡ pos 216) × (power tens ≡ pos 4160)
unfolding sum_over agreement power
sums_of_a_step = (refl, refl)

pub pull_of_a_step : pull (pos 4) (pos 216) (pos 4160) (pos 50) (pos 100) ≡ pos 126191881
unfolding pull
pull_of_a_step = refl

-- 64 of R(0) 4 by 100 is taken from 126,217,481; a quotient is rounded down
pub quotient_is_rounded_down : pull (pos 4) (pos 216) (pos 4160) (negsuc 49) (pos 0) ≡ negsuc 126217481
unfolding pull
quotient_is_rounded_down = refl

unfoldable pub step_open : ⊤
unfolding sum_over agreement power pull left_by growth grown is_unsolved solved greatest fed_back fit_down fitted last_place moved_by
step_open = tt

-- by one row the filter is moved to one coefficient, 1,709,269,449 with 24 fraction bits
abbrev pub one_row : List State
one_row = record { error = pos 67109120; values = [] } ∷ []

pub target_of_a_step : (solved one_row (pos 126191881 ∷ []) ≡ Some (pos 31547849 ∷ []))
    × (get_or (target (pos 100 ∷ []) (pos 31547849 ∷ [])) 0 (pos 0) ≡ pos 1709269449)
unfolding step_open
target_of_a_step = (refl, refl)

pub a_step : moved_by (pos 4) one_row (pos 216) (pos 4160) (λ _. pos 50) (pos 100 ∷ []) ≡ Some (pos 255 ∷ [])
unfolding step_open
a_step = refl

-- five of ten wrong agree too little
abbrev pub fives : ℕ → ℕ
fives p = if p == 0 then 5 else (if p == 2 then 5 else 0)

pub half_wrong_ends : moved_by (pos 4) one_row (agreement tens fives) (power tens) (λ _. pos 50) (pos 100 ∷ []) ≡ None
unfolding step_open
half_wrong_ends = refl

-- 1 in 8,192 is the least agreement that ends
pub least_agreement : (moved_by (pos 4) one_row (pos 1) (pos 8192) (λ _. pos 50) (pos 100 ∷ []) ≡ None)
    × (moved_by (pos 4) one_row (pos 1) (pos 8191) (λ _. pos 0) (pos 0 ∷ []) ≡ Some (pos 0 ∷ []))
unfolding step_open
least_agreement = (refl, refl)

-- 77 of 256 are expected wrong: a right guess weighs 77, a wrong one 179
pub weights_of_guesses : (weight tens threes 0 false ≡ 77) × (weight tens threes 0 true ≡ 179)
weights_of_guesses = (refl, refl)

-- eight samples 1 from the second on: the first two are taken with a sample 0 and one of two before the frame
pub samples_before_are_used : map (gradient (record { channels = 1; octets = 1 }) (255 ∷ []) (λ c t. 1) 1 (0 ∷ [])) (0 ∷ 1 ∷ 2 ∷ 3 ∷ [])
    ≡ pos 7 ∷ pos 5 ∷ pos 5 ∷ pos 3 ∷ []
unfolding sum_over gradient
samples_before_are_used = refl

-- each channel has its own weights and its own samples
pub channels_are_added : gradient (record { channels = 2; octets = 1 }) (255 ∷ 170 ∷ []) (λ c t. c + 3) 1 (0 ∷ 1 ∷ []) 0 ≡ negsuc 6
unfolding sum_over gradient
channels_are_added = refl

-- of filters with the sizes 5, 4, 4 and 6 the first of the least is best, and the last one is last; a step at most
abbrev pub one_more : List ℤ → Option (List ℤ)
one_more [] = None
one_more (a ∷ rest) = if nat_lt (nat_abs a) 4 then Some ((a +ℤ pos 1) ∷ []) else None

abbrev pub a_size : List ℤ → ℕ
a_size [] = 0
a_size (a ∷ rest) = get_or (9 ∷ 5 ∷ 4 ∷ 4 ∷ 6 ∷ []) (nat_abs a) 0

pub first_of_the_least : refine one_more a_size 10 (record { best = pos 1 ∷ []; last = pos 1 ∷ [] }) ≡ record { best = pos 2 ∷ []; last = pos 4 ∷ [] }
unfolding refine
first_of_the_least = refl

pub two_steps : refine one_more a_size 2 (record { best = pos 0 ∷ []; last = pos 0 ∷ [] }) ≡ record { best = pos 2 ∷ []; last = pos 2 ∷ [] }
unfolding refine
two_steps = refl

-- ten symbols at place 0 by 77 of 256 and ten at place 2 by the last entry; a bit for each of three samples of two channels
unfoldable pub size_open : ⊤
unfolding sum_below next_digit digits_after bits_of last_place size
size_open = tt

pub size_of_a_filter : size (pos 10 ∷ pos 20 ∷ pos 30 ∷ []) 2 tens threes (77 ∷ 1 ∷ [])
    ≡ 4096 * (spelled_bits filter_kind (pos 10 ∷ pos 20 ∷ pos 30 ∷ []) + spelled_bits prob_kind (pos 77 ∷ pos 1 ∷ []) + 6) + 36345
unfolding size_open
size_of_a_filter = refl

-- all channels together are refined by ten steps, and each alone by six from the last filter of those
pub ten_steps_together : (f : Shape) (sound : List ℕ) →
    refined_together f sound ≡ refined_from f sound (channels_of f) 10 (first_filter f sound (channels_of f))
unfolding refined_together
ten_steps_together f sound = refl

pub six_steps_alone : (f : Shape) (sound : List ℕ) (c : ℕ) →
    refined_alone f sound c ≡ (refined_from f sound (c ∷ []) 6 (refined_together f sound).last).best
unfolding refined_alone
six_steps_alone f sound c = refl

-- 128 coefficients of 128 steps
pub first_filter_of_order_128 : (f : Shape) (sound channels : List ℕ) →
    first_filter f sound channels ≡ fitted (rows (correlations f sound channels) 128) (row_solution (correlations f sound channels) 128)
unfolding first_filter
first_filter_of_order_128 f sound channels = refl

-- two channels, with counts of their own
pub counts_are_added : map (sum_of (λ c p. c + 10 * p) (2 ∷ 3 ∷ [])) (0 ∷ 1 ∷ []) ≡ 5 ∷ 25 ∷ []
unfolding sum_of
counts_are_added = refl

-- level 3 has the picks of level 2 in front of its own
pub level_3_begins_with_level_2 : (sound : List ℕ) (f : Shape) →
    level_picks 3 sound f ≡ level_picks 2 sound f ++ refined_shared f sound ∷ refined_own f sound ∷ refined_own_with_one_table f sound ∷ []
unfolding level_picks
level_3_begins_with_level_2 sound f = refl

pub level_4_has_none : (sound : List ℕ) (f : Shape) → level_picks 4 sound f ≡ []
unfolding level_picks
level_4_has_none sound f = refl
