-- Filters that are refined: step by step a filter is moved to where its guesses, weighted by how surprising each sample was, have
-- nothing left to learn from.
use Rattle.std.specs.Prelude.{ℕ, zero, suc, ◌+◌, ◌-◌, ◌*◌, ◌^◌, ℤ, pos, ◌+ℤ◌, ◌-ℤ◌}
use Rattle.std.specs.Prelude.{◌*ℤ◌, int_le, nat_lt, Bool, if◌then◌else◌, List, [], ◌∷◌, length, map, get_or}
use Rattle.std.specs.Prelude.{Option, Some, None}
use Rattle.std.specs.Int.{int_div_euclid}
use Rattle.std.specs.List.{range_with_len}
use Rattle.dst_spec.specs.Sample.{Shape, sample, samples}
use Rattle.dst_spec.specs.Guess.{signed}
use Rattle.level_spec.specs.Correlation.{sum_over, sign, correlations}
use Rattle.level_spec.specs.Recursion.{State, lag}
use Rattle.level_spec.specs.Counts.{place, is_wrong, total, wrong, entry, counted}
use Rattle.level_spec.specs.Rows.{rows, row_solution}
use Rattle.level_spec.specs.Solving.{solved}
use Rattle.level_spec.specs.Fitting.{fitted}
use Rattle.level_spec.specs.Size.{shortened, size}

-- the middle of the sizes of predictions that have a place
abbrev pub middle : ℕ → ℕ
middle p = 8 * p + 4

-- the sizes of predictions that are right, less those that are wrong
unfoldable pub agreement : (ℕ → ℕ) → (ℕ → ℕ) → ℤ
agreement totals wrongs = sum_over (λ p. (pos (totals p) -ℤ pos (2 * wrongs p)) *ℤ pos (middle p)) 0 64

-- the squares of predictions
unfoldable pub power : (ℕ → ℕ) → ℤ
power totals = sum_over (λ p. pos (totals p * (middle p * middle p))) 0 64

-- a guess weighs as much as it was expected to be wrong; a wrong one as much as it was expected to be right
abbrev pub weight : (ℕ → ℕ) → (ℕ → ℕ) → ℕ → Bool → ℕ
weight totals wrongs p missed = if missed then 256 - entry (totals p) (wrongs p) else entry (totals p) (wrongs p)

-- of the samples of a channel from the first on, each is taken with the one j + 1 places before it, by its weight; samples before
-- the frame are used
abbrev pub weighted_agreement : Shape → List ℕ → (ℕ → ℕ → ℕ) → ℕ → ℕ → ℕ → ℤ
weighted_agreement f sound weights first c j =
    sum_over (λ t. pos (weights c t) *ℤ (sign f sound c t *ℤ signed (sample f sound c (pos t -ℤ pos (j + 1))) (pos 1))) first (samples f - first)

-- of several channels the sum of theirs
unfoldable pub gradient : Shape → List ℕ → (ℕ → ℕ → ℕ) → ℕ → List ℕ → ℕ → ℤ
gradient f sound weights first [] j = pos 0
gradient f sound weights first (c ∷ channels) j = weighted_agreement f sound weights first c j +ℤ gradient f sound weights first channels j

-- what the step is solved for
unfoldable pub pull : ℤ → ℤ → ℤ → ℤ → ℤ → ℤ
pull r0 sp pp g q = int_div_euclid (g *ℤ pp *ℤ pos (2 ^ 17)) sp -ℤ pos 64 *ℤ (r0 *ℤ q)

-- where a filter is moved, by what solving answers
abbrev pub target : List ℤ → List ℤ → List ℤ
target coefs d = map (λ j. get_or coefs j (pos 0) *ℤ pos (2 ^ 24) +ℤ get_or d j (pos 0)) (range_with_len 0 128)

-- From a filter to the next one: solving takes as many of the 128 as there are rows. Refining ends where the guesses agree too
-- little, or solving has no answer.
unfoldable pub moved_by : ℤ → List State → ℤ → ℤ → (ℕ → ℤ) → List ℤ → Option (List ℤ)
moved_by r0 states sp pp g coefs =
    if int_le (sp *ℤ pos (2 ^ 13)) pp then None
    else (elim (solved states (map (λ j. pull r0 sp pp (g j) (get_or coefs j (pos 0))) (range_with_len 0 128))) [
      | None ↦ None
      | Some d ↦ Some (fitted states (target coefs d))
    ])

-- the next filter of channels together
unfoldable pub next_filter : Shape → List ℕ → List ℕ → List ℤ → Option (List ℤ)
next_filter f sound channels coefs =
    let totals = total f sound channels coefs in
    let wrongs = wrong f sound channels coefs in
    let weights = λ (c t : ℕ). weight totals wrongs (place f sound c coefs t) (is_wrong f sound c coefs t) in
    let lags = correlations f sound channels in
    moved_by (lag lags 0) (rows lags 128) (agreement totals wrongs) (power totals) (gradient f sound weights (length coefs) channels) coefs

-- the table of a filter's counts, and the size with it
unfoldable pub short_table : Shape → List ℕ → List ℕ → List ℤ → List ℕ
short_table f sound channels coefs = shortened (counted f sound channels coefs)

unfoldable pub filter_size : Shape → List ℕ → List ℕ → List ℤ → ℕ
filter_size f sound channels coefs =
    size coefs (length channels) (total f sound channels coefs) (wrong f sound channels coefs) (short_table f sound channels coefs)

-- the first of the filters of the least size, and the last filter
pub record Refined : Type 0 where
  pub best : List ℤ
  pub last : List ℤ

-- so many steps, or fewer where refining ends. A filter that is its own next one stays, and so it ends refining as well.
unfoldable pub refine : (List ℤ → Option (List ℤ)) → (List ℤ → ℕ) → ℕ → Refined → Refined
refine next sizes zero r = r
refine next sizes (suc n) r = elim (next r.last) [
  | None ↦ r
  | Some q ↦ refine next sizes n (record { best = if nat_lt (sizes q) (sizes r.best) then q else r.best; last = q })
]

unfoldable pub refined_from : Shape → List ℕ → List ℕ → ℕ → List ℤ → Refined
refined_from f sound channels steps first =
    refine (next_filter f sound channels) (filter_size f sound channels) steps (record { best = first; last = first })

-- the first filter, where none is given
unfoldable pub first_filter : Shape → List ℕ → List ℕ → List ℤ
first_filter f sound channels = let lags = correlations f sound channels in fitted (rows lags 128) (row_solution lags 128)
