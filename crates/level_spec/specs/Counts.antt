-- From a filter's predictions to a table of probabilities.
use Rattle.std.specs.Prelude.{ℕ, ◌+◌, ◌-◌, ◌*◌, ◌/◌, min, max, ℤ, pos, nat_abs, Bool, not, ◌&&◌, ◌==◌, nat_lt, if◌then◌else◌, List, [], ◌∷◌, length, map}
use Rattle.std.specs.Int.{is_negative}
use Rattle.std.specs.List.{range_with_len, count_by}
use Rattle.dst_spec.specs.Sample.{Shape, sample, samples}
use Rattle.dst_spec.specs.Guess.{sum_before}
use Rattle.level_spec.specs.Scale.{last_place}

-- the place of a prediction in a table, by its size
abbrev pub place : Shape → List ℕ → ℕ → List ℤ → ℕ → ℕ
place f sound c coefs t = min (nat_abs (sum_before f sound c coefs (pos t)) / 8) 63

-- the guess is 1 where the prediction is 0 or greater, else 0
abbrev pub is_wrong : Shape → List ℕ → ℕ → List ℤ → ℕ → Bool
is_wrong f sound c coefs t =
    let one = sample f sound c (pos t) == 1 in
    if is_negative (sum_before f sound c coefs (pos t)) then one else not one

-- how many samples of the channels pass the test, of each those from the first on
unfoldable pub count_from : ℕ → Shape → (ℕ → ℕ → Bool) → List ℕ → ℕ
count_from first f test [] = 0
count_from first f test (c ∷ channels) = count_by (test c) (range_with_len first (samples f - first)) + count_from first f test channels

-- The samples that have a place, and those of them that are guessed wrong. The first samples of a channel, as many as the filter
-- is long, aren't counted.
abbrev pub total : Shape → List ℕ → List ℕ → List ℤ → ℕ → ℕ
total f sound channels coefs p = count_from (length coefs) f (λ c t. place f sound c coefs t == p) channels

abbrev pub wrong : Shape → List ℕ → List ℕ → List ℤ → ℕ → ℕ
wrong f sound channels coefs p = count_from (length coefs) f (λ c t. (place f sound c coefs t == p) && is_wrong f sound c coefs t) channels

-- the part that was guessed wrong, in 256ths, rounded; from 1 to 128, and 128 where nothing was counted
abbrev pub entry : ℕ → ℕ → ℕ
entry total wrong = if total == 0 then 128 else min 128 (max 1 ((256 * wrong + total / 2) / total))

-- entries up to the last place that a sample has, and at least two
abbrev pub table_of : (ℕ → ℕ) → (ℕ → ℕ) → List ℕ
table_of totals wrongs = map (λ p. entry (totals p) (wrongs p)) (range_with_len 0 (max 2 (last_place (λ p. nat_lt 0 (totals p)) 64)))

unfoldable pub counted : Shape → List ℕ → List ℕ → List ℤ → List ℕ
counted f sound channels coefs = table_of (total f sound channels coefs) (wrong f sound channels coefs)
