-- The entries of the places so far are known, and the length ends behind the last place that has a sample.
use Rattle.std.proofs.Common.{◌≡◌, ℕ, ◌+◌, ◌<◌, nat_lt, length, get_or}
use Rattle.level_spec.specs.Scale.{last_place}
use Rattle.level_spec.specs.Counts.{entry}
use Rattle.filter_analyser.proofs.counts.table_from.Given as goal

abbrev pub invariant-loop-place : goal.invariant-loop-place
invariant-loop-place l =
    (length l.entries ≡ 64)
    × (l.length ≡ last_place (λ p. nat_lt 0 (get_or l.counts p 0 + get_or l.counts (p + 64) 0)) l.place)
    × ((p : ℕ) → p < l.place → get_or l.entries p 0 ≡ entry (get_or l.counts p 0 + get_or l.counts (p + 64) 0) (get_or l.counts (p + 64) 0))
