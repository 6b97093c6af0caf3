-- The places so far have added what differs in this stretch, and those to come are as at first.
use Rattle.std.proofs.Common.{◌≡◌, ℕ, ◌+◌, ◌-◌, ◌/◌, ◌%◌, ◌^◌, ◌<◌, ◌≤◌, length, get_or}
use Rattle.filter_analyser.specs.Stretches.{passed, tally}
use Rattle.filter_analyser.proofs.stretches.count_stretch.Given as goal

abbrev pub invariant-loop-place : goal.invariant-loop-place
invariant-loop-place l =
    (length l.counts ≡ 8)
    × ((j : ℕ) → j < l.place → get_or l.counts j 0 ≡ get_or l.initial.counts j 0 + tally
    (λ i. (l.stretch / 2 ^ (63 - i) % 2 + passed l.here l.before (j + 1) i) % 2) 0 64)
    × ((j : ℕ) → l.place ≤ j → get_or l.counts j 0 ≡ get_or l.initial.counts j 0)
