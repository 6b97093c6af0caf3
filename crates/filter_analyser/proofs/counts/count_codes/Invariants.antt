-- The codes so far are counted, beside what was counted before.
use Rattle.std.proofs.Common.{◌≡◌, ℕ, ◌+◌, ◌<◌, ◌==◌, length, get_or, take}
use Rattle.std.specs.List.{count_by}
use Rattle.filter_analyser.proofs.counts.count_codes.Given as goal

abbrev pub invariant-loop-code : goal.invariant-loop-code
invariant-loop-code l =
    (length l.counts ≡ 128)
    × ((q : ℕ) → q < 128 → get_or l.counts q 0 ≡ get_or l.initial.counts q 0 + count_by (λ code. code == q) (take l.code-index l.codes))
