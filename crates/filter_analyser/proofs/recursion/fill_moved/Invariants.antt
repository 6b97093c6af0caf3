-- The values so far are moved, each by a share of the one as far from the end.
use Rattle.std.proofs.Common.{◌≡◌, ℕ, ◌+◌, ◌-◌, ◌<◌, pos, ◌-ℤ◌, ◌*ℤ◌, get_or}
use Rattle.level_spec.specs.Recursion.{value, whole}
use Rattle.filter_analyser.proofs.recursion.fill_moved.Given as goal

abbrev pub invariant-loop-j : goal.invariant-loop-j
invariant-loop-j l = (j : ℕ) → 1 + j < l.j → get_or l.next j (pos 0) ≡ value l.values (1 + j) -ℤ whole (l.fn.reflection *ℤ value l.values (l.place - (1 + j)))
