-- The entries so far are the same in both.
use Rattle.std.proofs.Common.{◌≡◌, ◌<◌, ℕ}
use Rattle.dsdiff_spec.specs.Walk.{entry}
use Rattle.frame_index.proofs.index.compare.Given as goal

abbrev pub invariant-loop-k : goal.invariant-loop-k
invariant-loop-k l = (j : ℕ) → j < l.k → entry l.a j ≡ entry l.b j
