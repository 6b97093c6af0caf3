-- The channels so far are solved with order 32.
use Rattle.std.proofs.Common.{◌≡◌, ℕ, ◌<◌, [], ◌∷◌, length, get_or}
use Rattle.level_spec.specs.Correlation.{correlations}
use Rattle.level_spec.specs.Recursion.{solution}
use Rattle.filter_analyser.specs.Run.{padded}
use Rattle.filter_analyser.proofs.picker.pick_one.Given as goal

abbrev pub invariant-loop-c : goal.invariant-loop-c
invariant-loop-c l = (length l.solved ≡ 6) × ((c : ℕ) → c < l.c → get_or l.solved c [] ≡ padded (solution (correlations l.channels l.sound (c ∷ [])) 32))
