-- The channels so far are solved for all orders, and their correlations are added up.
use Rattle.std.proofs.Common.{◌≡◌, ℕ, ◌<◌, pos, [], ◌∷◌, length, map, get_or}
use Rattle.std.specs.List.{range_with_len}
use Rattle.level_spec.specs.Correlation.{joint_correlation, correlations}
use Rattle.level_spec.specs.Recursion.{solution}
use Rattle.level_spec.specs.Picks.{orders}
use Rattle.filter_analyser.specs.Run.{padded}
use Rattle.filter_analyser.proofs.picker.solve_channels.Given as goal

abbrev pub invariant-loop-c : goal.invariant-loop-c
invariant-loop-c l = record {
  long : length l.solved ≡ 6;
  solved : (c : ℕ) → c < l.c → get_or l.solved c [] ≡ map (λ order. padded (solution (correlations l.channels l.sound (c ∷ [])) order)) orders;
  whole : length l.joint ≡ 129;
  joint : (k : ℕ) → k < 129 → get_or l.joint k (pos 0) ≡ joint_correlation l.channels l.sound (range_with_len 0 l.c) k;
}
