-- The values so far are scaled and bounded.
use Rattle.std.proofs.Common.{◌≡◌, ℕ, ◌<◌, pos, length, get_or}
use Rattle.level_spec.specs.Scale.{coefficient, bounded}
use Rattle.filter_analyser.proofs.scale.coefficients.Given as goal

abbrev pub invariant-loop-place : goal.invariant-loop-place
invariant-loop-place l = (length l.coefs ≡ 128) × ((k : ℕ) → k < l.place → get_or l.coefs k (pos 0) ≡ bounded (coefficient l.scale (get_or l.values k (pos 0))))
