-- The values so far are coefficients at the scale.
use Rattle.std.proofs.Common.{◌≡◌, true, take}
use Rattle.std.specs.List.{list_all}
use Rattle.level_spec.specs.Scale.{coefficient, is_coefficient}
use Rattle.filter_analyser.proofs.scale.all_are_coefficients.Given as goal

abbrev pub invariant-loop-value : goal.invariant-loop-value
invariant-loop-value l = list_all (λ a. is_coefficient (coefficient l.scale a)) (take l.value-index l.values) ≡ true
