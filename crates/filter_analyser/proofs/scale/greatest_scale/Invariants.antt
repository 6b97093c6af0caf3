-- The scale is one of those left: at none so far were all values coefficients.
use Rattle.std.proofs.Common.{◌≡◌, ◌-◌}
use Rattle.level_spec.specs.Scale.{scale}
use Rattle.filter_analyser.proofs.scale.greatest_scale.Given as goal

abbrev pub invariant-loop-less : goal.invariant-loop-less
invariant-loop-less l = scale 8 l.values ≡ scale (8 - l.less) l.values
