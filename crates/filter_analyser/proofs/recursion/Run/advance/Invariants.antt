-- The run stands behind as many steps as the loop has passed.
use Rattle.std.proofs.Common.{◌≡◌}
use Rattle.level_spec.specs.Recursion.{after}
use Rattle.filter_analyser.proofs.recursion.Run.advance.Given as goal

abbrev pub invariant-loop-step : goal.invariant-loop-step
invariant-loop-step l = l.self ≡ after l.lags l._step
