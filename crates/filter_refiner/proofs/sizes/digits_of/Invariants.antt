-- The state is that of as many digits as steps, and the digits so far are below that power of 2.
use Rattle.std.proofs.Common.{◌≡◌, ◌^◌, ◌<◌}
use Rattle.level_spec.specs.Size.{Logarithm, digits_after}
use Rattle.filter_refiner.proofs.sizes.digits_of.Given as goal

abbrev pub invariant-loop-step : goal.invariant-loop-step
invariant-loop-step l = record {
  state : ◌≡◌ {A = Logarithm} (record { rest = l.rest; digits = l.digits }) (digits_after l._step (record { rest = l.number; digits = 0 }));
  rest : l.rest < 2 ^ 32;
  digits : l.digits < 2 ^ l._step;
}
