-- There is a row for each step so far, and the run is the next one, with as many values.
use Rattle.std.proofs.Common.{◌≡◌, length, map}
use Rattle.std.specs.List.{range_with_len}
use Rattle.level_spec.specs.Rows.{row_after}
use Rattle.filter_analyser.proofs.recursion.keep_rows.Given as goal

abbrev pub invariant-loop-step : goal.invariant-loop-step
invariant-loop-step l = record {
  rows : l.rows ≡ map (row_after l.lags) (range_with_len 0 l._step);
  run : l.run ≡ row_after l.lags l._step;
  long : length (row_after l.lags l._step).values ≡ l._step;
}
