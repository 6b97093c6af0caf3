-- What is left so far is the correlation less the products of the values so far.
use Rattle.std.proofs.Common.{◌≡◌, ◌-◌, ◌^◌, pos, ◌-ℤ◌, ◌*ℤ◌}
use Rattle.level_spec.specs.Correlation.{sum_over}
use Rattle.level_spec.specs.Recursion.{lag, value}
use Rattle.filter_analyser.proofs.recursion.left_over.Given as goal

abbrev pub invariant-loop-j : goal.invariant-loop-j
invariant-loop-j l = l.rest ≡ lag l.lags l.place *ℤ pos (2 ^ 24) -ℤ sum_over (λ j. value l.values j *ℤ lag l.lags (l.place - j)) 1 (l.j - 1)
