-- What is left so far is the wanted one, with 24 fraction bits, less the products of the values so far.
use Rattle.std.proofs.Common.{◌≡◌, ◌-◌, ◌^◌, pos, ◌-ℤ◌, ◌*ℤ◌, length, get_or}
use Rattle.level_spec.specs.Correlation.{sum_over}
use Rattle.level_spec.specs.Recursion.{value}
use Rattle.filter_refiner.proofs.solving.left_by.Given as goal

abbrev pub invariant-loop-j : goal.invariant-loop-j
invariant-loop-j l =
    l.rest ≡ get_or l.wanted (length l.values) (pos 0) *ℤ pos (2 ^ 24)
    -ℤ sum_over (λ j. value l.values (length l.values - j) *ℤ get_or l.wanted j (pos 0)) 0 l.j
