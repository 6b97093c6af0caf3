-- The length ends behind the last coefficient so far that isn't 0.
use Rattle.std.proofs.Common.{◌≡◌, pos, nat_abs, not, ◌==◌, get_or}
use Rattle.level_spec.specs.Scale.{last_place}
use Rattle.filter_refiner.proofs.fitting.length_without_zeros.Given as goal

abbrev pub invariant-loop-place : goal.invariant-loop-place
invariant-loop-place l = l.length ≡ last_place (λ j. not (nat_abs (get_or l.coefs j (pos 0)) == 0)) l.place
