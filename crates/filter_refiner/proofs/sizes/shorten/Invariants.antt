-- The length ends behind the last entry so far that differs from the one before it, and is at least 2.
use Rattle.std.proofs.Common.{◌≡◌, ◌-◌, max, not, ◌==◌, get_or}
use Rattle.level_spec.specs.Scale.{last_place}
use Rattle.filter_refiner.proofs.sizes.shorten.Given as goal

abbrev pub invariant-loop-place : goal.invariant-loop-place
invariant-loop-place l = l.length ≡ max 2 (last_place (λ p. not (get_or l.entries p 0 == get_or l.entries (p - 1) 0)) l.place)
