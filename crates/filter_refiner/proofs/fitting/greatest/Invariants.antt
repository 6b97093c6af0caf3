-- The greatest size of the values so far is known.
use Rattle.std.proofs.Common.{◌≡◌, max, nat_abs, fold, take}
use Rattle.filter_refiner.proofs.fitting.greatest.Given as goal

abbrev pub invariant-loop-value : goal.invariant-loop-value
invariant-loop-value l = l.most ≡ fold (λ most a. max most (nat_abs a)) 0 (take l.value-index l.target)
