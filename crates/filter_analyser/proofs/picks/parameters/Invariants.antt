-- The half bits so far are 1.
use Rattle.std.proofs.Common.{◌≡◌, true, replicate}
use Rattle.filter_analyser.proofs.picks.parameters.Given as goal

abbrev pub invariant-loop-c : goal.invariant-loop-c
invariant-loop-c l = l.half_prob.items ≡ replicate l._c true
