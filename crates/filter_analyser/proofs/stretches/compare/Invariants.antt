-- The samples of the stretches so far are compared and moved, and the stretch before is known.
use Rattle.filter_analyser.proofs.Compared.{Compared}
use Rattle.filter_analyser.proofs.stretches.compare.Given as goal

abbrev pub invariant-loop-place : goal.invariant-loop-place
invariant-loop-place l = Compared l.stretches l.initial.behind l.place l.before l.counts l.behind
