-- From its beginning the run goes to the order, and its values are padded with zeros.
use Rattle.std.proofs.Common.{ap, ◌∙◌, arith}
use Rattle.filter_analyser.specs.Run.{padded}
use Rattle.filter_analyser.proofs.Padding.{padded-solution, begun}
use Rattle.filter_analyser.proofs.recursion.solve_filter.Goals as goal

pub advance-requires-clause-at : goal.advance-requires-clause-at
advance-requires-clause-at c = c.begin-run.ensures ∙ begun c.args.lags.now

pub returns : goal.returns
returns c = c.padded.ensures ∙ ap (λ s. padded s.values) c.advance.ensures ∙ padded-solution c.args.lags.now c.args.order (omega arith)
