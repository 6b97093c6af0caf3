-- Both returns give the entry of the counts: where nothing was guessed, and else.
use Rattle.std.proofs.Common.{rules}
use Rattle.filter_analyser.proofs.counts.entry.Goals as goal

pub returns : goal.returns
returns c = search rules

pub returns-then-total-eq0 : goal.returns-then-total-eq0
returns-then-total-eq0 c = search rules
