-- The numbers are a span's: the last isn't before the first.
use Rattle.std.proofs.Common.{rules}
use Rattle.dst_words.proofs.words.read_cut.Goals as goal

pub returns-clause-workers : goal.returns-clause-workers
returns-clause-workers c = search rules

pub returns-clause-numbers : goal.returns-clause-numbers
returns-clause-numbers c = search rules
