-- Words and a file have one outcome, as each command has one, and words that are none are not understood.
use Rattle.words_spec.proofs.OneAnswer.{one_outcome as law}
use Rattle.words_spec.proofs.laws.one_outcome.Goals as goal

pub returns : goal.returns
returns c = law
