-- So many steps need no later correlations, and a stop lasts.
use Rattle.level_spec.proofs.Steps.{after-same, after-stop}
use Rattle.level_spec.proofs.laws.one_recursion_law.Goals as goal

pub returns : goal.returns
returns c = (after-same, after-stop)
