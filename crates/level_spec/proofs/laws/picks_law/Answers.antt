-- Level by level each pick is lawful, and level 3, which has the most, has eleven.
use Rattle.level_spec.proofs.Lawful.{picks_are_lawful}
use Rattle.level_spec.proofs.laws.picks_law.Goals as goal

pub returns : goal.returns
returns c = picks_are_lawful
