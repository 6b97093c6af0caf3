-- By `Restoring`: the frames mean the pieces of the sound and nothing else, and the same chunks come around them.
use Rattle.dsdiff_laws.proofs.Restoring.{restoring as law}
use Rattle.dsdiff_laws.proofs.laws.restoring.Goals as goal

pub returns : goal.returns
returns c = law
