-- By `Cutting`: what cutting writes keeps all rules, has the frames that were asked for, and is decoded to their sounds.
use Rattle.dsdiff_laws.proofs.Cutting.{cutting as law}
use Rattle.dsdiff_laws.proofs.laws.cutting.Goals as goal

pub returns : goal.returns
returns c = law
