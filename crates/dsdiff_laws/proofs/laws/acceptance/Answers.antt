-- By `Acceptance`: what encoding writes keeps all rules, is walked to the stored frames, and its one index is its walk.
use Rattle.dsdiff_laws.proofs.Acceptance.{acceptance as law}
use Rattle.dsdiff_laws.proofs.laws.acceptance.Goals as goal

pub returns : goal.returns
returns c = law
