-- By `Headline`: the written file is accepted and comes back, and each frame alone is its piece, by walk or index.
use Rattle.dsdiff_laws.proofs.Headline.{headline as law}
use Rattle.dsdiff_laws.proofs.laws.headline.Goals as goal

pub returns : goal.returns
returns c = law
