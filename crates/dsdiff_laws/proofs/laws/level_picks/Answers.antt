-- By `Headline`, from the lemma of `level_spec` that the picks of a level are few and lawful.
use Rattle.dsdiff_laws.proofs.Headline.{level_picks_law as law}
use Rattle.dsdiff_laws.proofs.laws.level_picks.Goals as goal

pub returns : goal.returns
returns c = law
