-- Where the index is the walk, its entry is that of the same frame, and a number of no frame is refused by both.
use Rattle.dsdiff_spec.proofs.ByIndex.{same_by_index as law}
use Rattle.dsdiff_spec.proofs.laws.same_by_index.Goals as goal

pub returns : goal.returns
returns c = law
