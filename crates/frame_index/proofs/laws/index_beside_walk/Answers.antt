-- An index that is the walk passes, and else the first entry that differs is answered, by the lemmas on comparing.
use Rattle.frame_index.proofs.Comparing.{same_passes, first_is_refused}
use Rattle.frame_index.proofs.laws.index_beside_walk.Goals as goal

pub returns-clause-same : goal.returns-clause-same
returns-clause-same c file form found none read ok = same_passes file form found none read ok

pub returns-clause-differ : goal.returns-clause-differ
returns-clause-differ c file form index found k none read ok first = first_is_refused file form index found k none read ok first
