-- By `Joined`: the pieces, joined, are the sound and what filled up the last one, which is cut off.
use Rattle.dsdiff_laws.proofs.Joined.{pieces_join as law}
use Rattle.dsdiff_laws.proofs.laws.pieces.Goals as goal

pub returns : goal.returns
returns c = law
