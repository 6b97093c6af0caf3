-- By `Pieces`: where nothing is due, both have answered the front and all frames that the taken bytes have.
use Rattle.push_decoder.proofs.Pieces.{pieces_law as law}
use Rattle.push_decoder.proofs.laws.pieces_make_no_difference.Goals as goal

pub returns : goal.returns
returns c = law
