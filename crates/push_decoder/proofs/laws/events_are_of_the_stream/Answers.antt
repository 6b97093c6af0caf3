-- By `Pieces`: whatever bytes follow, the stream begins with what was answered.
use Rattle.push_decoder.proofs.Pieces.{events_law as law}
use Rattle.push_decoder.proofs.laws.events_are_of_the_stream.Goals as goal

pub returns : goal.returns
returns c = law
