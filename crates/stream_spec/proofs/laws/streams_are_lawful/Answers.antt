-- Every stream keeps these laws, whatever its bytes, as following it chunk by chunk shows.
use Rattle.stream_spec.proofs.Lawful.{streams_are_lawful as law}
use Rattle.stream_spec.proofs.laws.streams_are_lawful.Goals as goal

pub returns : goal.returns
returns c = law
