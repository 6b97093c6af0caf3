-- What is decided of a stream stays when more bytes follow, since they leave each head that is there as it is.
use Rattle.stream_spec.proofs.More.{more_bytes as law}
use Rattle.stream_spec.proofs.laws.more_bytes.Goals as goal

pub returns : goal.returns
returns c = law
