-- Decoding a stream has one outcome, since each frame means one sound or offends by one fault.
use Rattle.stream_spec.proofs.OneOutcome.{one_outcome as law}
use Rattle.stream_spec.proofs.laws.one_outcome.Goals as goal

pub returns : goal.returns
returns c = law
