-- Two channels are alike where all three of their parts are.
use Rattle.std.proofs.Common.{rules}
use Rattle.channel_params.proofs.channel.are_alike.Goals as goal

pub returns-then-probs-d-clause-alike : goal.returns-then-probs-d-clause-alike
returns-then-probs-d-clause-alike c = search rules
