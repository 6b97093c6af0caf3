-- Past the last coefficient there is 0.
use Rattle.std.proofs.Common.{arith}
use Rattle.std.proofs.lemmas.Grind.{common_steps}
use Rattle.byte_predictor.proofs.byte_filter.coef_at.Goals as goal

pub returns-else-place-coefs : goal.returns-else-place-coefs
returns-else-place-coefs c = grind (arith, common_steps)
