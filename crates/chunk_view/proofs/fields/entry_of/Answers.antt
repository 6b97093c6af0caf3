-- An entry is read from its twelve bytes, or isn't there.
use Rattle.std.proofs.Common.{arith}
use Rattle.std.proofs.lemmas.Grind.{common_steps}
use Rattle.chunk_view.proofs.fields.entry_of.Goals as goal

pub returns-clause-length : goal.returns-clause-length
returns-clause-length c = grind (arith, common_steps)
