-- The range is doubled where that is due.
use Rattle.std.proofs.Common.{rules}
use Rattle.arith_decoder.proofs.step.doubled.Goals as goal

pub returns-clause-range : goal.returns-clause-range
returns-clause-range c = search rules
