-- A writer that is given up holds no bits.
use Rattle.std.proofs.Common.{rules}
use Rattle.arith_encoder.proofs.held.Held.abandon.Goals as goal

pub returns-clause-bits : goal.returns-clause-bits
returns-clause-bits c = search rules

pub returns-clause-room : goal.returns-clause-room
returns-clause-room c = search rules
