-- Nothing is written yet, so the number is that of the one bit 0 that is held back.
use Rattle.arith_encoder.proofs.Leaving.{none_written}
use Rattle.arith_encoder.proofs.held.Held.new.Goals as goal

pub returns-clause-number : goal.returns-clause-number
returns-clause-number c = rw c.length-first.ensures.length (none_written c.args.writer.bits)
