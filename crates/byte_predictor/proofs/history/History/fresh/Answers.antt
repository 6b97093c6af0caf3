-- Sixteen bytes of alternating bits are the samples that stand before any frame.
use Rattle.byte_predictor.proofs.Before.{before_a_frame}
use Rattle.byte_predictor.proofs.history.History.fresh.Goals as goal

pub returns-clause-before : goal.returns-clause-before
returns-clause-before c = before_a_frame
