-- What stands before a frame, before the next sample and in a byte; a filter's sum over such samples is the prediction.
use Rattle.std.proofs.Common.{pos, refl}
use Rattle.dst_spec.specs.Sample.{sample}
use Rattle.byte_predictor.proofs.Before.{before_a_frame, before_next, before_in_a_byte, predicted}
use Rattle.byte_predictor.proofs.laws.samples_before.Goals as goal

pub returns-clause-frame : goal.returns-clause-frame
returns-clause-frame c = before_a_frame

pub returns-clause-next : goal.returns-clause-next
returns-clause-next c = λ f sound ch t samples before. before_next f sound ch t (sample f sound ch (pos t)) samples refl before

pub returns-clause-predicts : goal.returns-clause-predicts
returns-clause-predicts c = predicted

pub returns-clause-byte : goal.returns-clause-byte
returns-clause-byte c = before_in_a_byte
