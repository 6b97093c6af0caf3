-- The reader's answer is given as a step, and what the reader has read stands when the lent bytes are done with.
use Rattle.std.proofs.Common.{refl}
use Rattle.push_decoder.proofs.decoder.PushDecoder.take.Goals as goal

pub returns : goal.returns
returns c = (
  (refl, λ d. tt, λ taken answered has. c.in-Ok.ensures.after taken answered has),
  record {
    after = tt;
    within = c.in-Ok.ensures.within;
    answer = λ taken answered has.
        let answer = c.in-Ok.ensures.answer taken answered has in
        (answer.0, c.step_of.ensures answered _ (rw c.frame.ensures answer.1));
  },
)
