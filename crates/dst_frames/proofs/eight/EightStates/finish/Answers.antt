-- The byte holds the frame's newest samples, and taking it into the sums ahead touches no other frame.
use Rattle.std.proofs.Common.{get_or, ap}
use Rattle.dst_frames.specs.Eight.{entry_in}
use Rattle.dst_frames.proofs.eight.EightStates.finish.Goals as goal

pub returns-clause-newest : goal.returns-clause-newest
returns-clause-newest c = λ filter probs samples place ready k h. c.newest-newest.ensures.each filter place samples ready.ahead k h

pub returns-clause-added : goal.returns-clause-added
returns-clause-added c = λ probs samples ready. record { ahead = c.take_byte.ensures.added samples ready.ahead; next = ready.next }

pub returns-clause-others : goal.returns-clause-others
returns-clause-others c = λ m ne. ap (λ a. record { ahead = a; next = entry_in (get_or c.args.self.now.chances m 0) }) (c.take_byte.ensures.others m ne)
