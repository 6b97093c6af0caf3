-- All eight chances are alike, with the probability 1.
use Rattle.arith_lanes.proofs.Beginning.{alike}
use Rattle.dst_frames.proofs.eight.EightStates.new.Goals as goal

pub returns : goal.returns
returns c = λ n h. rw (alike c.chance-chances.result n h) c.chance-chances.ensures.prob
