-- The lanes so far have the steps of their candidates at all samples of the part.
use Rattle.std.proofs.Common.{◌≡◌, ℕ, ◌+◌, ◌*◌, ◌<◌, [], length, get_or}
use Rattle.frame_store.specs.declared.coded.ChannelSteps.{ChannelSteps}
use Rattle.frame_store.specs.Coded.{step_at}
use Rattle.frame_store.proofs.lanes.fill_part.Given as goal

abbrev pub invariant-loop-lane : goal.invariant-loop-lane
invariant-loop-lane l = record {
  long : length l.steps ≡ length l.initial.steps;
  here : (lane t c : ℕ) (other : ChannelSteps) → lane < l.lane → t < l.count → c < l.predictions.channels.channels
      → get_or (get_or l.steps (t * l.predictions.channels.channels + c) []) lane 0
      ≡ step_at l.predictions.channels l.predictions.sound l.predictions.rows l.first (get_or (get_or l.lanes lane []) c other) (l.from + t);
}
