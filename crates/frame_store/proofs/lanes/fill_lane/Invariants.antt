-- The channels so far have their steps in the lane, and the other lanes are as they were.
use Rattle.std.proofs.Common.{◌≡◌, ◌≢◌, ℕ, ◌+◌, ◌*◌, ◌<◌, [], length, get_or}
use Rattle.frame_store.specs.declared.coded.ChannelSteps.{ChannelSteps}
use Rattle.frame_store.specs.Coded.{step_at}
use Rattle.frame_store.proofs.lanes.fill_lane.Given as goal

abbrev pub invariant-loop-c : goal.invariant-loop-c
invariant-loop-c l = record {
  long : length l.steps ≡ length l.initial.steps;
  here : (c t : ℕ) (other : ChannelSteps) → c < l.c → t < l.count
      → get_or (get_or l.steps (t * l.predictions.channels.channels + c) []) l.lane 0
      ≡ step_at l.predictions.channels l.predictions.sound l.predictions.rows l.first (get_or l.coded c other) (l.from + t);
  lanes : (k other : ℕ) → other ≢ l.lane → get_or (get_or l.steps k []) other 0 ≡ get_or (get_or l.initial.steps k []) other 0;
}
