-- The samples so far have their steps in the lane; those before the run, other channels and other lanes stay.
use Rattle.std.proofs.Common.{◌≡◌, ◌≢◌, ℕ, ◌+◌, ◌*◌, ◌<◌, ◌≤◌, [], length, get_or}
use Rattle.frame_store.proofs.lanes.fill_run.Given as goal

abbrev pub invariant-loop-t : goal.invariant-loop-t
invariant-loop-t l = record {
  long : length l.steps ≡ length l.initial.steps;
  eights : (k : ℕ) → k < length l.steps → length (get_or l.steps k []) ≡ 8;
  here : (t : ℕ) → t < l.t → l.begin ≤ t → get_or (get_or l.steps (t * l.channels + l.c) []) l.lane 0 ≡ get_or l.table (get_or l.codes t 0) 0;
  before : (t : ℕ) → t < l.begin
      → get_or (get_or l.steps (t * l.channels + l.c) []) l.lane 0 ≡ get_or (get_or l.initial.steps (t * l.channels + l.c) []) l.lane 0;
  channels : (t d : ℕ) → d < l.channels → d ≢ l.c
      → get_or (get_or l.steps (t * l.channels + d) []) l.lane 0 ≡ get_or (get_or l.initial.steps (t * l.channels + d) []) l.lane 0;
  lanes : (k other : ℕ) → other ≢ l.lane → get_or (get_or l.steps k []) other 0 ≡ get_or (get_or l.initial.steps k []) other 0;
}
