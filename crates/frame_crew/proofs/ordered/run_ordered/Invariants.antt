-- The batches so far are worked and drained in the feed's order, each job lowering the bound of those to come.
use Rattle.std.proofs.Common.{◌≡◌, ◌+◌, ◌≤◌, All, length}
use Rattle.frame_crew.specs.Runs.{Ran}
use Rattle.frame_crew.proofs.ordered.run_ordered.Given as goal

abbrev pub invariant-loop-drained : goal.invariant-loop-drained
invariant-loop-drained g l = record {
  shapes : All (λ job. g.W.Job.Slot.shape job ≡ g.W.FrameWork.shape l.work) l.jobs;
  scratch_shapes : All (λ scratch. g.W.Scratch.Slot.shape scratch ≡ g.W.FrameWork.shape l.work) l.scratches;
  long : length l.jobs ≡ length l.initial.jobs;
  feed_shape : g.F.Feed.shape l.feed ≡ g.W.FrameWork.shape l.work;
  bound : g.F.Feed.bound l.feed + l.drained ≤ g.F.Feed.bound l.initial.feed;
  ran : Ran g.F.Feed.gives g.D.Drain.takes (g.W.FrameWork.done l.work) l.initial.feed l.feed l.initial.drain l.drain l.drained;
  drain_shape : g.D.Drain.shape l.drain ≡ g.W.FrameWork.shape l.work;
}

abbrev pub decreases-loop-drained : goal.decreases-loop-drained
decreases-loop-drained g l = g.F.Feed.bound l.feed
