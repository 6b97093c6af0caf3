-- The first jobs are lent.
use Rattle.std.proofs.Common.{◌≡◌, ℕ, ◌<◌, ◌≤◌, get_or}
use Rattle.dst_frames.specs.declared.stored.StoredFrame.{StoredFrame}
use Rattle.dst_frames.specs.declared.stored.DecodedFrame.{DecodedFrame}
use Rattle.dst_read.specs.declared.jobs.Job.{Job}
use Rattle.dst_read.specs.Lending.{IsLent}
use Rattle.dst_read.proofs.work.lend_all.Given as goal

abbrev pub invariant-loop-n : goal.invariant-loop-n
invariant-loop-n l = record {
  lent : (m : ℕ) (job : Job) (frame : StoredFrame) (sound : DecodedFrame) → m < l.n →
      IsLent (get_or l.initial.run m job) (get_or l.run m job) (get_or l.frames m frame) (get_or l.heard m sound);
  left : (m : ℕ) (job : Job) → l.n ≤ m → get_or l.run m job ≡ get_or l.initial.run m job;
}
