-- The first jobs have what was lent of them.
use Rattle.std.proofs.Common.{◌≡◌, ℕ, ◌<◌, ◌≤◌, get_or}
use Rattle.dst_frames.specs.declared.stored.StoredFrame.{StoredFrame}
use Rattle.dst_frames.specs.declared.stored.DecodedFrame.{DecodedFrame}
use Rattle.dst_read.specs.declared.jobs.Job.{Job}
use Rattle.dst_read.specs.Lending.{given_back}
use Rattle.dst_read.proofs.work.give_back_all.Given as goal

abbrev pub invariant-loop-n : goal.invariant-loop-n
invariant-loop-n l = record {
  back : (m : ℕ) (job : Job) (frame : StoredFrame) (sound : DecodedFrame) → m < l.n →
      get_or l.run m job ≡ given_back (get_or l.initial.run m job) (get_or l.initial.frames m frame) (get_or l.initial.heard m sound);
  run_left : (m : ℕ) (job : Job) → l.n ≤ m → get_or l.run m job ≡ get_or l.initial.run m job;
  frames_left : (m : ℕ) (frame : StoredFrame) → l.n ≤ m → get_or l.frames m frame ≡ get_or l.initial.frames m frame;
  heard_left : (m : ℕ) (sound : DecodedFrame) → l.n ≤ m → get_or l.heard m sound ≡ get_or l.initial.heard m sound;
}
