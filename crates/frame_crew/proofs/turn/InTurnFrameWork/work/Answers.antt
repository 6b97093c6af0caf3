-- The next job is still as it was given, and it is done now; the scratch keeps its shape.
use Rattle.std.proofs.Common.{◌≡◌, ◌<◌, length, arith}
use Rattle.std.proofs.lemmas.List.{take_more, take_more_set}
use Rattle.std.proofs.lemmas.List.Elements.{All-set, AllZip-push}
use Rattle.frame_crew.proofs.Lists.{same_at, same_after}
use Rattle.frame_crew.proofs.turn.InTurnFrameWork.work.Goals as goal

pub loop-job-preserved : goal.loop-job-preserved
loop-job-preserved g c =
    let inside : c.loop-job.job-index < length c.loop-job.run = omega arith in
    let begun : c.loop-job.job-index < length c.args.run.now = omega arith in
    let same = same_at c.loop-job.run c.args.run.now c.loop-job.job-index c.job-item.result c.loop-job.invariant.rest in
    let done = rw same at c.work_job.ensures.done in
    record {
      done = rw (
        take_more c.args.run.now c.loop-job.job-index c.job-item.result begun,
        take_more_set c.loop-job.run c.loop-job.job-index
            c.work_job.new.job inside,
      )
          (AllZip-push _ _ _ _ _ c.loop-job.invariant.done done);
      rest = same_after c.loop-job.run c.args.run.now c.loop-job.job-index c.work_job.new.job c.loop-job.invariant.rest;
      shapes = All-set (λ job. g.W.Job.Slot.shape job ≡ g.W.JobWork.shape c.args.self.now.each) c.loop-job.run c.loop-job.job-index c.work_job.new.job
          c.work_job.ensures.shape c.loop-job.invariant.shapes;
      scratch = c.work_job.ensures.scratch;
    }
