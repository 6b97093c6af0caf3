-- The jobs so far are done, and those behind are as they were.
use Rattle.std.proofs.Common.{◌≡◌, All, take, drop}
use Rattle.std.specs.List.{AllZip}
use Rattle.frame_crew.proofs.turn.InTurnFrameWork.work.Given as goal

abbrev pub invariant-loop-job : goal.invariant-loop-job
invariant-loop-job g l = record {
  done : AllZip (g.W.JobWork.done l.self.each) (take l.job-index l.initial.run) (take l.job-index l.run);
  rest : drop l.job-index l.run ≡ drop l.job-index l.initial.run;
  shapes : All (λ job. g.W.Job.Slot.shape job ≡ g.W.JobWork.shape l.self.each) l.run;
  scratch : g.W.Scratch.Slot.shape l.scratch ≡ g.W.JobWork.shape l.self.each;
}
