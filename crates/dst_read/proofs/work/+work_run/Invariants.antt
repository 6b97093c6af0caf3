-- The run that is left grows shorter.
use Rattle.std.proofs.Common.{length}
use Rattle.dst_read.proofs.work.+work_run.Given as goal

abbrev pub decreases-work_run : goal.decreases-work_run
decreases-work_run l = length l.run.now
