-- Each pair is a byte of both channels.
use Rattle.std.proofs.Common.{rules}
use Rattle.dsf_files.proofs.row.copy_pairs.Goals as goal

pub loop-pair-preserved : goal.loop-pair-preserved
loop-pair-preserved c = search rules
