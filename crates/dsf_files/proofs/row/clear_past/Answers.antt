-- The low bits of each channel's byte are cleared, one channel more each time.
use Rattle.std.proofs.Common.{rules}
use Rattle.dsf_files.proofs.row.clear_past.Goals as goal

pub loop-channel-preserved : goal.loop-channel-preserved
loop-channel-preserved c = search rules
