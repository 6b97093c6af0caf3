-- A byte holds eight samples.
use Rattle.std.proofs.Common.{rules}
use Rattle.dst_num.proofs.channels.Channels.sound_bytes.Goals as goal

pub returns-clause-bytes : goal.returns-clause-bytes
returns-clause-bytes c = search rules
