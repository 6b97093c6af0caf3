-- One frame more is decoded to what it means.
use Rattle.std.proofs.Common.{rules}
use Rattle.dst_frames.proofs.batch.decode_each.Goals as goal

pub returns-clause-decoded : goal.returns-clause-decoded
returns-clause-decoded c = search rules
