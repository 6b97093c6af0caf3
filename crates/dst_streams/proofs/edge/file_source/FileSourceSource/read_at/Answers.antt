-- A read that succeeds leaves the count of faults.
use Rattle.std.proofs.Common.{rules}
use Rattle.dst_streams.proofs.edge.file_source.FileSourceSource.read_at.Goals as goal

pub returns-in-Ok-clause-quiet : goal.returns-in-Ok-clause-quiet
returns-in-Ok-clause-quiet c = search rules
