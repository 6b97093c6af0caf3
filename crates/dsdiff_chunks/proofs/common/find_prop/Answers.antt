-- The only `PROP` is one of the chunks, so it lies before the end.
use Rattle.std.proofs.Common.{map}
use Rattle.dsdiff_chunks.specs.Seen.{head_seen}
use Rattle.dsdiff_chunks.proofs.Only.{only_within}
use Rattle.dsdiff_chunks.proofs.common.find_prop.Goals as goal

pub returns-clause-within : goal.returns-clause-within
returns-clause-within c =
    only_within _ c.args.end (map head_seen c.args.heads.now) (head_seen c.in-One.head) c.in-One.ensures c.requires.tiled
