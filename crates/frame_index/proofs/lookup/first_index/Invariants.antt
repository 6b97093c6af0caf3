-- None of the heads so far is that of a `DSTI`.
use Rattle.std.proofs.Common.{◌≡◌, map, drop}
use Rattle.dsdiff_spec.specs.Chunks.{named}
use Rattle.dsdiff_chunks.specs.Seen.{head_seen}
use Rattle.frame_index.proofs.lookup.first_index.Given as goal

abbrev pub invariant-loop-head : goal.invariant-loop-head
invariant-loop-head l = named "DSTI" (map head_seen l.heads) ≡ named "DSTI" (map head_seen (drop l.head-index l.heads))
