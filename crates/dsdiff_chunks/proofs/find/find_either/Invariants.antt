-- What was found are those of the chunks so far that have one of the ids.
use Rattle.std.proofs.Common.{map, take}
use Rattle.std.specs.Prelude.{◌||◌, bytes_eq, filter}
use Rattle.dsdiff_chunks.specs.Found.{FoundAre}
use Rattle.dsdiff_chunks.specs.Seen.{head_seen}
use Rattle.dsdiff_chunks.proofs.find.find_either.Given as goal

abbrev pub invariant-loop-head : goal.invariant-loop-head
invariant-loop-head l =
    FoundAre l.found (filter (λ h. bytes_eq h.id l.id || bytes_eq h.id l.other) (map head_seen (take l.head-index l.heads)))
