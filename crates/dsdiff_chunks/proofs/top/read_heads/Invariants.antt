-- The chunks so far reach from place 16 up to this one, and they stand in front of those that are still to be found.
use Rattle.std.proofs.Common.{◌≡◌, ℕ, ◌+◌, ◌-◌, ◌*◌, ◌≤◌, List, ◌++◌, map, length, true, Some, vec_capacity}
use Rattle.std.specs.List.{All}
use Rattle.dsdiff_spec.specs.Chunks.{Head, chunks_from, fits}
use Rattle.dsdiff_chunks.specs.Lawful.{TileTo}
use Rattle.dsdiff_chunks.specs.Opening.{may_lack_pad}
use Rattle.dsdiff_chunks.specs.Seen.{head_seen}
use Rattle.dsdiff_chunks.proofs.TopLevel.{in_front}
use Rattle.dsdiff_chunks.proofs.top.read_heads.Given as goal

abbrev pub invariant-loop-place : goal.invariant-loop-place
invariant-loop-place g l = record {
  bytes : g.S.Source.bytes l.source ≡ g.S.Source.bytes l.initial.source;
  known : g.S.Source.known l.source ≡ g.S.Source.known l.initial.source;
  loan : g.S.Source.loan l.source ≡ g.S.Source.loan l.initial.source;
  faults : g.S.Source.faults l.initial.source ≤ g.S.Source.faults l.source;
  given : g.S.Source.given l.source ≤ g.S.Source.given l.initial.source + 12 * length l.heads.items;
  few : length l.heads.items ≤ 1024;
  room : vec_capacity l.heads ≡ 1024;
  after : 16 ≤ l.place;
  before : l.place ≤ l.end + 1;
  tiled : (more : List Head) → TileTo l.end l.place more → TileTo l.end 16 (map head_seen l.heads.items ++ more);
  whole : All (λ h. fits may_lack_pad l.end h ≡ true) (map head_seen l.heads.items);
  found : (xs : List ℕ) → g.S.Source.bytes l.initial.source ≡ Some xs →
      chunks_from may_lack_pad xs l.end 1024 16 ≡ in_front (map head_seen l.heads.items)
      (chunks_from may_lack_pad xs l.end (1024 - length l.heads.items) l.place);
}

abbrev pub decreases-loop-place : goal.decreases-loop-place
decreases-loop-place g l = l.end - l.place
