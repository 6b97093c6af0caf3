-- The bytes of `out` up to the place are the source's, which gave no more than these.
use Rattle.std.proofs.Common.{◌≡◌, ℕ, ◌+◌, ◌-◌, ◌^◌, ◌<◌, ◌≤◌, List, length, take, Some}
use Rattle.dst_streams.specs.Told.{counted}
use Rattle.dsdiff_spec.specs.Bytes.{bytes_at}
use Rattle.dsdiff_chunks.proofs.read.read_range.Given as goal

abbrev pub invariant-loop-place : goal.invariant-loop-place
invariant-loop-place g l = record {
  within : l.place ≤ length l.initial.out;
  bytes : g.S.Source.bytes l.source ≡ g.S.Source.bytes l.initial.source;
  known : g.S.Source.known l.source ≡ g.S.Source.known l.initial.source;
  loan : g.S.Source.loan l.source ≡ g.S.Source.loan l.initial.source;
  read : (xs : List ℕ) → g.S.Source.bytes l.initial.source ≡ Some xs → take l.place l.out ≡ bytes_at xs l.from l.place;
  given : g.S.Source.given l.source ≤ g.S.Source.given l.initial.source + l.place;
  given_whole : g.S.Source.given l.initial.source < 2 ^ 64 → g.S.Source.given l.source ≡ counted (g.S.Source.given l.initial.source) l.place;
  faults : g.S.Source.faults l.source ≡ g.S.Source.faults l.initial.source;
}

abbrev pub decreases-loop-place : goal.decreases-loop-place
decreases-loop-place g l = length l.out - l.place
