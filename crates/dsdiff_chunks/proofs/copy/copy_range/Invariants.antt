-- The range up to the place is written behind what the sink had, and what the source tells is as it was.
use Rattle.std.proofs.Common.{◌≡◌, ℕ, ◌+◌, ◌-◌, ◌≤◌, List, take, drop, Some}
use Rattle.dst_streams.specs.Told.{and_then}
use Rattle.dsdiff_chunks.proofs.copy.copy_range.Given as goal

abbrev pub invariant-loop-place : goal.invariant-loop-place
invariant-loop-place g l = record {
  from_place : l.from ≤ l.place;
  place_to : l.place ≤ l.to;
  bytes : g.S.Source.bytes l.source ≡ g.S.Source.bytes l.initial.source;
  known : g.S.Source.known l.source ≡ g.S.Source.known l.initial.source;
  loan : g.S.Source.loan l.source ≡ g.S.Source.loan l.initial.source;
  copied : (xs : List ℕ) → g.S.Source.bytes l.initial.source ≡ Some xs →
      g.K.Sink.written l.sink ≡ and_then (g.K.Sink.written l.initial.sink) (take (l.place - l.from) (drop l.from xs));
  sure : (room : ℕ) → g.K.Sink.room l.initial.sink ≡ Some room → l.to - l.from ≤ room → g.K.Sink.room l.sink ≡ Some (room - (l.place - l.from));
  appended : g.K.Sink.appended l.sink ≡ g.K.Sink.appended l.initial.sink + (l.place - l.from);
  given : g.S.Source.given l.source ≤ g.S.Source.given l.initial.source + (l.place - l.from);
  source_faults : g.S.Source.faults l.initial.source ≤ g.S.Source.faults l.source;
  sink_faults : g.K.Sink.faults l.initial.sink ≤ g.K.Sink.faults l.sink;
}

abbrev pub decreases-loop-place : goal.decreases-loop-place
decreases-loop-place g l = l.to - l.place
