-- The parts in front of the place are written.
use Rattle.std.proofs.Common.{◌≡◌, ◌-◌, ◌≤◌, length}
use Rattle.dst_ranges.proofs.Underway.{IsUnderway}
use Rattle.dst_ranges.proofs.pairs.write_between.Given as goal

abbrev pub invariant-loop-place : goal.invariant-loop-place
invariant-loop-place g l = record {
  bytes : g.S.Source.bytes l.source ≡ g.S.Source.bytes l.initial.source;
  known : g.S.Source.known l.source ≡ g.S.Source.known l.initial.source;
  later : g.S.Source.faults l.initial.source ≤ g.S.Source.faults l.source;
  sink_later : g.K.Sink.faults l.initial.sink ≤ g.K.Sink.faults l.sink;
  least : l.from ≤ l.place;
  most : l.place ≤ l.end;
  long : length l.buffer ≡ length l.initial.buffer;
  unchanged : l.from ≡ l.place → l.sink ≡ l.initial.sink;
  underway : IsUnderway l.initial.reader l.reader (length l.initial.buffer) l.from l.place l.end (g.S.Source.bytes l.initial.source)
      (g.S.Source.given l.initial.source) (g.S.Source.given l.source) (g.K.Sink.written l.initial.sink) (g.K.Sink.written l.sink)
      (g.K.Sink.room l.initial.sink) (g.K.Sink.room l.sink);
}

abbrev pub decreases-loop-place : goal.decreases-loop-place
decreases-loop-place g l = l.end - l.place
