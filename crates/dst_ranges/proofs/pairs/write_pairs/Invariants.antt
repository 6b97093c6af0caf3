-- The pairs so far are written.
use Rattle.std.proofs.Common.{◌≡◌, ◌*◌, ◌≤◌, length, take}
use Rattle.dst_spec.specs.Sample.{sound_bytes}
use Rattle.dst_ranges.specs.Asked.{groups_asked}
use Rattle.dst_ranges.specs.Parts.{parts_of}
use Rattle.dst_ranges.specs.Reading.{Wrote}
use Rattle.dst_ranges.proofs.pairs.write_pairs.Given as goal

abbrev pub invariant-loop-first : goal.invariant-loop-first
invariant-loop-first g l = record {
  bytes : g.S.Source.bytes l.source ≡ g.S.Source.bytes l.initial.source;
  known : g.S.Source.known l.source ≡ g.S.Source.known l.initial.source;
  later : g.S.Source.faults l.initial.source ≤ g.S.Source.faults l.source;
  sink_later : g.K.Sink.faults l.initial.sink ≤ g.K.Sink.faults l.sink;
  buffer : length l.opened.buffer.items ≡ length l.initial.opened.buffer.items;
  count : l.bytes ≡ groups_asked (take l.first-index l.pairs) * l.initial.opened.channels.channels;
  most : l.bytes ≤ l.first-index * 112896000000;
  unchanged : groups_asked (take l.first-index l.pairs) ≡ 0 → l.sink ≡ l.initial.sink;
  wrote : Wrote l.initial.opened.reader l.opened.reader
      (parts_of (sound_bytes l.initial.opened.reader.shape) l.initial.opened.channels.channels (take l.first-index l.pairs))
      (g.S.Source.bytes l.initial.source) (g.S.Source.given l.initial.source) (g.S.Source.given l.source)
      (g.K.Sink.written l.initial.sink) (g.K.Sink.written l.sink) (g.K.Sink.room l.initial.sink) (g.K.Sink.room l.sink);
}
