-- The entries that the loop has passed are written.
use Rattle.std.proofs.Common.{◌≤◌, ◌≡◌, ◌-◌, length, take}
use Rattle.dst_commands.specs.Writing.{Adds}
use Rattle.dst_cut.specs.CutLayout.{count, entries_left, index_bytes}
use Rattle.dst_cut.proofs.cut_index.write_entries.Given as goal

abbrev pub invariant-loop-k : goal.invariant-loop-k
invariant-loop-k g l = record {
  later : g.K.Sink.faults l.initial.sink ≤ g.K.Sink.faults l.sink;
  inside : l.k ≤ count l.cut.first l.cut.last;
  written : Adds (index_bytes (take l.k (entries_left l.cut.index l.cut.first l.cut.last l.place))) (g.K.Sink.written l.initial.sink)
      (g.K.Sink.written l.sink) (g.K.Sink.room l.initial.sink) (g.K.Sink.room l.sink);
  long : length l.buffer ≡ 65536;
}

abbrev pub decreases-loop-k : goal.decreases-loop-k
decreases-loop-k g l = count l.cut.first l.cut.last - l.k
