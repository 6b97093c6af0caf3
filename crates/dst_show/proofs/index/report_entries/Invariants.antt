-- The lines of the entries that the loop has passed are reported.
use Rattle.std.proofs.Common.{◌≡◌, ◌+◌, ◌≤◌, length, take}
use Rattle.std.specs.Prelude.{flat_map}
use Rattle.dsdiff_spec.specs.Lines.{index_lines}
use Rattle.dst_commands.specs.Writing.{Adds}
use Rattle.dst_show.proofs.InTurn.{with_feed}
use Rattle.dst_show.proofs.index.report_entries.Given as goal

abbrev pub invariant-loop-k : goal.invariant-loop-k
invariant-loop-k g l = record {
  later : g.T.Sink.faults l.initial.report ≤ g.T.Sink.faults l.report;
  silent : length l.index ≡ 0 → l.report ≡ l.initial.report;
  written : Adds (flat_map with_feed (take l.k (index_lines l.index))) (g.T.Sink.written l.initial.report) (g.T.Sink.written l.report)
      (g.T.Sink.room l.initial.report) (g.T.Sink.room l.report);
  appended : g.T.Sink.appended l.report ≡ g.T.Sink.appended l.initial.report + length (flat_map with_feed (take l.k (index_lines l.index)));
}
