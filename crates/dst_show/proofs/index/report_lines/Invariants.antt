-- The lines that the loop has passed are reported.
use Rattle.std.proofs.Common.{◌≡◌, ◌+◌, ◌≤◌, length, take}
use Rattle.std.specs.Prelude.{flat_map}
use Rattle.dst_commands.specs.Writing.{Adds}
use Rattle.dst_show.proofs.index.report_lines.Given as goal

abbrev pub invariant-loop-line : goal.invariant-loop-line
invariant-loop-line g l = record {
  later : g.T.Sink.faults l.initial.report ≤ g.T.Sink.faults l.report;
  written : Adds (flat_map (λ line. line.bytes) (take l.line-index l.lines)) (g.T.Sink.written l.initial.report) (g.T.Sink.written l.report)
      (g.T.Sink.room l.initial.report) (g.T.Sink.room l.report);
  appended : g.T.Sink.appended l.report ≡ g.T.Sink.appended l.initial.report + length (flat_map (λ line. line.bytes) (take l.line-index l.lines));
}
