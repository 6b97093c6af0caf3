-- The chunks that the loop has passed are written.
use Rattle.std.proofs.Common.{◌≡◌, ℕ, ◌+◌, ◌≤◌, List, length, drop, Some}
use Rattle.dst_commands.specs.Passing.{form_of}
use Rattle.dst_commands.specs.Writing.{Adds}
use Rattle.dst_commands.proofs.PassedOn.{passed_to}
use Rattle.dst_commands.proofs.Taken.{taken}
use Rattle.dst_commands.proofs.chunks.pass_chunks.Given as goal

abbrev pub invariant-loop-head : goal.invariant-loop-head
invariant-loop-head g l = record {
  bytes : g.S.Source.bytes l.source ≡ g.S.Source.bytes l.initial.source;
  known : g.S.Source.known l.source ≡ g.S.Source.known l.initial.source;
  loan : g.S.Source.loan l.source ≡ g.S.Source.loan l.initial.source;
  source_later : g.S.Source.faults l.initial.source ≤ g.S.Source.faults l.source;
  sink_later : g.K.Sink.faults l.initial.sink ≤ g.K.Sink.faults l.sink;
  given : g.S.Source.given l.source + taken l.side (form_of l.passed) (drop l.head-index (form_of l.passed).chunks)
      ≤ g.S.Source.given l.initial.source + taken l.side (form_of l.passed) (form_of l.passed).chunks;
  appended : (file : List ℕ) → (form_of l.passed).end ≤ length file →
      g.K.Sink.appended l.sink ≡ g.K.Sink.appended l.initial.sink + length (passed_to l.side file l.passed l.head-index);
  written : (file : List ℕ) → g.S.Source.bytes l.initial.source ≡ Some file →
      Adds (passed_to l.side file l.passed l.head-index) (g.K.Sink.written l.initial.sink) (g.K.Sink.written l.sink) (g.K.Sink.room l.initial.sink)
      (g.K.Sink.room l.sink);
}
