-- The bytes read so far are taken and answered, and the stream waits for more.
use Rattle.std.proofs.Common.{◌≡◌, ◌+◌, ◌-◌, ◌≤◌, None}
use Rattle.std.specs.Prelude.{◌^◌}
use Rattle.dst_pipes.proofs.Waiting.{IsWaiting}
use Rattle.dst_pipes.proofs.pipe.run.Given as goal

-- all bytes that were read are taken, and nothing is due of them
abbrev pub invariant-loop-read : goal.invariant-loop-read
invariant-loop-read g l = record {
  waiting : IsWaiting l.decoder l.work l.read (g.K.Sink.written l.initial.sink) (g.K.Sink.written l.sink) (g.K.Sink.room l.initial.sink) (g.K.Sink.room l.sink)
      (g.F.Flow.left l.initial.flow) (g.F.Flow.left l.flow);
  most : l.read ≤ 2 ^ 50 + 12;
  flow_later : g.F.Flow.faults l.initial.flow ≤ g.F.Flow.faults l.flow;
  sink_later : g.K.Sink.faults l.initial.sink ≤ g.K.Sink.faults l.sink;
  untouched : l.work ≡ None → l.sink ≡ l.initial.sink;
}

abbrev pub decreases-loop-read : goal.decreases-loop-read
decreases-loop-read g l = 2 ^ 50 + 13 - l.read
