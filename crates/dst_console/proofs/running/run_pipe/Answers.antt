-- What stands behind each status is that of the call over a flow and a sink as they are made.
use Rattle.std.proofs.Common.{map, ap, sym, subst, ◌∙◌}
use Rattle.std.specs.String.{string_bytes}
use Rattle.dst_streams.specs.Causes.{Rose}
use Rattle.dst_tool.specs.Runs.{DidNotRise}
use Rattle.pipe_tool.specs.Runs.{Ends}
use Rattle.dst_console.proofs.running.run_pipe.Goals as goal

pub returns-clause-complete : goal.returns-clause-complete
returns-clause-complete g c = λ w tells none no_read no_write no_report.
    c.dst_pipe-status.ensures.complete w (c.flow-input.ensures.left ∙ tells) none
    (subst (λ before. DidNotRise before (g.D.Flow.Flow.faults c.dst_pipe-status.new.flow)) (sym c.flow-input.ensures.faults) no_read)
    (subst (λ before. DidNotRise before (g.D.Sink.Sink.faults c.dst_pipe-status.new.sink)) (sym c.sink-output.ensures.faults) no_write)
    no_report

pub returns-clause-ends : goal.returns-clause-ends
returns-clause-ends g c = λ w tells.
    let words = map string_bytes c.args.words.now in
    let held = c.sink-output.ensures.written ∙ ap (g.D.Devices.holds c.args.devices.now) c.word_at.ensures in
    let end = c.dst_pipe-status.ensures.ends w (c.flow-input.ensures.left ∙ tells) in
    let flow = c.dst_pipe-status.new.flow in
    let sink = c.dst_pipe-status.new.sink in (
      end.0,
      end.1,
      subst (λ old. Ends words w end.0 end.1 old (g.D.Sink.Sink.written sink)) held end.2,
      λ two. subst (λ before. Rose before (g.D.Flow.Flow.faults flow)) c.flow-input.ensures.faults (end.3 two),
      λ three. subst (λ before. Rose before (g.D.Sink.Sink.faults sink)) c.sink-output.ensures.faults (end.4 three),
      end.5,
    )
