-- What stands behind each status is that of the call over devices as they are made.
use Rattle.std.proofs.Common.{map, ap, sym, subst, subst₂, ◌∙◌}
use Rattle.std.specs.String.{string_bytes}
use Rattle.dst_tool.specs.Runs.{Ends, IsCaused}
use Rattle.dst_console.proofs.running.run_named.Goals as goal

pub returns-clause-ends : goal.returns-clause-ends
returns-clause-ends g c = λ file tells.
    let words = map string_bytes c.args.words.now in
    let source = c.dst_run-status.new.source in
    let sink = c.dst_run-status.new.sink in
    let bytes = c.source-input.ensures.bytes ∙ ap (g.D.Devices.reads c.args.devices.now) c.word_at.ensures ∙ tells in
    let held = c.sink-output.ensures.written ∙ ap (g.D.Devices.holds c.args.devices.now) c.word_at-2.ensures in
    let end = c.dst_run-status.ensures.ends file bytes in (
      end.0,
      end.1,
      subst (λ old. Ends words file end.0 end.1 old (g.D.Sink.Sink.written sink)) held end.2,
      subst₂ (λ reads writes. IsCaused end.0 reads (g.D.Source.Source.faults source) writes (g.D.Sink.Sink.faults sink))
          c.source-input.ensures.faults c.sink-output.ensures.faults end.3,
      end.4,
    )

-- of a refused file the sink is as it is made
pub returns-clause-no_output : goal.returns-clause-no_output
returns-clause-no_output g c = λ file fault tells refused.
    let bytes = c.source-input.ensures.bytes ∙ ap (g.D.Devices.reads c.args.devices.now) c.word_at.ensures ∙ tells in
    subst₂ (λ word sink. g.D.Devices.makes_sink c.args.devices.now word sink) c.word_at-2.ensures
    (sym (c.dst_run-status.ensures.no_output file fault bytes refused)) c.sink-output.ensures.made
