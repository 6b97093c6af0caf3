-- One more line behind those that are reported.
use Rattle.std.proofs.Common.{ap, ◌∙◌, arith}
use Rattle.dst_commands.proofs.Writing.{added, cut_off}
use Rattle.dst_commands.proofs.InTurn.{one_more_part, stops_in_part}
use Rattle.dst_show.proofs.LineByLine.{one_more_line, stops_at_line, adds_lines}
use Rattle.dst_show.proofs.index.report_lines.Goals as goal

pub returns-in_default-clause-written : goal.returns-in_default-clause-written
returns-in_default-clause-written g c =
    stops_in_part (Unit {0}) (λ line. line.bytes) c.args.lines.now c.loop-line.line-index c.line-item.result c.as_bytes.result.now _ _ _ _ _
    c.loop-line-test.true
    (c.as_bytes.ensures.value ∙ c.deref.ensures.0 ∙ ap (λ line. line.bytes) c.line-item.is) c.loop-line.invariant.written
    (cut_off _ c.as_bytes.result.now _ _ _ _ c.in_default.ensures.sure c.in_default.ensures.written)

pub returns-in_default-clause-by_lines : goal.returns-in_default-clause-by_lines
returns-in_default-clause-by_lines g c told e =
    stops_at_line (λ line. line.bytes) c.args.lines.now told c.loop-line.line-index _ _ _ e c.loop-line-test.true c.loop-line.invariant.appended
    c.in_default.ensures.appended

pub loop-line-preserved : goal.loop-line-preserved
loop-line-preserved g c = record {
  later = omega (arith, c.loop-line.invariant.later, c.in-Ok.ensures.cause.later);
  written =
      one_more_part (λ line. line.bytes) c.args.lines.now c.loop-line.line-index c.line-item.result c.as_bytes.result.now _ _ _ _ _ _ c.loop-line-test.true
      (c.as_bytes.ensures.value ∙ c.deref.ensures.0 ∙ ap (λ line. line.bytes) c.line-item.is) c.loop-line.invariant.written
      (added _ c.as_bytes.result.now _ _ _ _ c.in-Ok.ensures.sure c.in-Ok.ensures.written);
  appended =
      one_more_line (λ line. line.bytes) c.args.lines.now c.loop-line.line-index c.line-item.result c.as_bytes.result.now _ _ _ c.loop-line-test.true
      (c.as_bytes.ensures.value ∙ c.deref.ensures.0 ∙ ap (λ line. line.bytes) c.line-item.is) c.loop-line.invariant.appended c.in-Ok.ensures.appended;
}

pub returns-clause-by_lines : goal.returns-clause-by_lines
returns-clause-by_lines g c told e =
    adds_lines (λ line. line.bytes) c.args.lines.now told c.loop-line.line-index _ _ e (omega (arith, c.loop-line-test.false)) c.loop-line.invariant.appended
