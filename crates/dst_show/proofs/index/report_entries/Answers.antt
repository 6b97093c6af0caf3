-- The line of one more entry behind those that are reported.
use Rattle.std.proofs.Common.{◌<◌, [], length, refl, ◌∙◌, arith}
use Rattle.dsdiff_spec.specs.Lines.{index_lines}
use Rattle.dst_commands.proofs.Writing.{added, cut_off}
use Rattle.dst_commands.proofs.InTurn.{one_more_part, stops_in_part, all_parts}
use Rattle.dst_show.proofs.InTurn.{with_feed, length-index_lines, is_line_of}
use Rattle.dst_show.proofs.LineByLine.{one_more_line, stops_at_line, adds_lines}
use Rattle.dst_show.proofs.index.report_entries.Goals as goal

pub returns-in_default-clause-written : goal.returns-in_default-clause-written
returns-in_default-clause-written g c =
    let line = is_line_of c.args.index.now c.loop-k.k c.entry-entry.result.offset c.entry-entry.result.size c.as_bytes.result.now
    (omega (arith, c.length-k-end.ensures.length, c.loop-k-test.true)) c.entry-entry.ensures
    (c.as_bytes.ensures.value ∙ c.deref.ensures.0 ∙ c.entry-line.ensures) in
    stops_in_part (Unit {0}) with_feed (index_lines c.args.index.now) c.loop-k.k [] c.as_bytes.result.now _ _ _ _ _ line.among line.is
    c.loop-k.invariant.written (cut_off _ c.as_bytes.result.now _ _ _ _ c.in_default.ensures.sure c.in_default.ensures.written)

pub returns-in_default-clause-by_lines : goal.returns-in_default-clause-by_lines
returns-in_default-clause-by_lines g c =
    let count = length-index_lines c.args.index.now in
    stops_at_line with_feed (index_lines c.args.index.now) (index_lines c.args.index.now) c.loop-k.k _ _ _ refl
    (omega (arith, count, c.length-k-end.ensures.length, c.loop-k-test.true)) c.loop-k.invariant.appended c.in_default.ensures.appended

pub loop-k-preserved : goal.loop-k-preserved
loop-k-preserved g c =
    let within : c.loop-k.k < length c.args.index.now = omega (arith, c.length-k-end.ensures.length, c.loop-k-test.true) in
    let line = is_line_of c.args.index.now c.loop-k.k c.entry-entry.result.offset c.entry-entry.result.size c.as_bytes.result.now within
    c.entry-entry.ensures (c.as_bytes.ensures.value ∙ c.deref.ensures.0 ∙ c.entry-line.ensures) in
    record {
      later = omega (arith, c.loop-k.invariant.later, c.in-Ok.ensures.cause.later);
      silent = λ none. absurd (omega (arith, none, within));
      written = one_more_part with_feed (index_lines c.args.index.now) c.loop-k.k [] c.as_bytes.result.now _ _ _ _ _ _ line.among line.is
          c.loop-k.invariant.written (added _ c.as_bytes.result.now _ _ _ _ c.in-Ok.ensures.sure c.in-Ok.ensures.written);
      appended = one_more_line with_feed (index_lines c.args.index.now) c.loop-k.k [] c.as_bytes.result.now _ _ _ line.among line.is
          c.loop-k.invariant.appended c.in-Ok.ensures.appended;
    }

pub returns-clause-written : goal.returns-clause-written
returns-clause-written g c =
    let count = length-index_lines c.args.index.now in
    all_parts with_feed (index_lines c.args.index.now) c.loop-k.k _ _ _ _
    (omega (arith, count, c.length-k-end.ensures.length, c.loop-k-test.false)) c.loop-k.invariant.written

pub returns-clause-by_lines : goal.returns-clause-by_lines
returns-clause-by_lines g c =
    let count = length-index_lines c.args.index.now in
    adds_lines with_feed (index_lines c.args.index.now) (index_lines c.args.index.now) c.loop-k.k _ _ refl
    (omega (arith, count, c.length-k-end.ensures.length, c.loop-k-test.false)) c.loop-k.invariant.appended
