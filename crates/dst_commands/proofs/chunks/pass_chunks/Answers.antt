-- The loop writes chunk by chunk.
use Rattle.std.proofs.Common.{◌≡◌, ◌+◌, [], length, ap, sym, ◌∙◌, arith}
use Rattle.dsdiff_chunks.specs.declared.lists.ChunkHead.{ChunkHead}
use Rattle.dsdiff_chunks.specs.declared.copy.CopyFault.{CopyFault}
use Rattle.dst_commands.specs.Passing.{form_of}
use Rattle.dst_commands.proofs.Writing.{adds_same}
use Rattle.dsdiff_chunks.proofs.LawfulForms.{head_inside}
use Rattle.dst_commands.proofs.PassedOn.{adds_more, failed_since, length_more, lent_is_lawful, one_more_left, passed_all_of, stops_in_chunk}
use Rattle.dst_commands.proofs.Taken.{one_more_taken, one_gone_taken, taken_on_side}
use Rattle.dst_commands.proofs.chunks.pass_chunks.Goals as goal

abbrev none : ChunkHead
none = record { id = []; place = 0; size = 0 }

pub pass_chunk-requires-clause-within : goal.pass_chunk-requires-clause-within
pass_chunk-requires-clause-within g c =
    head_inside (form_of c.args.passed.now) c.heads-head-items.result.now c.loop-head.head-index none (lent_is_lawful c.args.passed.now.form)
    (sym c.heads-head-items.ensures) c.loop-head-test.true

pub pass_chunk-requires-clause-size : goal.pass_chunk-requires-clause-size
pass_chunk-requires-clause-size g c = (c.requires.size.0, c.loop-head.invariant.known ∙ c.requires.size.1, c.requires.size.2)

pub loop-head-preserved-then-not-passes : goal.loop-head-preserved-then-not-passes
loop-head-preserved-then-not-passes g c = record {
  bytes = c.loop-head.invariant.bytes;
  known = c.loop-head.invariant.known;
  loan = c.loop-head.invariant.loan;
  source_later = c.loop-head.invariant.source_later;
  sink_later = c.loop-head.invariant.sink_later;
  given = omega (
    arith,
    c.loop-head.invariant.given,
    one_more_taken c.args.side (form_of c.args.passed.now) c.heads-head-items.result.now
        c.loop-head.head-index none (sym c.heads-head-items.ensures) c.loop-head-test.true,
  );
  appended = λ file fits.
      c.loop-head.invariant.appended file fits
      ∙ ap (λ w. g.K.Sink.appended c.args.sink.now + length w)
      (one_more_left c.args.side file c.args.passed.now c.heads-head-items.result.now c.loop-head.head-index none
      (sym c.heads-head-items.ensures) c.loop-head-test.true (sym c.passes.ensures ∙ c.if-not-passes.true));
  written = λ file told.
      adds_same _ _ _ _ _ _ (one_more_left c.args.side file c.args.passed.now c.heads-head-items.result.now c.loop-head.head-index none
      (sym c.heads-head-items.ensures) c.loop-head-test.true (sym c.passes.ensures ∙ c.if-not-passes.true))
      (c.loop-head.invariant.written file told);
}

pub loop-head-preserved : goal.loop-head-preserved
loop-head-preserved g c = record {
  bytes = c.in_default.ensures.bytes ∙ c.loop-head.invariant.bytes;
  known = c.in_default.ensures.stays ∙ c.loop-head.invariant.known;
  loan = c.in_default.ensures.loan ∙ c.loop-head.invariant.loan;
  source_later = omega (arith, c.in_default.ensures.source_later, c.loop-head.invariant.source_later);
  sink_later = omega (arith, c.in_default.ensures.sink_later, c.loop-head.invariant.sink_later);
  given =
      let more = one_gone_taken c.args.side (form_of c.args.passed.now) c.heads-head-items.result.now c.loop-head.head-index none
      (sym c.heads-head-items.ensures) c.loop-head-test.true (sym c.passes.ensures ∙ c.if-not-passes.false) in
      omega (arith, c.loop-head.invariant.given, c.in_default.ensures.given, more);
  appended = λ file fits.
      let more = length_more c.args.side file c.args.passed.now c.heads-head-items.result.now c.loop-head.head-index none
      (sym c.heads-head-items.ensures) c.loop-head-test.true (sym c.passes.ensures ∙ c.if-not-passes.false) in
      omega (arith, c.loop-head.invariant.appended file fits, c.in_default.ensures.appended file fits, more);
  written = λ file told.
      adds_more c.args.side file c.args.passed.now c.heads-head-items.result.now c.loop-head.head-index none
      (sym c.heads-head-items.ensures) c.loop-head-test.true (sym c.passes.ensures ∙ c.if-not-passes.false) _ _ _ _ _ _
      (c.loop-head.invariant.written file told) (c.in_default.ensures.written file (c.loop-head.invariant.bytes ∙ told));
}

pub returns-in-Err-clause-written : goal.returns-in-Err-clause-written
returns-in-Err-clause-written g c file told =
    stops_in_chunk c.args.side file c.args.passed.now c.heads-head-items.result.now c.loop-head.head-index none (sym c.heads-head-items.ensures)
    c.loop-head-test.true (sym c.passes.ensures ∙ c.if-not-passes.false) (c.in-Err.fault ≡ CopyFault.Write) _ _ _ _ _
    (c.loop-head.invariant.written file told) (c.in-Err.ensures.written file (c.loop-head.invariant.bytes ∙ told))

pub returns-in-Err-clause-given : goal.returns-in-Err-clause-given
returns-in-Err-clause-given g c =
    let form = form_of c.args.passed.now in
    let more = one_gone_taken c.args.side form c.heads-head-items.result.now c.loop-head.head-index none (sym c.heads-head-items.ensures)
    c.loop-head-test.true (sym c.passes.ensures ∙ c.if-not-passes.false) in
    let most = taken_on_side c.args.side form (lent_is_lawful c.args.passed.now.form) in
    omega (arith, c.loop-head.invariant.given, c.in-Err.ensures.given, more, most)

pub returns-in-Err-clause-cause : goal.returns-in-Err-clause-cause
returns-in-Err-clause-cause g c = failed_since c.in-Err.fault _ _ _ _ _ _ c.loop-head.invariant.source_later c.loop-head.invariant.sink_later
    c.in-Err.ensures.cause

pub returns-clause-given : goal.returns-clause-given
returns-clause-given g c =
    let most = taken_on_side c.args.side (form_of c.args.passed.now) (lent_is_lawful c.args.passed.now.form) in
    omega (arith, c.loop-head.invariant.given, most)

pub returns-clause-appended : goal.returns-clause-appended
returns-clause-appended g c file fits =
    c.loop-head.invariant.appended file fits
    ∙ ap (λ w. g.K.Sink.appended c.args.sink.now + length w)
    (passed_all_of c.args.side file c.args.passed.now c.heads-head-items.result.now c.loop-head.head-index
    (sym c.heads-head-items.ensures) c.loop-head-test.false)

pub returns-clause-written : goal.returns-clause-written
returns-clause-written g c file told =
    adds_same _ _ _ _ _ _ (passed_all_of c.args.side file c.args.passed.now c.heads-head-items.result.now c.loop-head.head-index
    (sym c.heads-head-items.ensures) c.loop-head-test.false)
    (c.loop-head.invariant.written file told)
