-- The form is coded and the number is that of a frame; what is left is the index.
use Rattle.std.proofs.Common.{true, refl, sym, ap, ◌∙◌, Err, subst}
use Rattle.dsdiff_spec.specs.Faults.{◌otherwise◌}
use Rattle.dsdiff_spec.specs.Refusal.{command_fault, no_frame}
use Rattle.dsdiff_spec.specs.Walk.{by_index_fault}
use Rattle.dsdiff_spec.specs.Words.{frame}
use Rattle.dsdiff_chunks.specs.Forms.{coded_seen, form_seen}
use Rattle.dsdiff_chunks.specs.declared.form.Form.{Form}
use Rattle.dsdiff_chunks.specs.Opening.{HasOpenCause}
use Rattle.dst_commands.proofs.InOrder.{stops_by, indexed_is, plain_refused}
use Rattle.dst_commands.proofs.rules.FrameByIndexRules.keep.Goals as goal

pub returns-in-Err-locate_by_index-clause-stops : goal.returns-in-Err-locate_by_index-clause-stops
returns-in-Err-locate_by_index-clause-stops g c =
    let k = c.args.self.now.number in
    subst (λ (f : Form). HasOpenCause (λ file. command_fault (frame k true) file (form_seen f)) (g.S.Source.bytes c.args.source.now)
    (g.S.Source.faults c.args.source.now) (g.S.Source.faults c.locate_by_index.new.source) c.in-Err-locate_by_index.fault)
    (sym c.in-Ok.ensures.coded)
    (stops_by (λ file. command_fault (frame k true) file (coded_seen c.in-Ok.form)) c.in-Err-locate_by_index.fault (g.S.Source.bytes c.args.source.now)
    (g.S.Source.faults c.args.source.now) (g.S.Source.faults c.locate_by_index.new.source)
    (λ f is file told. indexed_is k file (coded_seen c.in-Ok.form) f (sym c.range_fault.ensures ∙ c.in_default.is)
    (c.in-Err-locate_by_index.ensures.fault f (ap Err is) file told) refl)
    (λ is. c.in-Err-locate_by_index.ensures.read (ap Err is)))

pub returns-in-Err-clause-stops : goal.returns-in-Err-clause-stops
returns-in-Err-clause-stops g c file told =
    let form = form_seen c.args.form in
    let k = c.args.self.now.number in
    plain_refused form c.in-Err.fault (no_frame k form.frames otherwise by_index_fault file form k) c.in-Err.ensures.plain

pub returns-in-Some-clause-stops : goal.returns-in-Some-clause-stops
returns-in-Some-clause-stops g c file told =
    let k = c.args.self.now.number in
    ap (λ (f : Form). command_fault (frame k true) file (form_seen f)) c.in-Ok.ensures.coded
    ∙ ap (λ o. o otherwise by_index_fault file (coded_seen c.in-Ok.form) k) (sym c.range_fault.ensures ∙ c.in-Some.is)

pub returns-in-Ok-locate_by_index-clause-passes : goal.returns-in-Ok-locate_by_index-clause-passes
returns-in-Ok-locate_by_index-clause-passes g c file told =
    let k = c.args.self.now.number in
    ap (λ (f : Form). command_fault (frame k true) file (form_seen f)) c.in-Ok.ensures.coded
    ∙ ap (λ o. o otherwise by_index_fault file (coded_seen c.in-Ok.form) k) (sym c.range_fault.ensures ∙ c.in_default.is)
    ∙ c.in-Ok-locate_by_index.ensures.accepted file told

pub returns-in-Ok-locate_by_index-clause-opened : goal.returns-in-Ok-locate_by_index-clause-opened
returns-in-Ok-locate_by_index-clause-opened g c file told is = record {
  form_is = is ∙ ap form_seen c.in-Ok.ensures.coded;
  entry_is = sym (c.in-Ok-locate_by_index.ensures.entry file told);
}
