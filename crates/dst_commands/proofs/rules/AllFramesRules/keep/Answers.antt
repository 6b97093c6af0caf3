-- A plain form is refused; of a coded one only the walk is left.
use Rattle.std.proofs.Common.{sym, ap, ◌∙◌, subst}
use Rattle.dsdiff_spec.specs.Refusal.{command_fault}
use Rattle.dsdiff_spec.specs.Walk.{entries, walk_fault}
use Rattle.dsdiff_spec.specs.Words.{index}
use Rattle.dsdiff_chunks.specs.Forms.{coded_seen, form_seen}
use Rattle.dsdiff_chunks.specs.Opening.{HasOpenCause}
use Rattle.dsdiff_chunks.specs.declared.form.CodedForm.{CodedForm}
use Rattle.dsdiff_chunks.specs.declared.form.Form.{Form}
use Rattle.dst_commands.proofs.InOrder.{plain_refused}
use Rattle.dst_commands.proofs.rules.AllFramesRules.keep.Goals as goal

pub returns-in-Err-clause-stops : goal.returns-in-Err-clause-stops
returns-in-Err-clause-stops g c file told =
    plain_refused (form_seen c.args.form) c.in-Err.fault (walk_fault file (form_seen c.args.form)) c.in-Err.ensures.plain

pub returns-in-Err-walk_form-clause-stops : goal.returns-in-Err-walk_form-clause-stops
returns-in-Err-walk_form-clause-stops g c =
    subst (λ (f : Form). HasOpenCause (λ file. command_fault index file (form_seen f)) (g.S.Source.bytes c.args.source.now)
    (g.S.Source.faults c.args.source.now)
    (g.S.Source.faults c.walk_form.new.source) c.in-Err-walk_form.fault) (sym c.in-Ok.ensures.coded) c.in-Err-walk_form.ensures.stops

pub returns-in-Ok-walk_form-clause-passes : goal.returns-in-Ok-walk_form-clause-passes
returns-in-Ok-walk_form-clause-passes g c file told =
    ap (λ (f : Form). command_fault index file (form_seen f)) c.in-Ok.ensures.coded ∙ c.in-Ok-walk_form.ensures.passes file told

pub returns-in-Ok-walk_form-clause-opened : goal.returns-in-Ok-walk_form-clause-opened
returns-in-Ok-walk_form-clause-opened g c file told is =
    let walked = c.in-Ok-walk_form.ensures in
    record {
      form_is = is ∙ ap form_seen c.in-Ok.ensures.coded ∙ sym (ap coded_seen walked.form);
      entries_are = ap (λ (f : CodedForm). entries file (coded_seen f)) walked.form ∙ walked.entries file told;
    }
