-- No rule is left of a plain form; of a coded one the walk is.
use Rattle.std.proofs.Common.{sym, ap, ◌∙◌, subst}
use Rattle.dsdiff_spec.specs.Refusal.{command_fault}
use Rattle.dsdiff_spec.specs.Walk.{entries}
use Rattle.dsdiff_spec.specs.Words.{show}
use Rattle.dsdiff_chunks.specs.Forms.{coded_seen, form_seen}
use Rattle.dsdiff_chunks.specs.Opening.{HasOpenCause}
use Rattle.dsdiff_chunks.specs.declared.form.CodedForm.{CodedForm}
use Rattle.dsdiff_chunks.specs.declared.form.Form.{Form}
use Rattle.dst_commands.proofs.rules.ShownFileRules.keep.Goals as goal

pub returns-in-Plain-clause-passes : goal.returns-in-Plain-clause-passes
returns-in-Plain-clause-passes g c file told = ap (λ (f : Form). command_fault show file (form_seen f)) c.in-Plain.is

pub returns-in-Plain-clause-opened : goal.returns-in-Plain-clause-opened
returns-in-Plain-clause-opened g c file told is = is ∙ ap form_seen c.in-Plain.is

pub returns-in-Err-clause-stops : goal.returns-in-Err-clause-stops
returns-in-Err-clause-stops g c =
    subst (λ (f : Form). HasOpenCause (λ file. command_fault show file (form_seen f)) (g.S.Source.bytes c.args.source.now) (g.S.Source.faults c.args.source.now)
    (g.S.Source.faults c.walk_form.new.source) c.in-Err.fault) (sym c.in-Coded.is) c.in-Err.ensures.stops

pub returns-in-Ok-clause-passes : goal.returns-in-Ok-clause-passes
returns-in-Ok-clause-passes g c file told =
    ap (λ (f : Form). command_fault show file (form_seen f)) c.in-Coded.is ∙ c.in-Ok.ensures.passes file told

pub returns-in-Ok-clause-opened : goal.returns-in-Ok-clause-opened
returns-in-Ok-clause-opened g c file told is =
    let walked = c.in-Ok.ensures in
    record {
      form_is = is ∙ ap form_seen c.in-Coded.is ∙ sym (ap coded_seen walked.form);
      entries_are = ap (λ (f : CodedForm). entries file (coded_seen f)) walked.form ∙ walked.entries file told;
    }
