-- The walk passes; what is left is the index.
use Rattle.std.proofs.Common.{sym, ap, ◌∙◌, Err, subst}
use Rattle.dst_streams.proofs.Counts.{Rose-earlier}
use Rattle.dsdiff_spec.specs.Refusal.{command_fault}
use Rattle.dsdiff_spec.specs.Walk.{check_index_fault, entries, walk_fault}
use Rattle.dsdiff_spec.specs.Words.{check}
use Rattle.dsdiff_chunks.specs.Forms.{coded_seen, form_seen}
use Rattle.dsdiff_chunks.specs.declared.form.CodedForm.{CodedForm}
use Rattle.dsdiff_chunks.specs.declared.form.Form.{Form}
use Rattle.dsdiff_chunks.specs.Opening.{HasOpenCause}
use Rattle.dst_commands.proofs.InOrder.{index_left, stops_ahead, stops_by}
use Rattle.dst_commands.proofs.rules.CheckedFileRules.keep.Goals as goal

pub returns-in-Err-check_index-clause-stops : goal.returns-in-Err-check_index-clause-stops
returns-in-Err-check_index-clause-stops g c =
    let faults = g.S.Source.faults in
    let form = coded_seen c.in-Coded.form in
    let walked = c.in-Ok.ensures in
    subst (λ (f : Form). HasOpenCause (λ file. command_fault check file (form_seen f)) (g.S.Source.bytes c.args.source.now) (faults c.args.source.now)
    (faults c.check_index.new.source) c.in-Err-check_index.fault) (sym c.in-Coded.is)
    (stops_by (λ file. command_fault check file form) c.in-Err-check_index.fault (g.S.Source.bytes c.args.source.now) (faults c.args.source.now)
    (faults c.check_index.new.source)
    (λ f is file told.
    index_left file form _ _ (ap coded_seen walked.form) (walked.passes file told) (walked.entries file told)
    (c.in-Err-check_index.ensures.fault f (ap Err is) file (walked.source.same_bytes ∙ told)))
    (λ is. Rose-earlier (faults c.args.source.now) (faults c.walk_form.new.source) (faults c.check_index.new.source) walked.source.later
    (c.in-Err-check_index.ensures.read (ap Err is))))

pub returns-in-Plain-clause-passes : goal.returns-in-Plain-clause-passes
returns-in-Plain-clause-passes g c file told = ap (λ (f : Form). command_fault check file (form_seen f)) c.in-Plain.is

pub returns-in-Plain-clause-opened : goal.returns-in-Plain-clause-opened
returns-in-Plain-clause-opened g c file told is = is ∙ ap form_seen c.in-Plain.is

pub returns-in-Err-clause-stops : goal.returns-in-Err-clause-stops
returns-in-Err-clause-stops g c =
    let form = coded_seen c.in-Coded.form in
    subst (λ (f : Form). HasOpenCause (λ file. command_fault check file (form_seen f)) (g.S.Source.bytes c.args.source.now)
    (g.S.Source.faults c.args.source.now)
    (g.S.Source.faults c.walk_form.new.source) c.in-Err.fault) (sym c.in-Coded.is)
    (stops_ahead (λ file. walk_fault file form) (λ file. check_index_fault file form) c.in-Err.fault (g.S.Source.bytes c.args.source.now)
    (g.S.Source.faults c.args.source.now) (g.S.Source.faults c.walk_form.new.source) c.in-Err.ensures.stops)

pub returns-in-Ok-check_index-clause-passes : goal.returns-in-Ok-check_index-clause-passes
returns-in-Ok-check_index-clause-passes g c file told =
    let walked = c.in-Ok.ensures in
    ap (λ (f : Form). command_fault check file (form_seen f)) c.in-Coded.is
    ∙ index_left file (coded_seen c.in-Coded.form) _ _ (ap coded_seen walked.form) (walked.passes file told) (walked.entries file told)
    (c.in-Ok-check_index.ensures.same file (walked.source.same_bytes ∙ told))

pub returns-in-Ok-check_index-clause-opened : goal.returns-in-Ok-check_index-clause-opened
returns-in-Ok-check_index-clause-opened g c file told is =
    let walked = c.in-Ok.ensures in
    record {
      form_is = is ∙ ap form_seen c.in-Coded.is ∙ sym (ap coded_seen walked.form);
      entries_are = ap (λ (f : CodedForm). entries file (coded_seen f)) walked.form ∙ walked.entries file told;
    }
