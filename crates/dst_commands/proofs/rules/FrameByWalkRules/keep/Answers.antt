-- The number is that of an entry.
use Rattle.std.proofs.Common.{◌<◌, length, sym, ap, ◌∙◌, subst, arith}
use Rattle.dsdiff_spec.specs.Faults.{◌otherwise◌}
use Rattle.dsdiff_spec.specs.Refusal.{command_fault, no_frame}
use Rattle.dsdiff_spec.specs.Walk.{entries, entry, walk_fault}
use Rattle.dsdiff_spec.specs.Words.{show_frame}
use Rattle.dsdiff_chunks.specs.Forms.{coded_seen, form_seen}
use Rattle.dsdiff_chunks.specs.Opening.{HasOpenCause}
use Rattle.dsdiff_chunks.specs.declared.form.CodedForm.{CodedForm}
use Rattle.dsdiff_chunks.specs.declared.form.Form.{Form}
use Rattle.frame_index.specs.Fitting.{IsInside}
use Rattle.dst_commands.proofs.InOrder.{names_one, plain_refused, stops_ahead}
use Rattle.dst_commands.proofs.rules.FrameByWalkRules.keep.Goals as goal

pub invariant_of-result : goal.invariant_of-result
invariant_of-result g c =
    let walked = c.in-Ok-walk_form.walked in
    let below = names_one c.args.self.now.number walked.form.frames (sym c.range_fault.ensures ∙ c.in_default.is) in
    let within : c.args.self.now.number < length walked.index = omega (arith, below, walked.fits.count) in
    record { inside = subst (IsInside (coded_seen walked.form)) (sym c.entry-entry.ensures) (walked.fits.inside c.args.self.now.number within) }

pub returns-in-Err-clause-stops : goal.returns-in-Err-clause-stops
returns-in-Err-clause-stops g c file told =
    let form = form_seen c.args.form in
    ap (λ o. o otherwise no_frame c.args.self.now.number form.frames) (plain_refused form c.in-Err.fault (walk_fault file form) c.in-Err.ensures.plain)

pub returns-in-Err-walk_form-clause-stops : goal.returns-in-Err-walk_form-clause-stops
returns-in-Err-walk_form-clause-stops g c =
    let k = c.args.self.now.number in
    subst (λ (f : Form). HasOpenCause (λ file. command_fault (show_frame k) file (form_seen f)) (g.S.Source.bytes c.args.source.now)
    (g.S.Source.faults c.args.source.now) (g.S.Source.faults c.walk_form.new.source) c.in-Err-walk_form.fault) (sym c.in-Ok.ensures.coded)
    (stops_ahead (λ file. walk_fault file (coded_seen c.in-Ok.form)) (λ file. no_frame k c.in-Ok.form.frames) c.in-Err-walk_form.fault
    (g.S.Source.bytes c.args.source.now) (g.S.Source.faults c.args.source.now) (g.S.Source.faults c.walk_form.new.source)
    c.in-Err-walk_form.ensures.stops)

pub returns-in-Some-clause-stops : goal.returns-in-Some-clause-stops
returns-in-Some-clause-stops g c file told =
    let k = c.args.self.now.number in
    ap (λ (f : Form). command_fault (show_frame k) file (form_seen f)) c.in-Ok.ensures.coded
    ∙ ap (λ o. o otherwise no_frame k c.in-Ok.form.frames) (c.in-Ok-walk_form.ensures.passes file told)
    ∙ ap (λ (f : CodedForm). no_frame k f.frames) (sym c.in-Ok-walk_form.ensures.form) ∙ sym c.range_fault.ensures ∙ c.in-Some.is

pub returns-clause-passes : goal.returns-clause-passes
returns-clause-passes g c file told =
    let k = c.args.self.now.number in
    ap (λ (f : Form). command_fault (show_frame k) file (form_seen f)) c.in-Ok.ensures.coded
    ∙ ap (λ o. o otherwise no_frame k c.in-Ok.form.frames) (c.in-Ok-walk_form.ensures.passes file told)
    ∙ ap (λ (f : CodedForm). no_frame k f.frames) (sym c.in-Ok-walk_form.ensures.form) ∙ sym c.range_fault.ensures ∙ c.in_default.is

pub returns-clause-opened : goal.returns-clause-opened
returns-clause-opened g c file told is =
    let walked = c.in-Ok-walk_form.ensures in
    record {
      form_is = is ∙ ap form_seen c.in-Ok.ensures.coded ∙ sym (ap coded_seen walked.form);
      entry_is =
          ap (λ es. entry es c.args.self.now.number) (ap (λ (f : CodedForm). entries file (coded_seen f)) walked.form ∙ walked.entries file told)
          ∙ sym c.entry-entry.ensures;
    }
