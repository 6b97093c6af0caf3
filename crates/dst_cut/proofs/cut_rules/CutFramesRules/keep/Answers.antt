-- The rules in their order.
use Rattle.std.proofs.Common.{List, ℕ, Option, refl, sym, ap, subst, ◌∙◌}
use Rattle.dsdiff_spec.specs.Cut.{cut_chunks}
use Rattle.dsdiff_spec.specs.Faults.{◌otherwise◌}
use Rattle.dsdiff_spec.specs.Form as files
use Rattle.dsdiff_spec.specs.Refusal.{command_fault, cut_fault, no_frame}
use Rattle.dsdiff_spec.specs.Walk.{entries, walk_fault}
use Rattle.dsdiff_spec.specs.Words.{cut}
use Rattle.dsdiff_spec.specs.declared.faults.FileFault.{FileFault}
use Rattle.dsdiff_chunks.specs.Forms.{coded_seen, form_seen}
use Rattle.dsdiff_chunks.specs.Opening.{HasOpenCause}
use Rattle.dsdiff_chunks.specs.declared.form.CodedForm.{CodedForm}
use Rattle.dsdiff_chunks.specs.declared.form.Form.{Form}
use Rattle.dst_commands.proofs.InOrder.{plain_refused, stops_ahead}
use Rattle.dst_cut.proofs.CutRules.{chunks_asked}
use Rattle.dst_cut.proofs.cut_rules.CutFramesRules.keep.Goals as goal

pub returns-in-Some-fault-clause-stops : goal.returns-in-Some-fault-clause-stops
returns-in-Some-fault-clause-stops g c file told =
    let self = c.args.self.now in
    let walked = c.in-Ok-walk_form.ensures in
    chunks_asked file c.args.form c.in-Ok.form c.in-Ok-walk_form.walked.form c.in-Ok-walk_form.walked.index self.first self.last _ _
    c.in-Ok.ensures.coded walked.form (walked.passes file told) (walked.entries file told) (sym c.range_fault.ensures ∙ c.in_default.is)
    (g.met.S.Source.size_is_length _ file _ told c.requires.size.1) c.requires.size.2
    (λ fits is. sym c.in-Some-fault.is ∙ c.fault.ensures file fits is)

pub returns-in-None-clause-passes : goal.returns-in-None-clause-passes
returns-in-None-clause-passes g c file told =
    let self = c.args.self.now in
    let walked = c.in-Ok-walk_form.ensures in
    chunks_asked file c.args.form c.in-Ok.form c.in-Ok-walk_form.walked.form c.in-Ok-walk_form.walked.index self.first self.last _ _
    c.in-Ok.ensures.coded walked.form (walked.passes file told) (walked.entries file told) (sym c.range_fault.ensures ∙ c.in_default.is)
    (g.met.S.Source.size_is_length _ file _ told c.requires.size.1) c.requires.size.2
    (λ fits is. sym c.in-None.is ∙ c.fault.ensures file fits is)

-- the rules behind that of the walk
abbrev behind_walk : (first last : ℕ) → List ℕ → files.Form → Option FileFault
behind_walk first last file form = no_frame last form.frames otherwise cut_fault (cut_chunks file form first last)

pub returns-in-Err-clause-stops : goal.returns-in-Err-clause-stops
returns-in-Err-clause-stops g c file told =
    let form = form_seen c.args.form in
    ap (λ o. o otherwise behind_walk c.args.self.now.first c.args.self.now.last file form)
    (plain_refused form c.in-Err.fault (walk_fault file form) c.in-Err.ensures.plain)

pub returns-in-Err-walk_form-clause-stops : goal.returns-in-Err-walk_form-clause-stops
returns-in-Err-walk_form-clause-stops g c =
    let self = c.args.self.now in
    subst (λ (f : Form). HasOpenCause (λ file. command_fault (cut self.first self.last) file (form_seen f)) (g.S.Source.bytes c.args.source.now)
    (g.S.Source.faults c.args.source.now) (g.S.Source.faults c.walk_form.new.source) c.in-Err-walk_form.fault) (sym c.in-Ok.ensures.coded)
    (stops_ahead (λ file. walk_fault file (coded_seen c.in-Ok.form)) (λ file. behind_walk self.first self.last file (coded_seen c.in-Ok.form))
    c.in-Err-walk_form.fault (g.S.Source.bytes c.args.source.now) (g.S.Source.faults c.args.source.now) (g.S.Source.faults c.walk_form.new.source)
    c.in-Err-walk_form.ensures.stops)

pub returns-in-Some-clause-stops : goal.returns-in-Some-clause-stops
returns-in-Some-clause-stops g c file told =
    let self = c.args.self.now in
    let form = coded_seen c.in-Ok.form in
    ap (λ (f : Form). command_fault (cut self.first self.last) file (form_seen f)) c.in-Ok.ensures.coded
    ∙ ap (λ o. o otherwise behind_walk self.first self.last file form) (c.in-Ok-walk_form.ensures.passes file told)
    ∙ ap (λ o. o otherwise cut_fault (cut_chunks file form self.first self.last))
    (ap (λ (f : CodedForm). no_frame self.last f.frames) (sym c.in-Ok-walk_form.ensures.form) ∙ sym c.range_fault.ensures ∙ c.in-Some.is)

pub returns-in-None-clause-opened : goal.returns-in-None-clause-opened
returns-in-None-clause-opened g c file told is =
    let walked = c.in-Ok-walk_form.ensures in
    record {
      form_is = is ∙ ap form_seen c.in-Ok.ensures.coded ∙ sym (ap coded_seen walked.form);
      entries_are = ap (λ (f : CodedForm). entries file (coded_seen f)) walked.form ∙ walked.entries file told;
      first_is = refl;
      last_is = refl;
    }
