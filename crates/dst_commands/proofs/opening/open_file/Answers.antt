-- The form's rules, then the command's.
use Rattle.std.proofs.Common.{Err, Ok, ap, ◌∙◌}
use Rattle.dsdiff_spec.specs.Refusal.{form_refusal}
use Rattle.dsdiff_chunks.specs.Forms.{form_seen}
use Rattle.dsdiff_chunks.proofs.Stopping.{HasOpenCause-in}
use Rattle.dsdiff_spec.proofs.ByRules.{accepted_is}
use Rattle.dst_commands.proofs.InOrder.{refusal_of, stops_by}
use Rattle.dst_commands.proofs.opening.open_file.Goals as goal

pub returns-in-Err-clause-stops : goal.returns-in-Err-clause-stops
returns-in-Err-clause-stops g c =
    let command = g.R.Rules.command c.args.rules.now in
    stops_by (form_refusal command) c.in-Err.fault (g.S.Source.bytes c.args.source.now) (g.S.Source.faults c.args.source.now)
    (g.S.Source.faults c.open_form.new.source)
    (λ f is file told. refusal_of command file (Err f) (c.in-Err.ensures.fault f (ap Err is) file told)) (λ is. c.in-Err.ensures.read (ap Err is))

pub returns-in-Ok-keep-clause-accepted : goal.returns-in-Ok-keep-clause-accepted
returns-in-Ok-keep-clause-accepted g c file told =
    refusal_of (g.R.Rules.command c.args.rules.now) file (Ok (form_seen c.in-Ok.form)) (c.in-Ok.ensures.form file told)
    ∙ c.in-Ok-keep.ensures.passes file (c.in-Ok.ensures.bytes ∙ told)

pub returns-in-Ok-keep-clause-opened : goal.returns-in-Ok-keep-clause-opened
returns-in-Ok-keep-clause-opened g c file told =
    c.in-Ok-keep.ensures.opened file (c.in-Ok.ensures.bytes ∙ told) (accepted_is file (form_seen c.in-Ok.form) (c.in-Ok.ensures.form file told))

pub returns-in-Err-keep-clause-stops : goal.returns-in-Err-keep-clause-stops
returns-in-Err-keep-clause-stops g c =
    let command = g.R.Rules.command c.args.rules.now in
    HasOpenCause-in _ (form_refusal command) (g.S.Source.bytes c.args.source.now) (g.S.Source.bytes c.open_form.new.source)
    (g.S.Source.faults c.args.source.now)
    (g.S.Source.faults c.open_form.new.source) _
    c.in-Err-keep.fault c.in-Ok.ensures.bytes c.in-Ok.ensures.later
    (λ file f told e. refusal_of command file (Ok (form_seen c.in-Ok.form)) (c.in-Ok.ensures.form file told) ∙ e)
    c.in-Err-keep.ensures.stops
