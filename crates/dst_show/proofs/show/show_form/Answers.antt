-- The lines of the summary are reported, or the file refused.
use Rattle.std.proofs.Common.{refl, ◌∙◌, arith}
use Rattle.dsdiff_spec.specs.Refusal.{form_refusal, refusal}
use Rattle.dsdiff_spec.specs.Words.{show}
use Rattle.dst_commands.proofs.InOrder.{rules_of_show, stops_as}
use Rattle.dst_show.specs.declared.faults.ShowFault.TheVariants.{Frame}
use Rattle.dst_show.proofs.ReportedLines.{one_fault, source_is_no_frame, frame_is_no_report, only_reported, cause_as_reported, ends_unopened, cause_unopened}
use Rattle.dst_show.proofs.show.show_form.Goals as goal

pub returns-in-Err-clause-ends : goal.returns-in-Err-clause-ends
returns-in-Err-clause-ends g c file told =
    ends_unopened c.in-Err.fault show (g.S.Source.bytes c.args.source.now) (g.S.Source.faults c.args.source.now)
    (g.S.Source.faults c.open_file.new.source) file (g.T.Sink.written c.args.report.now) (g.T.Sink.written c.args.report.now)
    (g.T.Sink.room c.args.report.now) (g.T.Sink.appended c.args.report.now) (g.T.Sink.appended c.args.report.now) told
    (stops_as (form_refusal show) (refusal show) c.in-Err.fault (g.S.Source.bytes c.args.source.now) (g.S.Source.faults c.args.source.now)
    (g.S.Source.faults c.open_file.new.source) rules_of_show c.in-Err.ensures.stops)

pub returns-in-Err-clause-bytes : goal.returns-in-Err-clause-bytes
returns-in-Err-clause-bytes g c = c.open_file.ensures.bytes

pub returns-in-Err-clause-later : goal.returns-in-Err-clause-later
returns-in-Err-clause-later g c = (c.open_file.ensures.later, omega arith)

pub returns-in-Err-clause-cause : goal.returns-in-Err-clause-cause
returns-in-Err-clause-cause g c =
    cause_unopened c.in-Err.fault (form_refusal show) (g.S.Source.bytes c.args.source.now) (g.S.Source.faults c.args.source.now)
    (g.S.Source.faults c.open_file.new.source) _ _ c.in-Err.ensures.stops

pub returns-in-Err-clause-untouched : goal.returns-in-Err-clause-untouched
returns-in-Err-clause-untouched g c fault e other = refl

pub returns-in-Err-clause-no_frame : goal.returns-in-Err-clause-no_frame
returns-in-Err-clause-no_frame g c k fault e = source_is_no_frame _ k fault (one_fault _ _ e)

pub returns-in-Err-clause-given : goal.returns-in-Err-clause-given
returns-in-Err-clause-given g c = omega (arith, c.open_file.ensures.given)

-- ---- of a file that is opened
pub returns-clause-ends : goal.returns-clause-ends
returns-clause-ends g c file told =
    c.report_summary.ensures.ends file (rules_of_show file ∙ c.in-Ok.ensures.accepted file told) (c.in-Ok.ensures.opened file told)

pub returns-clause-bytes : goal.returns-clause-bytes
returns-clause-bytes g c = c.open_file.ensures.bytes

pub returns-clause-later : goal.returns-clause-later
returns-clause-later g c = (c.open_file.ensures.later, c.report_summary.ensures.later)

pub returns-clause-cause : goal.returns-clause-cause
returns-clause-cause g c =
    cause_as_reported c.report_summary.result (g.S.Source.faults c.args.source.now) (g.S.Source.faults c.open_file.new.source) _ _
    c.report_summary.ensures.cause

pub returns-clause-untouched : goal.returns-clause-untouched
returns-clause-untouched g c fault e other = absurd (other (only_reported c.report_summary.result fault _ _ c.report_summary.ensures.cause e))

pub returns-clause-no_frame : goal.returns-clause-no_frame
returns-clause-no_frame g c k fault e =
    frame_is_no_report k fault (only_reported c.report_summary.result (Frame k fault) _ _ c.report_summary.ensures.cause e)

pub returns-clause-given : goal.returns-clause-given
returns-clause-given g c = omega (arith, c.open_file.ensures.given)
