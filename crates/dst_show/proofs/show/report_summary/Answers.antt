-- The lines of the summary are reported, of a plain form or of a coded one.
use Rattle.std.proofs.Common.{subst}
use Rattle.dsdiff_spec.specs.Lines.{show_lines}
use Rattle.dsdiff_spec.specs.Walk.{entries}
use Rattle.dsdiff_spec.specs.Words.{show}
use Rattle.dsdiff_chunks.specs.Forms.{plain_seen}
use Rattle.dst_commands.specs.Opened.{IsAny}
use Rattle.dst_show.proofs.ReportedLines.{report_failed, show_outcome, reported_ends, coded_ends}
use Rattle.dst_show.proofs.show.report_summary.Goals as goal

pub returns-in-Plain-clause-later : goal.returns-in-Plain-clause-later
returns-in-Plain-clause-later g c = c.report_plain.ensures.cause.later

pub returns-in-Plain-clause-ends : goal.returns-in-Plain-clause-ends
returns-in-Plain-clause-ends g c file accepts opened =
    let form = plain_seen c.in-Plain.form in
    let is = subst (IsAny file) c.in-Plain.is opened in
    reported_ends c.report_plain.result c.reported.result show file form (show_lines form (entries file form)) _ _ _ _ _ _ c.reported.ensures is
    (show_outcome file form (record { accepts = accepts; form_is = is })) c.report_plain.ensures.written c.report_plain.ensures.by_lines

pub returns-in-Plain-clause-cause : goal.returns-in-Plain-clause-cause
returns-in-Plain-clause-cause g c =
    report_failed c.report_plain.result c.reported.result c.in-Plain.form.frames _ _ c.reported.ensures c.report_plain.ensures.cause

pub returns-in-Coded-clause-later : goal.returns-in-Coded-clause-later
returns-in-Coded-clause-later g c = c.report_coded.ensures.cause.later

pub returns-in-Coded-clause-ends : goal.returns-in-Coded-clause-ends
returns-in-Coded-clause-ends g c file accepts opened =
    coded_ends c.report_coded.result c.reported-in-Coded.result file c.in-Coded.walked _ _ _ _ _ _ c.reported-in-Coded.ensures accepts
    (subst (IsAny file) c.in-Coded.is opened) c.report_coded.ensures.written c.report_coded.ensures.by_lines

pub returns-in-Coded-clause-cause : goal.returns-in-Coded-clause-cause
returns-in-Coded-clause-cause g c =
    report_failed c.report_coded.result c.reported-in-Coded.result c.in-Coded.walked.form.frames _ _ c.reported-in-Coded.ensures c.report_coded.ensures.cause
