-- The lines of any form, and those of a coded one behind them.
use Rattle.std.proofs.Common.{refl}
use Rattle.std.specs.Prelude.{codes}
use Rattle.dsdiff_spec.specs.Lines.{report, summary_lines, coded_summary_lines}
use Rattle.dsdiff_chunks.specs.Forms.{coded_seen}
use Rattle.dst_commands.proofs.Writing.{stops_same, stops_first}
use Rattle.dst_show.proofs.LineByLine.{stops_among_first, then_by_lines}
use Rattle.dst_show.proofs.ReportedLines.{same_written, then_written, lines_of_coded}
use Rattle.dst_show.proofs.summary.report_coded.Goals as goal

pub returns-in_default-clause-written : goal.returns-in_default-clause-written
returns-in_default-clause-written g c =
    let form = coded_seen c.args.walked.now.form in
    stops_same (Unit {0}) _ _ _ _ _ (lines_of_coded form c.args.walked.now.index refl)
    (stops_first (Unit {0}) (report (summary_lines (codes "coded") form)) (report (coded_summary_lines form c.args.walked.now.index)) _ _ _
    c.in_default.ensures.written)

pub returns-clause-written : goal.returns-clause-written
returns-clause-written g c =
    let form = coded_seen c.args.walked.now.form in
    same_written c.report_stored.result _ _ _ _ _ _ (lines_of_coded form c.args.walked.now.index refl)
    (then_written c.report_stored.result (report (summary_lines (codes "coded") form)) (report (coded_summary_lines form c.args.walked.now.index)) _ _ _ _ _ _
    c.in-Ok.ensures.written c.report_stored.ensures.written)

pub returns-in_default-clause-by_lines : goal.returns-in_default-clause-by_lines
returns-in_default-clause-by_lines g c =
    stops_among_first (summary_lines (codes "coded") (coded_seen c.args.walked.now.form))
    (coded_summary_lines (coded_seen c.args.walked.now.form) c.args.walked.now.index) _ _ c.in_default.ensures.by_lines

pub returns-clause-by_lines : goal.returns-clause-by_lines
returns-clause-by_lines g c =
    then_by_lines c.report_stored.result (summary_lines (codes "coded") (coded_seen c.args.walked.now.form))
    (coded_summary_lines (coded_seen c.args.walked.now.form) c.args.walked.now.index) _ _ _ c.in-Ok.ensures.by_lines c.report_stored.ensures.by_lines
