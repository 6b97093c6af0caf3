-- The five lines of the form.
use Rattle.std.specs.Prelude.{codes}
use Rattle.dsdiff_spec.specs.Lines.{summary_lines}
use Rattle.dsdiff_chunks.specs.Forms.{coded_seen}
use Rattle.dst_show.proofs.LineByLine.{bytes_of_lines}
use Rattle.dst_show.proofs.ReportedLines.{coded_five, same_written}
use Rattle.dst_show.proofs.summary.report_common.Goals as goal

pub returns-clause-written : goal.returns-clause-written
returns-clause-written g c =
    same_written c.report_lines.result _ _ _ _ _ _
    (bytes_of_lines (λ l. l.bytes) c.lines_of.result (summary_lines (codes "coded") (coded_seen c.args.form.now))
    (coded_five c.args.form.now c.sound_size.ensures.size c.as_slice.ensures c.lines_of.ensures)) c.report_lines.ensures.written

pub returns-clause-by_lines : goal.returns-clause-by_lines
returns-clause-by_lines g c =
    c.report_lines.ensures.by_lines (summary_lines (codes "coded") (coded_seen c.args.form.now))
    (coded_five c.args.form.now c.sound_size.ensures.size c.as_slice.ensures c.lines_of.ensures)
