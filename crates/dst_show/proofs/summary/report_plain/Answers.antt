-- The five lines of the form.
use Rattle.std.proofs.Common.{refl}
use Rattle.std.specs.Prelude.{codes}
use Rattle.dsdiff_spec.specs.Lines.{summary_lines}
use Rattle.dsdiff_chunks.specs.Forms.{plain_seen}
use Rattle.dst_show.proofs.LineByLine.{bytes_of_lines}
use Rattle.dst_show.proofs.ReportedLines.{five_of_form, same_written}
use Rattle.dst_show.proofs.summary.report_plain.Goals as goal

pub returns-clause-written : goal.returns-clause-written
returns-clause-written g c =
    let form = plain_seen c.args.form.now in
    let same = bytes_of_lines (λ l. l.bytes) c.lines_of.result (summary_lines (codes "plain") form)
    (five_of_form (codes "plain") form c.args.form.now.sound.size c.as_slice.result.now c.args.form.now.heads _ refl
    c.as_slice.ensures refl c.lines_of.ensures) in
    same_written c.report_lines.result _ _ _ _ _ _ same c.report_lines.ensures.written

pub returns-clause-by_lines : goal.returns-clause-by_lines
returns-clause-by_lines g c =
    c.report_lines.ensures.by_lines (summary_lines (codes "plain") (plain_seen c.args.form.now))
    (five_of_form (codes "plain") (plain_seen c.args.form.now) c.args.form.now.sound.size c.as_slice.result.now c.args.form.now.heads _ refl
    c.as_slice.ensures refl c.lines_of.ensures)
