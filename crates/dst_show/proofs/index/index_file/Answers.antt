-- The lines are those of the walk; a report that is sure to take them doesn't fail.
use Rattle.std.proofs.Common.{◌≡◌, Result, Err, refl, ap, sym, subst, ◌∙◌, arith}
use Rattle.dsdiff_spec.specs.Words.{index}
use Rattle.dsdiff_spec.specs.Lines.{index_lines}
use Rattle.dsdiff_spec.specs.Refusal.{form_refusal}
use Rattle.dsdiff_chunks.specs.declared.open.OpenFault.{OpenFault}
use Rattle.dsdiff_chunks.specs.Opening as opening
use Rattle.dst_commands.proofs.InOrder.{rules_of_index}
use Rattle.dst_show.specs.declared.faults.ListFault.{ListFault}
use Rattle.dst_show.specs.declared.faults.ListFault.TheVariants.{Source, Report}
use Rattle.dst_show.specs.declared.faults.Reported.{Reported}
use Rattle.dst_show.specs.LineByLine.{AddsLines, StopsAtALine}
use Rattle.dst_show.proofs.ReportedLines.{done_or_fault, one_fault, index_outcome, index_is, report_is_sure}
use Rattle.dst_show.proofs.index.index_file.Goals as goal

same_source : (a b : OpenFault) → ◌≡◌ {A = Result Reported ListFault} (Err (Source a)) (Err (Source b)) → a ≡ b
same_source a b e = cc

opening_is_no_report : (fault : OpenFault) → Source fault ≡ Report → ⊥
opening_is_no_report fault e = cc

pub returns-in-Err-clause-file : goal.returns-in-Err-clause-file
returns-in-Err-clause-file g c fault e file told =
    rules_of_index file
    ∙ (subst (λ f. opening.HasOpenCause (form_refusal index) (g.S.Source.bytes c.args.source.now) (g.S.Source.faults c.args.source.now)
    (g.S.Source.faults c.open_file.new.source) f) (same_source c.in-Err.fault _ e) c.in-Err.ensures.stops) file told

pub returns-in-Err-clause-read : goal.returns-in-Err-clause-read
returns-in-Err-clause-read g c e =
    subst (λ f. opening.HasOpenCause (form_refusal index) (g.S.Source.bytes c.args.source.now) (g.S.Source.faults c.args.source.now)
    (g.S.Source.faults c.open_file.new.source) f) (same_source c.in-Err.fault _ e) c.in-Err.ensures.stops

pub returns-in-Ok-report_entries-clause-lines : goal.returns-in-Ok-report_entries-clause-lines
returns-in-Ok-report_entries-clause-lines g c file told = (
  index_lines c.in-Ok.walked.index,
  index_outcome file c.in-Ok.walked (c.in-Ok.ensures.accepted file told) (c.in-Ok.ensures.opened file told),
  c.in-Ok-report_entries.ensures.written.written,
)

pub returns-in-Ok-report_entries-clause-added : goal.returns-in-Ok-report_entries-clause-added
returns-in-Ok-report_entries-clause-added g c file told o other =
    subst (λ lines. AddsLines lines (g.T.Sink.appended c.args.report.now) (g.T.Sink.appended c.report_entries.new.report))
    (index_is file c.in-Ok.walked o (g.met.S.Source.told_are_bytes c.args.source.now file told) (c.in-Ok.ensures.accepted file told)
    (c.in-Ok.ensures.opened file told) other) c.in-Ok-report_entries.ensures.by_lines

pub returns-clause-stopped : goal.returns-clause-stopped
returns-clause-stopped g c e file told o other =
    subst (λ lines. StopsAtALine lines (g.T.Sink.appended c.args.report.now) (g.T.Sink.appended c.report_entries.new.report))
    (index_is file c.in-Ok.walked o (g.met.S.Source.told_are_bytes c.args.source.now file told) (c.in-Ok.ensures.accepted file told)
    (c.in-Ok.ensures.opened file told) other) c.in-Err-report_entries.ensures.by_lines

pub returns-clause-cut_short : goal.returns-clause-cut_short
returns-clause-cut_short g c e file told = (
  index_lines c.in-Ok.walked.index,
  index_outcome file c.in-Ok.walked (c.in-Ok.ensures.accepted file told) (c.in-Ok.ensures.opened file told),
  c.in-Err-report_entries.ensures.written.cut,
)

pub returns-clause-sure : goal.returns-clause-sure
returns-clause-sure g c e file told o is room known fits =
    report_is_sure index file (index_lines c.in-Ok.walked.index) _ _ _ tt (g.met.S.Source.told_are_bytes c.args.source.now file told)
    (index_outcome file c.in-Ok.walked (c.in-Ok.ensures.accepted file told) (c.in-Ok.ensures.opened file told))
    c.in-Err-report_entries.ensures.written o is room known fits

-- ---- where the file isn't opened

pub returns-in-Err-clause-bytes : goal.returns-in-Err-clause-bytes
returns-in-Err-clause-bytes g c = c.open_file.ensures.bytes

pub returns-in-Err-clause-later : goal.returns-in-Err-clause-later
returns-in-Err-clause-later g c = (c.open_file.ensures.later, omega arith)

pub returns-in-Err-clause-reported : goal.returns-in-Err-clause-reported
returns-in-Err-clause-reported g c e = absurd (opening_is_no_report _ (one_fault _ _ e))

pub returns-in-Err-clause-cut_short : goal.returns-in-Err-clause-cut_short
returns-in-Err-clause-cut_short g c e file told = absurd (opening_is_no_report _ (one_fault _ _ e))

pub returns-in-Err-clause-sure : goal.returns-in-Err-clause-sure
returns-in-Err-clause-sure g c e file told o is room known fits = absurd (opening_is_no_report _ (one_fault _ _ e))

pub returns-in-Err-clause-stopped : goal.returns-in-Err-clause-stopped
returns-in-Err-clause-stopped g c e file told o other = absurd (opening_is_no_report _ (one_fault _ _ e))

pub returns-in-Err-clause-untouched : goal.returns-in-Err-clause-untouched
returns-in-Err-clause-untouched g c fault e other = refl

pub returns-in-Err-clause-given : goal.returns-in-Err-clause-given
returns-in-Err-clause-given g c = omega (arith, c.open_file.ensures.given)

-- ---- where all lines are reported

pub returns-in-Ok-report_entries-clause-bytes : goal.returns-in-Ok-report_entries-clause-bytes
returns-in-Ok-report_entries-clause-bytes g c = c.open_file.ensures.bytes

pub returns-in-Ok-report_entries-clause-later : goal.returns-in-Ok-report_entries-clause-later
returns-in-Ok-report_entries-clause-later g c = (c.open_file.ensures.later, c.report_entries.ensures.cause.later)

pub returns-in-Ok-report_entries-clause-frames : goal.returns-in-Ok-report_entries-clause-frames
returns-in-Ok-report_entries-clause-frames g c file told = ap (λ f. f.frames) (sym (c.in-Ok.ensures.opened file told).form_is)

pub returns-in-Ok-report_entries-clause-silent : goal.returns-in-Ok-report_entries-clause-silent
returns-in-Ok-report_entries-clause-silent g c none = c.in-Ok-report_entries.ensures.silent (c.in-Ok.walked.fits.count ∙ none)

pub returns-in-Ok-report_entries-clause-file : goal.returns-in-Ok-report_entries-clause-file
returns-in-Ok-report_entries-clause-file g c fault e file told = absurd (done_or_fault _ _ e)

pub returns-in-Ok-report_entries-clause-read : goal.returns-in-Ok-report_entries-clause-read
returns-in-Ok-report_entries-clause-read g c e = absurd (done_or_fault _ _ e)

pub returns-in-Ok-report_entries-clause-reported : goal.returns-in-Ok-report_entries-clause-reported
returns-in-Ok-report_entries-clause-reported g c e = absurd (done_or_fault _ _ e)

pub returns-in-Ok-report_entries-clause-cut_short : goal.returns-in-Ok-report_entries-clause-cut_short
returns-in-Ok-report_entries-clause-cut_short g c e file told = absurd (done_or_fault _ _ e)

pub returns-in-Ok-report_entries-clause-sure : goal.returns-in-Ok-report_entries-clause-sure
returns-in-Ok-report_entries-clause-sure g c e file told o is room known fits = absurd (done_or_fault _ _ e)

pub returns-in-Ok-report_entries-clause-stopped : goal.returns-in-Ok-report_entries-clause-stopped
returns-in-Ok-report_entries-clause-stopped g c e file told o other = absurd (done_or_fault _ _ e)

pub returns-in-Ok-report_entries-clause-untouched : goal.returns-in-Ok-report_entries-clause-untouched
returns-in-Ok-report_entries-clause-untouched g c fault e other = absurd (done_or_fault _ _ e)

pub returns-in-Ok-report_entries-clause-given : goal.returns-in-Ok-report_entries-clause-given
returns-in-Ok-report_entries-clause-given g c = omega (arith, c.open_file.ensures.given)

-- ---- where a line isn't

pub returns-clause-bytes : goal.returns-clause-bytes
returns-clause-bytes g c = c.open_file.ensures.bytes

pub returns-clause-later : goal.returns-clause-later
returns-clause-later g c = (c.open_file.ensures.later, c.report_entries.ensures.cause.later)

pub returns-clause-file : goal.returns-clause-file
returns-clause-file g c fault e file told = absurd (opening_is_no_report _ (sym (one_fault _ _ e)))

pub returns-clause-read : goal.returns-clause-read
returns-clause-read g c e = absurd (opening_is_no_report _ (sym (one_fault _ _ e)))

pub returns-clause-reported : goal.returns-clause-reported
returns-clause-reported g c e = c.in-Err-report_entries.ensures.cause.failed

pub returns-clause-untouched : goal.returns-clause-untouched
returns-clause-untouched g c fault e other = absurd (other (sym (one_fault _ _ e)))

pub returns-clause-given : goal.returns-clause-given
returns-clause-given g c = omega (arith, c.open_file.ensures.given)
