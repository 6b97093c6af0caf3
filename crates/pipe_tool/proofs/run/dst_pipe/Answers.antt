-- Words that are no pipe, or the answer of the stream, and the line of each.
use Rattle.std.proofs.Common.{◌≡◌, ◌⊎◌, ◌≤◌, inr, ℕ, List, [], ◌∷◌, Some, true, map, length, sym, ap, subst, ◌∙◌, arith}
use Rattle.std.specs.String.{string_bytes}
use Rattle.dst_streams.specs.Told.{and_then}
use Rattle.dsdiff_spec.specs.Lines.{words_line, report}
use Rattle.stream_spec.specs.Outcome.{stream_refused}
use Rattle.dsdiff_spec.specs.Outcome.{frame_refused}
use Rattle.dst_pipes.specs.Endings.{PipeEnds}
use Rattle.pipe_tool.specs.Words.{is_pipe}
use Rattle.pipe_tool.specs.Runs.{status_of, line_of, OfWords}
use Rattle.pipe_tool.proofs.Runs.{ends_of, ends_by, file_of, frame_of, memory_of, read_of, write_of, reports_of, not_seven, line_fits}
use Rattle.pipe_tool.proofs.Runs.{refused_words, refused_words_fit, headline_of, complete_of, with_words, by_status}
use Rattle.pipe_tool.proofs.run.dst_pipe.Given.{Over}
use Rattle.pipe_tool.proofs.run.dst_pipe.Goals as goal
use Rattle.pipe_tool.proofs.run.dst_pipe.Goals.{After-report_line-2}

pub returns-then-not-is_pipe-clause-headline : goal.returns-then-not-is_pipe-clause-headline
returns-then-not-is_pipe-clause-headline g c w told flow sink report_quiet =
    let b = sym c.is_pipe.ensures ∙ c.if-not-is_pipe.true in
    let one = not_seven 1 c.report_line.result _ _ c.report_line.ensures.reported c.report_line.ensures.cause report_quiet in
    let ends = refused_words _ w (g.K.Sink.written c.args.sink.now) b in
    inr (
      words_line ∷ [],
      (ends.0, ends.1, ends.2 ∙ sym one, ends.3, ends.4),
      c.report_line.ensures.whole one
          ∙ ap (and_then (g.R.Sink.written c.args.report.now)) c.words_not_understood.ensures,
    )

pub returns-then-not-is_pipe-clause-ends : goal.returns-then-not-is_pipe-clause-ends
returns-then-not-is_pipe-clause-ends g c w told =
    let b = sym c.is_pipe.ensures ∙ c.if-not-is_pipe.true in (
      1,
      words_line ∷ [],
      inr (inr (inr (refused_words _ w (g.K.Sink.written c.args.sink.now) b))),
      λ e. absurd cc,
      λ e. absurd cc,
      reports_of 1 c.report_line.result words_line _ _ _ _ _ c.report_line.ensures.reported c.report_line.ensures.whole c.report_line.ensures.cut_short
          c.report_line.ensures.added c.report_line.ensures.stopped c.words_not_understood.ensures,
    )

pub returns-then-not-is_pipe-clause-sure_report : goal.returns-then-not-is_pipe-clause-sure_report
returns-then-not-is_pipe-clause-sure_report g c w told o outcome flow sink n room least fits seven =
    let b = sym c.is_pipe.ensures ∙ c.if-not-is_pipe.true in
    c.report_line.ensures.sure seven n room
    (subst (λ line. length line ≤ n) (sym c.words_not_understood.ensures) (refused_words_fit _ w o n b outcome fits))

-- the words ask for a pipe
asks : (g : Over) (c : After-report_line-2 g) → is_pipe (map string_bytes c.args.words.now) ≡ true
asks g c = sym c.is_pipe.ensures ∙ c.if-not-is_pipe.false

-- the sink ends as the answer of the stream says
ends : (g : Over) (c : After-report_line-2 g) (w : List ℕ) → g.F.Flow.left c.args.flow.now ≡ Some w →
    PipeEnds c.decode_pipe-answer.result w (g.K.Sink.written c.args.sink.now) (g.K.Sink.written c.decode_pipe-answer.new.sink) (g.K.Sink.room c.args.sink.now)
ends g c w told =
    let a = c.decode_pipe-answer.ensures in
    ends_of _ _ _ _ _ a.decoded a.file a.frame a.cut_short a.sure (λ refused e. ap g.K.Sink.written (a.memory refused e)) w told

pub returns-clause-headline : goal.returns-clause-headline
returns-clause-headline g c w told flow sink report_quiet =
    let a = c.decode_pipe-answer in
    let same = not_seven _ c.report_line-2.result _ _ c.report_line-2.ensures.reported c.report_line-2.ensures.cause report_quiet in
    headline_of _ a.result w c.report_line-2.result _ _ (g.R.Sink.written c.args.report.now) _ _ (asks g c) (ends g c w told) (λ e. flow (a.ensures.read e))
    (λ e. sink (a.ensures.write e)) (same ∙ c.status_and_line-status.ensures.status)
    (c.report_line-2.ensures.whole same ∙ ap (and_then (g.R.Sink.written c.args.report.now)) c.status_and_line-status.ensures.line)

pub returns-clause-complete : goal.returns-clause-complete
returns-clause-complete g c w told none flow sink report_quiet =
    let a = c.decode_pipe-answer in
    complete_of _ a.result w c.report_line-2.result _ _ (g.R.Sink.written c.args.report.now) (g.R.Sink.written c.args.report.now) _ none (ends g c w told)
    (λ e. flow (a.ensures.read e)) (λ e. sink (a.ensures.write e))
    (not_seven _ _ _ _ c.report_line-2.ensures.reported c.report_line-2.ensures.cause report_quiet ∙ c.status_and_line-status.ensures.status)

pub returns-clause-ends : goal.returns-clause-ends
returns-clause-ends g c w told =
    let a = c.decode_pipe-answer in
    let status = c.status_and_line-status.ensures.status in (
      status_of a.result,
      line_of a.result ∷ [],
      with_words _ w _ _ _ _ (asks g c) (ends_by a.result w _ _ _ (ends g c w told)),
      λ e. a.ensures.read (read_of a.result e),
      λ e. a.ensures.write (write_of a.result e),
      reports_of _ c.report_line-2.result (line_of a.result) _ _ _ _ _
          (subst (λ s. (c.report_line-2.result ≡ s) ⊎ (c.report_line-2.result ≡ 7)) status c.report_line-2.ensures.reported)
          (λ e. c.report_line-2.ensures.whole (e ∙ sym status)) c.report_line-2.ensures.cut_short
          (λ e. c.report_line-2.ensures.added (e ∙ sym status)) c.report_line-2.ensures.stopped c.status_and_line-status.ensures.line,
    )

pub returns-clause-sure_report : goal.returns-clause-sure_report
returns-clause-sure_report g c w told o outcome flow sink n room least fits seven =
    let a = c.decode_pipe-answer in
    let own = subst (λ x. OfWords x w o) (asks g c) outcome in
    c.report_line-2.ensures.sure seven n room
    (subst (λ line. length line ≤ n) (sym c.status_and_line-status.ensures.line)
    (line_fits a.result w _ _ _ o n (g.met.F.Flow.told_are_bytes c.args.flow.now w told) (ends g c w told) own (λ e. flow (a.ensures.read e))
    (λ e. sink (a.ensures.write e)) least fits))

pub returns-clause-memory_line : goal.returns-clause-memory_line
returns-clause-memory_line g c four =
    let same = by_status _ c.report_line-2.result 4 c.report_line-2.ensures.reported four (omega arith) in
    let refused = memory_of c.decode_pipe-answer.result (sym c.status_and_line-status.ensures.status ∙ sym same ∙ four) in
    c.report_line-2.ensures.whole same ∙ ap (and_then (g.R.Sink.written c.args.report.now))
    (c.status_and_line-status.ensures.line ∙ ap (λ r. report (line_of r ∷ [])) refused.1)

pub returns-clause-refused : goal.returns-clause-refused
returns-clause-refused g c five w told =
    let a = c.decode_pipe-answer in
    let same = by_status _ c.report_line-2.result 5 c.report_line-2.ensures.reported five (omega arith) in
    let is_file = file_of a.result (sym c.status_and_line-status.ensures.status ∙ sym same ∙ five) in
    let out = a.ensures.file is_file.0 is_file.1 w told in (
      is_file.0,
      out.0,
      subst (λ x. OfWords x w (stream_refused is_file.0 out.0)) (sym (asks g c)) out.1,
      out.2,
      c.report_line-2.ensures.whole same ∙ ap (and_then (g.R.Sink.written c.args.report.now))
          (c.status_and_line-status.ensures.line ∙ ap (λ r. report (line_of r ∷ [])) is_file.1),
    )

pub returns-clause-frame : goal.returns-clause-frame
returns-clause-frame g c six w told =
    let a = c.decode_pipe-answer in
    let same = by_status _ c.report_line-2.result 6 c.report_line-2.ensures.reported six (omega arith) in
    let is_frame = frame_of a.result (sym c.status_and_line-status.ensures.status ∙ sym same ∙ six) in
    let out = a.ensures.frame is_frame.0 is_frame.1 is_frame.2 w told in (
      is_frame.0,
      is_frame.1,
      out.0,
      subst (λ x. OfWords x w (frame_refused is_frame.0 is_frame.1 out.0)) (sym (asks g c)) out.1,
      out.2,
      c.report_line-2.ensures.whole same ∙ ap (and_then (g.R.Sink.written c.args.report.now))
          (c.status_and_line-status.ensures.line ∙ ap (λ r. report (line_of r ∷ [])) is_frame.2),
    )
