-- Each command by what it answered.
use Rattle.std.proofs.Common.{◌≡◌, ℕ, ◌≤◌, List, [], ◌∷◌, length, Option, Some, Result, Ok, Err, IfOk, OnOk, refl, ap, sym, subst, ◌∙◌, arith}
use Rattle.dsdiff_spec.specs.Words as asked
use Rattle.dsdiff_spec.specs.Rules.{accepted}
use Rattle.dsdiff_spec.specs.Outcome.{done}
use Rattle.dsdiff_spec.specs.Lines.{check_line, made_line}
use Rattle.dsdiff_spec.proofs.Stopping.{One}
use Rattle.dsdiff_spec.proofs.OneAnswer.{command_has_one_outcome}
use Rattle.dst_words.specs.Commands.{command_seen}
use Rattle.dst_tool.specs.declared.answers.Fault.TheVariants.{Read, Write, Memory, Report, File, Frame}
use Rattle.dst_commands.specs.Commands.{OutcomeOf}
use Rattle.dst_tool.proofs.DoneNumbers.{of_made, of_checked, of_reported}
use Rattle.dst_tool.proofs.OneLine.{IsWhole, run_of_answer, at_file, same_run, tells_line, takes_none, nothing_added, nothing_cut, finished_alone}
use Rattle.dst_show.specs.declared.faults.ListFault.{ListFault}
use Rattle.dst_tool.specs.Answers.{done_line, of_check, of_list, of_make, of_run, of_show}
use Rattle.dst_tool.proofs.Inverting.{
  IsAnsweredAs,
  if_answered,
  if_done,
  own_fault,
  never_answered,
  check_again,
  list_again,
  make_again,
  show_again,
  ran_no_other,
}
use Rattle.dst_tool.proofs.Inverting.{to_check, to_list, to_make, to_show}
use Rattle.dst_make.specs.Making.{made_file, multiple_of}
use Rattle.dst_show.specs.declared.faults.Reported.{Reported}
use Rattle.dst_tool.proofs.MadeOutcomes.{asks_make, asks_run, of_ran, made_outcome, made_out, made_whole, making_is_accepted, run_done, run_is_accepted}
use Rattle.dst_tool.proofs.MakingRuns.{made_no_other, ran_not_so, run_of_making}
use Rattle.dst_tool.proofs.OwnLines.{report_is_no_frame, report_is_no_write, run_of_own_lines}
use Rattle.dst_tool.proofs.OtherCommands.{reads_and_writes}
use Rattle.dst_tool.proofs.command.run_command.Goals as goal

at_most_itself : (n : ℕ) → n ≤ n
at_most_itself n = omega arith

-- ---- commands that report one line
pub returns-in-Check : goal.returns-in-Check
returns-in-Check g c =
    let d = c.check_file-answer.result in
    let e = c.check_file-answer.ensures in
    let r = c.checked.result in
    let t = c.tell.ensures in
    let says : IsAnsweredAs of_checked of_check to_check d r = record { is = c.checked.ensures; again = check_again } in
    let no_write : r ≡ Err Write → ⊥ = never_answered says Write (λ q. absurd cc) in
    let no_report : r ≡ Err Report → ⊥ = never_answered says Report (λ q. absurd cc) in
    let bytes = g.S.Source.bytes c.args.source.now in
    let written = g.K.Sink.written c.args.sink.now in
    let same = ap command_seen c.in-Check.is in
    let asks = asked.check in
    let one : (file : List ℕ) → bytes ≡ Some file → One (OutcomeOf asks file) =
    λ file told. command_has_one_outcome asks file tt (g.met.S.Source.told_are_bytes c.args.source.now file told) in
    same_run same (run_of_answer asks r c.tell.result bytes _ _ _ _ _ _ _ _ _ _ _ tt tt (λ file told. g.met.S.Source.told_are_bytes c.args.source.now file told)
    (λ file told. record {
      finished = finished_alone asks r written file (subst (λ r. IfOk r (λ s. OutcomeOf asks file (done [] (done_line asks s ∷ [])))) (sym says.is)
          (if_answered of_checked of_check d _ (at_file d (λ s file. OutcomeOf asks file (done [] (check_line s.frames s.unread ∷ []))) bytes file
          told e.sound)));
      file_is = λ fault h. e.file fault (own_fault says (File fault) h) file told;
      untouched = λ fault h. refl;
      frame_is = λ k fault h. ([], e.frame k fault (own_fault says (Frame k fault) h) file told, nothing_added written);
      cut_short = λ h. ((one file told).0, (one file told).1, nothing_cut written (one file told).0.out);
      memory = λ refused h. refl;
      no_report = no_report;
    })
    (λ w. absurd w)
    (record {
      bytes_stay = e.bytes;
      later_source = e.later;
      later_sink = at_most_itself _;
      read = λ h. e.read (own_fault says Read h);
      write = λ h. absurd (no_write h);
      sure = λ h. absurd (no_write h);
      memory = λ refused h. refl;
      untouched = λ fault h. refl;
      refused = λ file told fault h. refl;
      idle = λ w. refl;
      no_write = λ w. no_write;
      unread = λ w. absurd w;
      no_file = λ w. absurd w;
      settled = λ w. absurd w;
      by_index = λ k h. takes_none asks (λ w. w) k h;
      any_source = λ k h. takes_none asks (λ w. w) k h;
      no_report = no_report;
    })
    (tells_line _ r same t.reported t.whole t.cut_short t.added t.stopped t.cause t.later t.sure))

pub returns-in-Make : goal.returns-in-Make
returns-in-Make g c =
    let d = c.make_file-answer.result in
    let e = c.make_file-answer.ensures in
    let r = c.made.result in
    let t = c.tell-in-Make.ensures in
    let says : IsAnsweredAs of_made of_make to_make d r = record { is = c.made.ensures; again = make_again } in
    let start = c.in-Make.start in
    let frames = c.in-Make.frames in
    let f = c.in-Make.channels in
    let asks = asks_make start frames f in
    let written = g.K.Sink.written c.args.sink.now in
    let new = g.K.Sink.written c.make_file-answer.new.sink in
    run_of_making r (ap command_seen c.in-Make.is) tt tt (λ w. w) (making_is_accepted start frames f.channels (multiple_of f))
    (g.met.S.Source.told_are_bytes c.args.source.now) (ap g.K.Sink.written)
    (made_no_other says)
    (λ file. subst (λ r. IfOk r (λ s. IsWhole asks s file written new)) (sym says.is)
    (if_answered of_made of_make d _ (made_whole d start frames f file written new e.written e.frames)))
    (λ h file. (done (made_file start frames f) (made_line frames ∷ []), made_outcome start frames f file, e.cut_short (own_fault says Write h)))
    refl refl (at_most_itself _) e.later (λ h. e.write (own_fault says Write h))
    (λ h file told o outcome n room fits.
    let one = command_has_one_outcome asks file tt (g.met.S.Source.told_are_bytes c.args.source.now file told) in
    e.sure (own_fault says Write h) n room (subst (λ w. length w ≤ n) (made_out start frames f file o outcome one) fits))
    (λ refused h. e.memory refused (own_fault says (Memory refused) h)) (λ w. absurd w) (λ w. absurd w)
    (λ w s h. if_done of_made of_make d s (sym says.is ∙ h) (when_ok d _ e.settled))
    (tells_line asks r refl t.reported t.whole t.cut_short t.added t.stopped t.cause t.later t.sure)
  where
    when_ok : {A E : Type 0} (d : Result A E) (P : Type 0) → IfOk d (λ a. P) → OnOk d P
    when_ok (Ok a) P p = p
    when_ok (Err x) P p = tt {0}

pub returns-in-MakeRun : goal.returns-in-MakeRun
returns-in-MakeRun g c =
    let d = c.make_run-answer.result in
    let e = c.make_run-answer.ensures in
    let r = c.ran.result in
    let t = c.tell-in-MakeRun.ensures in
    let asks = asks_run c.in-MakeRun.start c.in-MakeRun.frames c.in-MakeRun.channels in
    let no_write : r ≡ Err Write → ⊥ = λ h. ran_no_other of_ran d Write (λ x q. absurd cc) (sym c.ran.ensures ∙ h) in
    run_of_making r (ap command_seen c.in-MakeRun.is) tt tt (λ w. w)
    (run_is_accepted c.in-MakeRun.start c.in-MakeRun.frames c.in-MakeRun.channels.channels (multiple_of c.in-MakeRun.channels))
    (g.met.S.Source.told_are_bytes c.args.source.now) (λ w. refl)
    (ran_not_so of_ran d r c.ran.ensures)
    (λ file. finished_alone asks r _ file (subst (λ r. IfOk r (λ s. OutcomeOf asks file (done [] (done_line asks s ∷ [])))) (sym c.ran.ensures)
    (if_answered of_ran of_run d _ (run_done d c.in-MakeRun.start c.in-MakeRun.frames c.in-MakeRun.channels file e.shape e.frames e.line))))
    (λ h. absurd (no_write h)) refl refl (at_most_itself _) (at_most_itself _) (λ h. absurd (no_write h)) (λ h. absurd (no_write h)) (λ refused h. refl)
    (λ w. refl) (λ w. no_write) (λ w. absurd w) (tells_line asks r refl t.reported t.whole t.cut_short t.added t.stopped t.cause t.later t.sure)

-- ---- commands that report their lines themselves
-- of a file without frames the list of frames is what the report was
silent_listing : (d : Result Reported ListFault) (bytes : Option (List ℕ)) (file : List ℕ) (Q : Type 0) → bytes ≡ Some file → (accepted file).frames ≡ 0 →
    IfOk d (λ s. (xs : List ℕ) → bytes ≡ Some xs → s.frames ≡ (accepted xs).frames) → IfOk d (λ s. s.frames ≡ 0 → Q) → OnOk d Q
silent_listing (Ok s) bytes file Q told none frames silent = silent (frames file told ∙ none)
silent_listing (Err fault) bytes file Q told none frames silent = tt {0}

pub returns-in-Show : goal.returns-in-Show
returns-in-Show g c =
    let e = c.show_file-answer.ensures in
    let t = c.tell_fault.ensures in
    let says : IsAnsweredAs of_reported of_show to_show c.show_file-answer.result c.shown.result =
    record { is = c.shown.ensures; again = show_again } in
    run_of_own_lines g.R.Sink.written g.R.Sink.faults g.R.Sink.appended g.R.Sink.room c.args.report.now
    c.show_file-answer.new.report c.tell_fault.new.report
    (ap command_seen c.in-Show.is) says report_is_no_write refl tt tt (λ w. w) (g.met.S.Source.told_are_bytes c.args.source.now) refl refl
    (at_most_itself _) e.lines e.file (λ k fault is. e.frame k fault) e.cut_short e.added e.stopped e.bytes e.later e.read e.reported
    e.untouched e.sure (λ is. absurd cc)
    t.reported t.done t.failed t.whole t.cut_short t.added t.stopped t.cause t.later t.sure

pub returns-in-ShowFrame : goal.returns-in-ShowFrame
returns-in-ShowFrame g c =
    let e = c.show_file-answer-in-ShowFrame.ensures in
    let t = c.tell_fault-in-ShowFrame.ensures in
    let says : IsAnsweredAs of_reported of_show to_show c.show_file-answer-in-ShowFrame.result c.shown-in-ShowFrame.result =
    record { is = c.shown-in-ShowFrame.ensures; again = show_again } in
    run_of_own_lines g.R.Sink.written g.R.Sink.faults g.R.Sink.appended g.R.Sink.room c.args.report.now
    c.show_file-answer-in-ShowFrame.new.report c.tell_fault-in-ShowFrame.new.report
    (ap command_seen c.in-ShowFrame.is) says report_is_no_write refl tt tt (λ w. w) (g.met.S.Source.told_are_bytes c.args.source.now) refl refl
    (at_most_itself _) e.lines e.file (λ k fault is. e.frame k fault) e.cut_short e.added e.stopped e.bytes e.later e.read e.reported
    e.untouched e.sure (λ is. absurd cc)
    t.reported t.done t.failed t.whole t.cut_short t.added t.stopped t.cause t.later t.sure

pub returns-in-Index : goal.returns-in-Index
returns-in-Index g c =
    let e = c.index_file-answer.ensures in
    let t = c.tell_fault-in-Index.ensures in
    let says : IsAnsweredAs of_reported of_list to_list c.index_file-answer.result c.listed.result =
    record { is = c.listed.ensures; again = list_again } in
    run_of_own_lines g.R.Sink.written g.R.Sink.faults g.R.Sink.appended g.R.Sink.room c.args.report.now
    c.index_file-answer.new.report c.tell_fault-in-Index.new.report
    (ap command_seen c.in-Index.is) says report_is_no_write refl tt tt (λ w. w) (g.met.S.Source.told_are_bytes c.args.source.now) refl refl
    (at_most_itself _) e.lines e.file (λ k fault is. report_is_no_frame k fault is) e.cut_short e.added e.stopped e.bytes e.later e.read e.reported
    e.untouched e.sure (λ is file told none. silent_listing c.index_file-answer.result _ file _ told none e.frames e.silent)
    t.reported t.done t.failed t.whole t.cut_short t.added t.stopped t.cause t.later t.sure

-- ---- the others
pub run_on_files-requires-clause-files : goal.run_on_files-requires-clause-files
run_on_files-requires-clause-files g c =
    let d = c.in_default in
    λ lifetimes outlive. reads_and_writes c.args.command d.not-Check d.not-Show d.not-ShowFrame d.not-Index d.not-Make d.not-MakeRun
