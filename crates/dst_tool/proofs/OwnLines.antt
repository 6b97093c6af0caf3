-- A command that reports its lines itself: what it answered, and what the run leaves.
use Rattle.std.proofs.Common.{◌≡◌, ◌≢◌, ◌⊎◌, inl, inr, ℕ, ◌+◌, ◌≤◌, true, List, [], ◌∷◌, length, Option, Some, Result, Ok, Err, refl, ap, sym, subst, ◌∙◌}
use Rattle.std.proofs.Common.{arith, IfOk, OnOk}
use Rattle.std.specs.Prelude.{⊤}
use Rattle.dst_spec.specs.Bits.{AreBytes}
use Rattle.dst_spec.specs.declared.faults.FrameFault.{FrameFault}
use Rattle.dst_streams.specs.Causes.{Rose}
use Rattle.dst_streams.specs.Told.{and_then, IsCutShort}
use Rattle.dsdiff_spec.specs.declared.faults.FileFault.{FileFault}
use Rattle.dsdiff_spec.specs.Rules.{accepted}
use Rattle.dsdiff_spec.specs.Words.{Command, frame, index}
use Rattle.dsdiff_spec.specs.Refusal.{refusal}
use Rattle.dsdiff_spec.specs.Lines.{Line, report, memory_line}
use Rattle.dsdiff_spec.specs.Outcome.{Answer, done, file_refused, frame_refused}
use Rattle.dsdiff_spec.proofs.OneAnswer.{HasOutcome, command_has_one_outcome}
use Rattle.dst_tool.specs.declared.answers.Numbers.{Numbers}
use Rattle.dst_tool.specs.declared.answers.Fault.{Fault}
use Rattle.dst_tool.specs.declared.answers.Fault.TheVariants.{Read, Write, Memory, Report, File, Frame}
use Rattle.dst_tool.specs.Answers.{status_of, fault_line}
use Rattle.dst_commands.specs.Commands.{OutcomeOf}
use Rattle.dst_show.specs.LineByLine.{AddsLines, StopsAtALine}
use Rattle.dst_tool.specs.Runs.{DidNotRise, EndsBy, Reports, WritesNowhere, ReadsNothing, Counts, Held, Told, IsCaused, IsRun}
use Rattle.dst_tool.proofs.Statuses.{status_is_done, status_is_read, status_is_write, status_is_memory, status_is_not_words}
use Rattle.dst_tool.proofs.Statuses.{status_is_at_most}
use Rattle.dst_tool.proofs.Inverting.{IsAnsweredAs, if_answered, if_done, own_fault, own_other, answered_again, never_answered}
use Rattle.dst_tool.proofs.OneLine.{OfTold, at_file, same_run, refusal_is, whole_of, nothing_of, not_both_kinds, same_lines, reports_line, status_answered}
use Rattle.dst_commands.proofs.Writing.{and_then-nothing}

-- what it answered of a file, the report holding `told` before and `mid` then
pub record IsListing (c : Command) (r : Result Numbers Fault) (file : List ℕ) (told mid : Told) : Type 0 where
  pub lines : IfOk r (λ s. (lines : List Line) × OutcomeOf c file (done [] lines) × (mid.old ≡ and_then told.old (report lines)))
  pub file_is : (fault : FileFault) → r ≡ Err (File fault) → refusal c file ≡ Some fault
  pub frame_is : (k : ℕ) (fault : FrameFault) → r ≡ Err (Frame k fault) → OutcomeOf c file (frame_refused k fault [])
  pub some : (o : Answer) × OutcomeOf c file o
  pub cut_short : r ≡ Err Report → (lines : List Line) × OutcomeOf c file (done [] lines) × IsCutShort told.old (report lines) mid.old
  pub added : IfOk r (λ s. (o : Answer) → OutcomeOf c file o → AddsLines o.lines told.before mid.before)
  pub stopped : r ≡ Err Report → (o : Answer) → OutcomeOf c file o → StopsAtALine o.lines told.before mid.before

-- whatever the source tells
pub record Lists (r : Result Numbers Fault) (source counts middle : Counts) (told mid : Told) : Type 0 where
  pub later : (source.before ≤ source.now) × (counts.before ≤ middle.before)
  pub read : r ≡ Err Read → Rose source.before source.now
  pub no_write : r ≡ Err Write → ⊥
  pub reported : r ≡ Err Report → Rose counts.before middle.before
  pub untouched : (fault : Fault) → r ≡ Err fault → fault ≢ Report → (mid.old ≡ told.old) × (mid.room ≡ told.room) × (middle.before ≡ counts.before)
      × (mid.before ≡ told.before)

-- what is reported of it then
pub record TellsFault (r : Result Numbers Fault) (result : ℕ) (middle : Counts) (mid : Told) : Type 0 where
  pub reported : (result ≡ status_of r) ⊎ (result ≡ 7)
  pub done : (s : Numbers) → r ≡ Ok s → (result ≡ 0) × (mid.new ≡ mid.old) × (middle.now ≡ middle.before) × (mid.now ≡ mid.before)
  pub failed : r ≡ Err Report → (result ≡ 7) × (mid.new ≡ mid.old) × (middle.now ≡ middle.before) × (mid.now ≡ mid.before)
  pub whole : (fault : Fault) → r ≡ Err fault → fault ≢ Report → result ≡ status_of r → mid.new ≡ and_then mid.old (report (fault_line fault ∷ []))
  pub cut_short : (fault : Fault) → r ≡ Err fault → fault ≢ Report → result ≡ 7 → IsCutShort mid.old (report (fault_line fault ∷ [])) mid.new
  pub added : (fault : Fault) → r ≡ Err fault → fault ≢ Report → result ≡ status_of r → AddsLines (fault_line fault ∷ []) mid.before mid.now
  pub stopped : (fault : Fault) → r ≡ Err fault → fault ≢ Report → result ≡ 7 → mid.now ≡ mid.before
  pub cause : (fault : Fault) → r ≡ Err fault → fault ≢ Report → result ≡ 7 → Rose middle.before middle.now
  pub later : middle.before ≤ middle.now
  pub sure : (fault : Fault) → r ≡ Err fault → fault ≢ Report → result ≡ 7 → (n : ℕ) → mid.room ≡ Some n → length (report (fault_line fault ∷ [])) ≤ n → ⊥

-- ---- how it ends
-- a fault that isn't the report's is reported
abbrev IsReported : Fault → Type 0
IsReported Read = ⊤
IsReported (Memory refused) = ⊤
IsReported (File fault) = ⊤
IsReported (Frame k fault) = ⊤
IsReported Write = ⊥
IsReported Report = ⊥

not_report : (fault : Fault) → IsReported fault → fault ≢ Report
not_report fault h e = subst IsReported e h

abbrev EndsListing : Command → List ℕ → ℕ → Option (List ℕ) → Counts → Counts → Told → Type 0
EndsListing c file result written source sink told =
    (wanted : ℕ) × (lines : List Line) × EndsBy (OutcomeOf c file) (Some c) file ⊤ wanted lines written written
    × IsCaused wanted source.before source.now sink.before sink.now × Reports wanted lines result told.old told.new told.before told.now

-- a status that no device has
done_is_caused : (source sink : Counts) → IsCaused 0 source.before source.now sink.before sink.now
done_is_caused source sink = record { read = λ e. absurd (omega arith); write = λ e. absurd (omega arith) }

fault_ends : (c : Command) (fault : Fault) (file : List ℕ) (written : Option (List ℕ)) (told mid : Told) → WritesNowhere c → IsReported fault →
    IsListing c (Err fault) file told mid →
    EndsBy (OutcomeOf c file) (Some c) file ⊤ (status_of (Err fault)) (fault_line fault ∷ []) written written
fault_ends c Read file written told mid w h l = inl (refl, refl, (l.some.0, l.some.1, nothing_of c file l.some.0.out written w))
fault_ends c (Memory refused) file written told mid w h l = inr (inr (inl (refl, refl, tt, refl)))
fault_ends c (File fault) file written told mid w h l =
    inr (inr (inr (
      file_refused fault,
      refusal_is c file fault (l.file_is fault refl),
      refl,
      refl,
      whole_of c [] written written
          (sym (and_then-nothing written)),
    )))
fault_ends c (Frame k fault) file written told mid w h l =
    inr (inr (inr (frame_refused k fault [], l.frame_is k fault refl, refl, refl, whole_of c [] written written (sym (and_then-nothing written)))))
fault_ends c Write file written told mid w h l = absurd h
fault_ends c Report file written told mid w h l = absurd h

reported_ends : (c : Command) (fault : Fault) (result : ℕ) (file : List ℕ) (written : Option (List ℕ)) (source sink counts middle : Counts)
    (told mid : Told) →
    WritesNowhere c → IsReported fault → mid.new ≡ told.new → mid.now ≡ told.now →
    IsListing c (Err fault) file told mid → Lists (Err fault) source counts middle told mid → TellsFault (Err fault) result middle mid →
    EndsListing c file result written source sink told
reported_ends c fault result file written source sink counts middle told mid w h last last_added l s t =
    let other = not_report fault h in
    let same = (s.untouched fault refl other).0 in
    let first = (s.untouched fault refl other).3 in (
      status_of (Err fault),
      fault_line fault ∷ [],
      fault_ends c fault file written told mid w h l,
      record { read = λ e. s.read (status_is_read (Err fault) e); write = λ e. absurd (s.no_write (status_is_write (Err fault) e)) },
      reports_line (status_of (Err fault)) result (fault_line fault) told.old told.new told.before told.now t.reported
          (λ e. sym last ∙ t.whole fault refl other e ∙ ap (λ w. and_then w (report (fault_line fault ∷ []))) same)
          (λ e. subst (λ w. IsCutShort told.old (report (fault_line fault ∷ [])) w) last
          (subst (λ w. IsCutShort w (report (fault_line fault ∷ [])) mid.new) same (t.cut_short fault refl other e)))
          (λ e. sym last_added ∙ t.added fault refl other e ∙ ap (λ n. n + length (report (fault_line fault ∷ []))) first)
          (λ e. sym last_added ∙ t.stopped fault refl other e ∙ first),
    )

listing_ends : (c : Command) (r : Result Numbers Fault) (result : ℕ) (file : List ℕ) (written : Option (List ℕ)) (source sink counts middle : Counts)
    (told mid : Told) → WritesNowhere c → mid.new ≡ told.new → mid.now ≡ told.now →
    IsListing c r file told mid → Lists r source counts middle told mid → TellsFault r result middle mid →
    EndsListing c file result written source sink told
listing_ends c (Ok s) result file written source sink counts middle told mid w last last_added l h t =
    let d = t.done s refl in (
      0,
      l.lines.0,
      inr (inr (inr (done [] l.lines.0, l.lines.1, refl, refl, whole_of c [] written written (sym (and_then-nothing written))))),
      done_is_caused source sink,
      inl (d.0, sym last ∙ d.1 ∙ l.lines.2, sym last_added ∙ d.3 ∙ l.added (done [] l.lines.0) l.lines.1),
    )
listing_ends c (Err Report) result file written source sink counts middle told mid w last last_added l h t =
    let f = t.failed refl in
    let cut = l.cut_short refl in (
      0,
      cut.0,
      inr (inr (inr (done [] cut.0, cut.1, refl, refl, whole_of c [] written written (sym (and_then-nothing written))))),
      done_is_caused source sink,
      inr (
        f.0,
        subst (λ w. IsCutShort told.old (report cut.0) w) (sym f.1 ∙ last) cut.2,
        subst (λ n. StopsAtALine cut.0 told.before n) (sym f.3 ∙ last_added) (l.stopped refl (done [] cut.0) cut.1),
      ),
    )
listing_ends c (Err Read) result file written source sink counts middle told mid w last last_added l h t =
    reported_ends c Read result file written source sink counts middle told mid w tt last last_added l h t
listing_ends c (Err (Memory refused)) result file written source sink counts middle told mid w last last_added l h t =
    reported_ends c (Memory refused) result file written source sink counts middle told mid w tt last last_added l h t
listing_ends c (Err (File fault)) result file written source sink counts middle told mid w last last_added l h t =
    reported_ends c (File fault) result file written source sink counts middle told mid w tt last last_added l h t
listing_ends c (Err (Frame k fault)) result file written source sink counts middle told mid w last last_added l h t =
    reported_ends c (Frame k fault) result file written source sink counts middle told mid w tt last last_added l h t
listing_ends c (Err Write) result file written source sink counts middle told mid w last last_added l h t = absurd (h.no_write refl)

-- ---- causes
moved : (counts middle : Counts) → middle.before ≡ counts.before → middle.now ≡ counts.now → Rose middle.before middle.now → Rose counts.before counts.now
moved counts middle a b rose = subst (λ m. Rose counts.before m) b (subst (λ m. Rose m middle.now) a rose)

seven_has_cause : (r : Result Numbers Fault) (result : ℕ) (source counts middle : Counts) (told mid : Told) → middle.now ≡ counts.now →
    Lists r source counts middle told mid → TellsFault r result middle mid → result ≡ 7 → Rose counts.before counts.now
seven_has_cause (Ok s) result source counts middle told mid last h t seven = let d = t.done s refl in absurd (omega (arith, d.0))
seven_has_cause (Err Report) result source counts middle told mid last h t seven =
    subst (λ n. Rose counts.before n) (sym (t.failed refl).2 ∙ last) (h.reported refl)
seven_has_cause (Err Read) result source counts middle told mid last h t seven =
    moved counts middle (h.untouched Read refl (λ e. absurd cc)).2 last (t.cause Read refl (λ e. absurd cc) seven)
seven_has_cause (Err (Memory refused)) result source counts middle told mid last h t seven =
    moved counts middle (h.untouched (Memory refused) refl (λ e. absurd cc)).2 last (t.cause (Memory refused) refl (λ e. absurd cc) seven)
seven_has_cause (Err (File fault)) result source counts middle told mid last h t seven =
    moved counts middle (h.untouched (File fault) refl (λ e. absurd cc)).2 last (t.cause (File fault) refl (λ e. absurd cc) seven)
seven_has_cause (Err (Frame k fault)) result source counts middle told mid last h t seven =
    moved counts middle (h.untouched (Frame k fault) refl (λ e. absurd cc)).2 last (t.cause (Frame k fault) refl (λ e. absurd cc) seven)
seven_has_cause (Err Write) result source counts middle told mid last h t seven = absurd (h.no_write refl)

-- ---- a report that is sure to take the outcome's lines takes the line of a fault
abbrev IsSure : Result Numbers Fault → Command → Option (List ℕ) → Told → Type 0
IsSure r c bytes told =
    r ≡ Err Report → (file : List ℕ) → bytes ≡ Some file → (o : Answer) → OutcomeOf c file o → (n : ℕ) → told.room ≡ Some n → length (report o.lines) ≤ n → ⊥

fault_fits : (c : Command) (fault : Fault) (result n : ℕ) (file : List ℕ) (written : Option (List ℕ)) (o : Answer) (source counts middle : Counts)
    (told mid : Told) → HasOutcome c → AreBytes file → IsReported fault →
    OutcomeOf c file o → IsListing c (Err fault) file told mid → Lists (Err fault) source counts middle told mid →
    TellsFault (Err fault) result middle mid →
    DidNotRise source.before source.now → told.room ≡ Some n → 7 ≤ n → length (report o.lines) ≤ n → result ≡ 7 → ⊥
fault_fits c Read result n file written o source counts middle told mid reads bytes h is l s t no_read room least fits seven = no_read (s.read refl)
fault_fits c (Memory refused) result n file written o source counts middle told mid reads bytes h is l s t no_read room least fits seven =
    t.sure (Memory refused) refl (λ e. absurd cc) seven n ((s.untouched (Memory refused) refl (λ e. absurd cc)).1 ∙ room) least
fault_fits c (File fault) result n file written o source counts middle told mid reads bytes h is l s t no_read room least fits seven =
    let same = same_lines c file 5 (fault_line (File fault) ∷ []) written written o reads bytes is
    (file_refused fault, refusal_is c file fault (l.file_is fault refl), refl, refl, whole_of c [] written written (sym (and_then-nothing written))) in
    t.sure (File fault) refl (λ e. absurd cc) seven n ((s.untouched (File fault) refl (λ e. absurd cc)).1 ∙ room)
    (subst (λ lines. length (report lines) ≤ n) same fits)
fault_fits c (Frame k fault) result n file written o source counts middle told mid reads bytes h is l s t no_read room least fits seven =
    let same = same_lines c file 6 (fault_line (Frame k fault) ∷ []) written written o reads bytes is
    (frame_refused k fault [], l.frame_is k fault refl, refl, refl, whole_of c [] written written (sym (and_then-nothing written))) in
    t.sure (Frame k fault) refl (λ e. absurd cc) seven n ((s.untouched (Frame k fault) refl (λ e. absurd cc)).1 ∙ room)
    (subst (λ lines. length (report lines) ≤ n) same fits)
fault_fits c Write result n file written o source counts middle told mid reads bytes h is l s t no_read room least fits seven = absurd h
fault_fits c Report result n file written o source counts middle told mid reads bytes h is l s t no_read room least fits seven = absurd h

listing_fits : (c : Command) (r : Result Numbers Fault) (result n : ℕ) (bytes : Option (List ℕ)) (file : List ℕ) (written : Option (List ℕ))
    (o : Answer) (source counts middle : Counts) (told mid : Told) → HasOutcome c → AreBytes file → bytes ≡ Some file →
    OutcomeOf c file o → IsListing c r file told mid → Lists r source counts middle told mid → TellsFault r result middle mid → IsSure r c bytes told →
    DidNotRise source.before source.now → told.room ≡ Some n → 7 ≤ n → length (report o.lines) ≤ n → result ≡ 7 → ⊥
listing_fits c (Ok s) result n bytes file written o source counts middle told mid reads are e is l h t sure no_read room least fits seven = let d =
    t.done s refl in omega (arith, d.0)
listing_fits c (Err Report) result n bytes file written o source counts middle told mid reads are e is l h t sure no_read room least fits seven =
    sure refl file e o is n room fits
listing_fits c (Err Read) result n bytes file written o source counts middle told mid reads are e is l h t sure no_read room least fits seven =
    fault_fits c Read result n file written o source counts middle told mid reads are tt is l h t no_read room least fits seven
listing_fits c (Err (Memory refused)) result n bytes file written o source counts middle told mid reads are e is l h t sure no_read room least fits seven =
    fault_fits c (Memory refused) result n file written o source counts middle told mid reads are tt is l h t no_read room least fits seven
listing_fits c (Err (File fault)) result n bytes file written o source counts middle told mid reads are e is l h t sure no_read room least fits seven =
    fault_fits c (File fault) result n file written o source counts middle told mid reads are tt is l h t no_read room least fits seven
listing_fits c (Err (Frame k fault)) result n bytes file written o source counts middle told mid reads are e is l h t sure no_read room least fits seven =
    fault_fits c (Frame k fault) result n file written o source counts middle told mid reads are tt is l h t no_read room least fits seven
listing_fits c (Err Write) result n bytes file written o source counts middle told mid reads are e is l h t sure no_read room least fits seven = h.no_write refl

-- ---- the run
status_of_two : (r : Result Numbers Fault) (result : ℕ) → (result ≡ status_of r) ⊎ (result ≡ 7) → result ≡ 2 → r ≡ Err Read
status_of_two r result t two = status_is_read r (status_answered (status_of r) result 2 t two (omega arith))

at_most : (r : Result Numbers Fault) (result : ℕ) → (result ≡ status_of r) ⊎ (result ≡ 7) → result ≤ 7
at_most r result (inr e) = omega arith
at_most r result (inl e) = let most = status_is_at_most r in omega arith

run_of_listing : (c : Command) (r : Result Numbers Fault) (result : ℕ) (bytes : Option (List ℕ)) (source sink counts middle given : Counts)
    (written : Held) (told mid : Told) (Same Settled Unread Stays Silent : Type 0) → HasOutcome c → WritesNowhere c → (ReadsNothing c → ⊥) →
    ((k : ℕ) → c ≡ frame k true → ⊥) →
    ((file : List ℕ) → bytes ≡ Some file → AreBytes file) → written.old ≡ written.new → Same → sink.before ≤ sink.now → Stays → mid.new ≡ told.new →
    middle.now ≡ counts.now → mid.now ≡ told.now →
    ((file : List ℕ) → bytes ≡ Some file → IsListing c r file told mid) → Lists r source counts middle told mid →
    TellsFault r result middle mid → IsSure r c bytes told →
    (c ≡ index → (file : List ℕ) → bytes ≡ Some file → (accepted file).frames ≡ 0 → (s : Numbers) → r ≡ Ok s → Silent) →
    IsRun c result bytes source sink counts given written told Same Settled Unread Stays Silent
run_of_listing c r result bytes source sink counts middle given written told mid Same Settled Unread Stays Silent reads nowhere reading not_by_index are
    still same later_sink stays last_told last_count last_added listing h t sure silent = record {
      ends = λ file e.
          let ends = listing_ends c r result file written.old source sink counts middle told mid nowhere last_told last_added (listing file e) h t in
          (ends.0, ends.1, subst (λ w. EndsBy (OutcomeOf c file) (Some c) file ⊤ ends.0 ends.1 written.old w) still ends.2, ends.3, ends.4);
      read = λ e. h.read (status_of_two r result t.reported e);
      write = λ e. absurd (h.no_write (status_is_write r (status_answered (status_of r) result 3 t.reported e (omega arith))));
      reported = seven_has_cause r result source counts middle told mid last_count h t;
      sure_sink = λ file e o is n room fits three. h.no_write (status_is_write r (status_answered (status_of r) result 3 t.reported three (omega arith)));
      sure_report = λ file e o is no_read no_write n room least fits seven. listing_fits c r result n bytes file written.old o source counts middle told
          mid reads (are file e) e is (listing file e) h t sure no_read room least fits seven;
      bytes_stay = stays;
      later_source = h.later.0;
      later_sink = later_sink;
      later_report = let first = h.later.1 in let then = t.later in let last = last_count in omega arith;
      memory = λ e. same;
      memory_answered = λ e.
          let status = status_answered (status_of r) result 4 t.reported e (omega arith) in
          let f = status_is_memory r status in
          let other : Memory f.0 ≢ Report = λ q. absurd cc in
          let still = (h.untouched (Memory f.0) f.1 other).0 in
          sym last_told ∙ t.whole (Memory f.0) f.1 other (e ∙ sym status) ∙ ap (λ w. and_then w (report (memory_line ∷ []))) still;
      silent = λ e file told_file none zero_status.
          let d = status_is_done r (status_answered (status_of r) result 0 t.reported zero_status (omega arith)) in
          silent e file told_file none d.0 d.1;
      file_refused = λ e. same;
      no_output = λ file told fault e. same;
      idle = λ w. same;
      no_write = λ w e. h.no_write (status_is_write r (status_answered (status_of r) result 3 t.reported e (omega arith)));
      unread = λ w. absurd (reading w);
      made = λ w. absurd (reading w);
      no_file = λ w. absurd (reading w);
      settled = λ w e. absurd (not_both_kinds c nowhere w);
      by_index = λ k e. absurd (not_by_index k e);
      any_source = λ k e. absurd (not_by_index k e);
      least_status = λ e. status_is_not_words r (status_answered (status_of r) result 1 t.reported e (omega arith));
      most_status = at_most r result t.reported;
    }

-- ---- the same, of what it answers in its own words
pub report_is_no_write : Report ≢ Write
report_is_no_write = λ e. absurd cc

pub report_is_no_frame : {P : Type 0} (k : ℕ) (fault : FrameFault) → Report ≡ Frame k fault → P
report_is_no_frame k fault e = absurd cc

-- The report is `old` before, `mid` behind the command's lines, and `new` behind the line of its fault.
pub run_of_own_lines : {A E R : Type 0} {f : A → Numbers} {h : E → Fault} {back : Fault → E} {d : Result A E} {r : Result Numbers Fault} {a c : Command}
    {result : ℕ} {bytes : Option (List ℕ)} {source sink given : Counts} {held : Held} {Same Settled Unread Stays : Type 0}
    (written : R → Option (List ℕ)) (faults appended : R → ℕ) (room : R → Option ℕ) (old mid new : R) →
    a ≡ c → IsAnsweredAs f h back d r → (h (back Write) ≢ Write) → h (back Report) ≡ Report → HasOutcome c → WritesNowhere c → (ReadsNothing c → ⊥) →
    OfTold bytes AreBytes → held.old ≡ held.new → Same → sink.before ≤ sink.now →
    IfOk d (λ s. OfTold bytes (λ file. (lines : List Line) × OutcomeOf c file (done [] lines) × (written mid ≡ and_then (written old) (report lines)))) →
    ((fault : FileFault) → d ≡ Err (back (File fault)) → OfTold bytes (λ file. refusal c file ≡ Some fault)) →
    ((k : ℕ) (fault : FrameFault) → h (back (Frame k fault)) ≡ Frame k fault → d ≡ Err (back (Frame k fault)) →
    OfTold bytes (λ file. OutcomeOf c file (frame_refused k fault []))) →
    (d ≡ Err (back Report) → OfTold bytes (λ file. (lines : List Line) × OutcomeOf c file (done [] lines)
    × IsCutShort (written old) (report lines) (written mid))) →
    IfOk d (λ s. OfTold bytes (λ file. (o : Answer) → OutcomeOf c file o → AddsLines o.lines (appended old) (appended mid))) →
    (d ≡ Err (back Report) → OfTold bytes (λ file. (o : Answer) → OutcomeOf c file o → StopsAtALine o.lines (appended old) (appended mid))) →
    Stays → (source.before ≤ source.now) × (faults old ≤ faults mid) → (d ≡ Err (back Read) → Rose source.before source.now) →
    (d ≡ Err (back Report) → Rose (faults old) (faults mid)) → ((x : E) → d ≡ Err x → (x ≢ back Report) → mid ≡ old) →
    (d ≡ Err (back Report) →
    OfTold bytes (λ file. (o : Answer) → OutcomeOf c file o → (n : ℕ) → room old ≡ Some n → length (report o.lines) ≤ n → ⊥)) →
    (c ≡ index → OfTold bytes (λ file. (accepted file).frames ≡ 0 → OnOk d (mid ≡ old))) →
    (result ≡ status_of r) ⊎ (result ≡ 7) → ((s : Numbers) → r ≡ Ok s → (result ≡ 0) × (new ≡ mid)) →
    (r ≡ Err Report → (result ≡ 7) × (new ≡ mid)) →
    ((fault : Fault) → r ≡ Err fault → fault ≢ Report → result ≡ status_of r → written new ≡ and_then (written mid) (report (fault_line fault ∷ []))) →
    ((fault : Fault) → r ≡ Err fault → fault ≢ Report → result ≡ 7 → IsCutShort (written mid) (report (fault_line fault ∷ [])) (written new)) →
    ((fault : Fault) → r ≡ Err fault → fault ≢ Report → result ≡ status_of r → AddsLines (fault_line fault ∷ []) (appended mid) (appended new)) →
    ((fault : Fault) → r ≡ Err fault → fault ≢ Report → result ≡ 7 → appended new ≡ appended mid) →
    ((fault : Fault) → r ≡ Err fault → fault ≢ Report → result ≡ 7 → Rose (faults mid) (faults new)) → faults mid ≤ faults new →
    ((fault : Fault) → r ≡ Err fault → fault ≢ Report → result ≡ 7 →
    (n : ℕ) → room mid ≡ Some n → length (report (fault_line fault ∷ [])) ≤ n → ⊥) →
    IsRun a result bytes source sink (record { before = faults old; now = faults new }) given held
    (record { old = written old; new = written new; room = room old; before = appended old; now = appended new }) Same Settled Unread Stays (new ≡ old)
run_of_own_lines {A} {E} {R} {f} {h} {back} {d} {r} {a} {c} {result} {bytes} {source} {sink} {given} {held} {Same} {Settled} {Unread} {Stays} written faults
    appended room old mid new same says no_write report_again reads nowhere reading are still free later_sink lines file frame_is cut_short added stopped stays
    later read reported untouched sure silent t_reported t_done t_failed t_whole t_cut_short t_added t_stopped t_cause t_later t_sure =
    let told : Told = record { old = written old; new = written new; room = room old; before = appended old; now = appended new } in
    let there : Told = record { old = written mid; new = written new; room = room mid; before = appended mid; now = appended new } in
    let counts : Counts = record { before = faults old; now = faults new } in
    let middle : Counts = record { before = faults mid; now = faults new } in
    same_run same (run_of_listing c r result bytes source sink counts middle given held told there Same Settled Unread Stays (new ≡ old) reads nowhere reading
    (λ k e. subst WritesNowhere e nowhere) are still free later_sink stays refl refl refl
    (λ xs e. record {
      lines = subst (λ q. IfOk q (λ s. (ls : List Line) × OutcomeOf c xs (done [] ls) × (written mid ≡ and_then (written old) (report ls)))) (sym says.is)
          (if_answered f h d _ (at_file d (λ s ys. (ls : List Line) × OutcomeOf c ys (done [] ls)
          × (written mid ≡ and_then (written old) (report ls))) bytes xs e lines));
      file_is = λ fault q. file fault (own_fault says (File fault) q) xs e;
      frame_is = λ k fault q. frame_is k fault (answered_again says (Frame k fault) q) (own_fault says (Frame k fault) q) xs e;
      some = let one = command_has_one_outcome c xs reads (are xs e) in (one.0, one.1);
      cut_short = λ q. cut_short (own_fault says Report q) xs e;
      added = subst (λ q. IfOk q (λ s. (o : Answer) → OutcomeOf c xs o → AddsLines o.lines (appended old) (appended mid))) (sym says.is)
          (if_answered f h d _ (at_file d (λ s ys. (o : Answer) → OutcomeOf c ys o → AddsLines o.lines (appended old) (appended mid)) bytes xs e added));
      stopped = λ q. stopped (own_fault says Report q) xs e;
    })
    (record {
      later = later;
      read = λ q. read (own_fault says Read q);
      no_write = never_answered says Write no_write;
      reported = λ q. reported (own_fault says Report q);
      untouched = λ fault q other. let is_old =
          untouched (back fault) (own_fault says fault q)
          (own_other says (back Report) fault q (λ w. other (w ∙ report_again))) in
          (ap written is_old, ap room is_old, ap faults is_old, ap appended is_old);
    })
    (record {
      reported = t_reported;
      done = λ s q. let e = t_done s q in (e.0, ap written e.1, ap faults e.1, ap appended e.1);
      failed = λ q. let e = t_failed q in (e.0, ap written e.1, ap faults e.1, ap appended e.1);
      whole = t_whole;
      cut_short = t_cut_short;
      added = t_added;
      stopped = t_stopped;
      cause = t_cause;
      later = t_later;
      sure = t_sure;
    })
    (λ q. sure (own_fault says Report q))
    (λ listed xs e none s q. (t_done s q).1 ∙ if_done f h d s (sym says.is ∙ q) (silent listed xs e none)))
