-- Outcomes of the commands that report lines of a file, and of a report that fails.
use Rattle.std.proofs.Common.{◌≡◌, ℕ, ◌+◌, ◌≤◌, false, List, [], ◌∷◌, ◌++◌, length, map, inl, inr, Option, Some, None, Result, Ok, Err, refl}
use Rattle.std.proofs.Common.{ap, sym, subst, ◌∙◌, arith}
use Rattle.dst_streams.specs.Causes.{Rose, HasCause}
use Rattle.std.specs.Prelude.{IfErr, MatchResult, codes, decimal}
use Rattle.std.proofs.lemmas.Grind.{flat_map-append}
use Rattle.std.proofs.lemmas.List.{length-map}
use Rattle.dst_spec.specs.Sample.{Shape}
use Rattle.dst_streams.specs.Told.{and_then, IsCutShort, IsSure}
use Rattle.dst_streams.specs.declared.source.Failed.{Failed}
use Rattle.dst_spec.specs.Bits.{AreBytes}
use Rattle.dsdiff_spec.specs.Form.{Form, plain, coded, shape, size_of_sound}
use Rattle.dsdiff_spec.specs.Rules.{accepted}
use Rattle.dsdiff_spec.specs.Walk.{Entry, entry, entries, frame_at}
use Rattle.dsdiff_spec.specs.Words.{Command, show, show_frame, index}
use Rattle.dsdiff_spec.specs.Refusal.{form_refusal, refusal}
use Rattle.dsdiff_spec.specs.Lines.{Line, report, summary_lines, coded_summary_lines, show_lines, index_lines}
use Rattle.dsdiff_spec.specs.Outcome.{Answer, done, frame_refused, Refuses, Shows, IsStopped, IsDone, OfCommand}
use Rattle.dsdiff_spec.specs.declared.faults.FileFault.{FileFault}
use Rattle.dst_spec.specs.declared.faults.FrameFault.{FrameFault}
use Rattle.dsdiff_spec.proofs.OneAnswer.{HasOutcome, command_has_one_outcome}
use Rattle.dsdiff_spec.specs.Progress.{NotRefused}
use Rattle.dsdiff_chunks.specs.declared.open.OpenFault.{OpenFault}
use Rattle.dsdiff_chunks.specs.declared.open.OpenFault.TheVariants.{Read, Memory, File}
use Rattle.dst_show.specs.declared.faults.Reported.{Reported}
use Rattle.dst_show.specs.declared.faults.ShowFault.{ShowFault}
use Rattle.dst_show.specs.declared.faults.ShowFault.TheVariants.{Source, Report, Frame}
use Rattle.dsdiff_chunks.specs.Opening as opening
use Rattle.dsdiff_chunks.specs.Forms.{coded_seen}
use Rattle.dsdiff_chunks.specs.Seen.{head_seen}
use Rattle.dsdiff_chunks.specs.declared.lists.ChunkHead.{ChunkHead}
use Rattle.dst_commands.specs.Opened.{IsWalked, IsFound}
use Rattle.dst_commands.specs.declared.opened.FoundFrame.{FoundFrame}
use Rattle.frame_index.specs.Entries.{entry_seen}
use Rattle.dsdiff_chunks.specs.declared.form.CodedForm.{CodedForm}
use Rattle.dst_commands.specs.declared.opened.WalkedForm.{WalkedForm}
use Rattle.dst_commands.proofs.InOrder.{rules_of_index, rules_of_show_frame}
use Rattle.dst_commands.specs.Commands.{OutcomeOf}
use Rattle.dst_show.specs.LineByLine.{GoesByLines, fed}
use Rattle.dst_show.specs.Reporting.{HasReportCause, ReportEnds, reported_as, IsShown, IsUnshown, IsHeaderOf, FindsNoHeader}
use Rattle.dst_commands.specs.Writing.{Adds, Stops}
use Rattle.dst_commands.proofs.Writing.{added, cut_off, adds_then, stops_then}
use Rattle.dst_show.proofs.LineByLine.{goes_by_one}

-- ---- what is answered is done or one fault
pub done_or_fault : {T E : Type 0} (s : T) (fault : E) → ◌≡◌ {A = Result T E} (Ok s) (Err fault) → ⊥
done_or_fault s fault e = cc

pub one_fault : {T E : Type 0} (a b : E) → ◌≡◌ {A = Result T E} (Err a) (Err b) → a ≡ b
one_fault a b e = cc

pub source_is_no_frame : (fault : OpenFault) (k : ℕ) (frame_fault : FrameFault) → Source fault ≡ Frame k frame_fault → ⊥
source_is_no_frame fault k frame_fault e = cc

pub frame_is_no_report : (k : ℕ) (fault : FrameFault) → Frame k fault ≡ Report → ⊥
frame_is_no_report k fault e = cc

-- a file keeps some rules, and this is its form
pub record IsAccepted (rules : List ℕ → Option FileFault) (file : List ℕ) (form : Form) : Type 0 where
  pub accepts : rules file ≡ None
  pub form_is : accepted file ≡ form

-- ---- an outcome of an accepted file
pub done_outcome : (c : Command) (file : List ℕ) (form : Form) (o : Answer) → IsAccepted (refusal c) file form → IsDone c file form o → OutcomeOf c file o
done_outcome c file form o a d = subst (λ r. OfCommand c file r o) (sym a.accepts) (inr (subst (λ f. IsDone c file f o) (sym a.form_is) d))

pub stopped_outcome : (c : Command) (file : List ℕ) (form : Form) (o : Answer) → IsAccepted (refusal c) file form → IsStopped c file form o → OutcomeOf c file o
stopped_outcome c file form o a s = subst (λ r. OfCommand c file r o) (sym a.accepts) (inl (subst (λ f. IsStopped c file f o) (sym a.form_is) s))

pub index_outcome : (file : List ℕ) (w : WalkedForm) → form_refusal index file ≡ None → IsWalked file w → OutcomeOf index file (done [] (index_lines w.index))
index_outcome file w accepts is =
    done_outcome index file (coded_seen w.form) (done [] (index_lines w.index)) (record { accepts = rules_of_index file ∙ accepts; form_is = is.form_is })
    (tt, ap (λ es. done [] (index_lines es)) (sym is.entries_are))

pub show_outcome : (file : List ℕ) (form : Form) → IsAccepted (refusal show) file form → OutcomeOf show file (done [] (show_lines form (entries file form)))
show_outcome file form a = done_outcome show file form (done [] (show_lines form (entries file form))) a (tt, refl)

-- ---- there is one
pub one_answer : (c : Command) (file : List ℕ) (a b : Answer) → HasOutcome c → AreBytes file → OutcomeOf c file a → OutcomeOf c file b → a ≡ b
one_answer c file a b reads bytes p q =
    let one = command_has_one_outcome c file reads bytes in
    one.2 a p ∙ sym (one.2 b q)

pub outcome_lines : (c : Command) (file : List ℕ) (lines : List Line) (o : Answer) → HasOutcome c → AreBytes file → OutcomeOf c file (done [] lines) →
    OutcomeOf c file o → o.lines ≡ lines
outcome_lines c file lines o reads bytes is other = ap (λ (a : Answer). a.lines) (one_answer c file o (done [] lines) reads bytes other is)

pub index_is : (file : List ℕ) (w : WalkedForm) (o : Answer) → AreBytes file → form_refusal index file ≡ None → IsWalked file w → OutcomeOf index file o →
    index_lines w.index ≡ o.lines
index_is file w o bytes accepts is other = sym (outcome_lines index file (index_lines w.index) o tt bytes (index_outcome file w accepts is) other)

-- so a report of its lines doesn't fail where it is sure to take them
pub report_is_sure : (c : Command) (file : List ℕ) (lines : List Line) (old new : Option (List ℕ)) (room : Option ℕ) → HasOutcome c → AreBytes file →
    OutcomeOf c file (done [] lines) →
    Stops (Unit {0}) (report lines) old new room → (o : Answer) → OutcomeOf c file o → (n : ℕ) → room ≡ Some n → length (report o.lines) ≤ n → ⊥
report_is_sure c file lines old new room reads bytes is s o other n told fits =
    let same : report o.lines ≡ report lines = ap report (outcome_lines c file lines o reads bytes is other) in
    let long = ap length same in
    s.lacks (tt {0}) n told (omega (arith, long, fits))

-- ---- one call of a sink, and one piece behind another
pub appended : {T : Type 0} (r : Result T Failed) (piece : List ℕ) (old new : Option (List ℕ)) (room left : Option ℕ) →
    MatchResult r (λ _. new ≡ and_then old piece) (λ _. IsCutShort old piece new) →
    IsSure room left (length piece) r → MatchResult r (λ _. Adds piece old new room left) (λ _. Stops (Unit {0}) piece old new room)
appended (Ok u) piece old new room left w s = added (Ok u) piece old new room left s w
appended (Err failed) piece old new room left w s = cut_off failed piece old new room left s w

pub then_written : {T : Type 0} (r : Result T Failed) (a b : List ℕ) (old mid new : Option (List ℕ)) (room half left : Option ℕ) → Adds a old mid room half →
    MatchResult r (λ _. Adds b mid new half left) (λ _. Stops (Unit {0}) b mid new half) →
    MatchResult r (λ _. Adds (a ++ b) old new room left) (λ _. Stops (Unit {0}) (a ++ b) old new room)
then_written (Ok u) a b old mid new room half left p w = adds_then a b old mid new room half left p w
then_written (Err failed) a b old mid new room half left p w = stops_then (Unit {0}) a b old mid new room half p w

pub same_written : {T : Type 0} (r : Result T Failed) (a b : List ℕ) (old new : Option (List ℕ)) (room left : Option ℕ) → a ≡ b →
    MatchResult r (λ _. Adds a old new room left) (λ _. Stops (Unit {0}) a old new room) →
    MatchResult r (λ _. Adds b old new room left) (λ _. Stops (Unit {0}) b old new room)
same_written r a b old new room left e w = subst (λ p. MatchResult r (λ _. Adds p old new room left) (λ _. Stops (Unit {0}) p old new room)) e w

-- ---- the lines of a summary
abbrev pub five : List ℕ → ℕ → ℕ → ℕ → ℕ → List Line
five kind channels sound frames chunks =
    (codes "kind " ++ kind)
    ∷ (codes "channels " ++ decimal channels)
    ∷ (codes "sound " ++ decimal sound ++ codes " bytes")
    ∷ (codes "frames " ++ decimal frames)
    ∷ (codes "chunks " ++ decimal chunks)
    ∷ []

same_five : (kind : List ℕ) (channels sound size frames chunks count : ℕ) → sound ≡ size → chunks ≡ count →
    five kind channels sound frames chunks ≡ five kind channels size frames count
same_five kind channels sound size frames chunks count s c =
    ap (λ s. five kind channels s frames chunks) s ∙ ap (λ c. five kind channels size frames c) c

-- the lines of a form, by the numbers that were found of it and the heads of its chunks
pub five_of_form : (kind : List ℕ) (form : Form) (sound : ℕ) (heads seen : List ChunkHead) (reported : List (List ℕ)) → sound ≡ size_of_sound form →
    heads ≡ seen → map head_seen seen ≡ form.chunks → reported ≡ fed (five kind form.channels sound form.frames (length heads)) →
    reported ≡ fed (summary_lines kind form)
five_of_form kind form sound heads seen reported size same chunks is =
    let count : length heads ≡ length form.chunks = ap length same ∙ sym (length-map seen head_seen) ∙ ap length chunks in
    is ∙ ap fed (same_five kind form.channels sound (size_of_sound form) form.frames (length heads) (length form.chunks) size count)

-- ---- a coded form has three lines more
pub coded_five : (f : CodedForm) {size : ℕ} {heads : List ChunkHead} {reported : List (List ℕ)} → size ≡ size_of_sound (coded_seen f) → heads ≡ f.heads →
    reported ≡ fed (five (codes "coded") f.channels.channels size f.frames (length heads)) →
    reported ≡ fed (summary_lines (codes "coded") (coded_seen f))
coded_five f {size} {heads} {reported} same all is = five_of_form (codes "coded") (coded_seen f) size heads f.heads reported same all refl is

pub lines_of_coded : (form : Form) (es : List Entry) → form.kind ≡ coded →
    report (summary_lines (codes "coded") form) ++ report (coded_summary_lines form es) ≡ report (show_lines form es)
lines_of_coded form es e =
    sym (flat_map-append (λ (line : Line). line ++ 10 ∷ []) (summary_lines (codes "coded") form) (coded_summary_lines form es))
    ∙ sym (ap (λ k. report (elim k [
      | plain ↦ summary_lines (codes "plain") form
      | coded ↦ summary_lines
          (codes "coded") form ++ coded_summary_lines form es
    ])) e)

-- ---- how a report ends
ends_reported : {T : Type 0} (r : Result T Failed) (frames : ℕ) (c : Command) (file : List ℕ) (form : Form) (lines : List Line) (old new : Option (List ℕ))
    (room left : Option ℕ) (before now : ℕ) → accepted file ≡ form → frames ≡ form.frames →
    OutcomeOf c file (done [] lines) → MatchResult r (λ _. Adds (report lines) old new room left) (λ _. Stops (Unit {0}) (report lines) old new room) →
    GoesByLines r lines before now → ReportEnds (reported_as r frames) c file old new room before now
ends_reported (Ok u) frames c file form lines old new room left before now is count outcome w by_lines =
    (count ∙ ap (λ (f : Form). f.frames) (sym is), lines, outcome, w.written, by_lines)
ends_reported (Err failed) frames c file form lines old new room left before now is count outcome w by_lines = (lines, outcome, w, by_lines)

pub reported_ends : {T : Type 0} (r : Result T Failed) (a : Result Reported ShowFault) (c : Command) (file : List ℕ) (form : Form) (lines : List Line)
    (old new : Option (List ℕ)) (room left : Option ℕ) (before now : ℕ) → a ≡ reported_as r form.frames → accepted file ≡ form →
    OutcomeOf c file (done [] lines) → MatchResult r (λ _. Adds (report lines) old new room left) (λ _. Stops (Unit {0}) (report lines) old new room) →
    GoesByLines r lines before now → ReportEnds a c file old new room before now
reported_ends r a c file form lines old new room left before now e is outcome w by_lines =
    subst (λ a. ReportEnds a c file old new room before now) (sym e)
    (ends_reported r form.frames c file form lines old new room left before now is refl outcome w by_lines)

-- of a coded form, with the index that its walk found
pub coded_ends : {T : Type 0} (r : Result T Failed) (a : Result Reported ShowFault) (file : List ℕ) (w : WalkedForm) (old new : Option (List ℕ))
    (room left : Option ℕ) (before now : ℕ) → a ≡ reported_as r w.form.frames → refusal show file ≡ None → IsWalked file w →
    MatchResult r (λ _. Adds (report (show_lines (coded_seen w.form) w.index)) old new room left)
    (λ _. Stops (Unit {0}) (report (show_lines (coded_seen w.form) w.index)) old new room) →
    GoesByLines r (show_lines (coded_seen w.form) w.index) before now → ReportEnds a show file old new room before now
coded_ends r a file w old new room left before now e accepts is written by_lines =
    let form = coded_seen w.form in
    let outcome = subst (λ es. OutcomeOf show file (done [] (show_lines form es))) is.entries_are
    (show_outcome file form (record { accepts = accepts; form_is = is.form_is })) in
    reported_ends r a show file form (show_lines form w.index) old new room left before now e is.form_is outcome written by_lines

-- nothing but the report fails behind an opened file, and by its cause
pub report_failed : {T : Type 0} (r : Result T Failed) (a : Result Reported ShowFault) (frames before now : ℕ) → a ≡ reported_as r frames →
    HasCause before now r → IfErr a (λ fault. (fault ≡ Report) × Rose before now)
report_failed (Ok u) a frames before now e h = subst (λ a. IfErr a (λ fault. (fault ≡ Report) × Rose before now)) (sym e) (tt {0})
report_failed (Err failed) a frames before now e h = subst (λ a. IfErr a (λ fault. (fault ≡ Report) × Rose before now)) (sym e) (refl, h.failed)

pub cause_as_reported : (a : Result Reported ShowFault) (source_before source_now before now : ℕ) →
    IfErr a (λ fault. (fault ≡ Report) × Rose before now) → IfErr a (λ fault. HasReportCause fault source_before source_now before now)
cause_as_reported (Ok s) source_before source_now before now h = tt {0}
cause_as_reported (Err fault) source_before source_now before now h = subst (λ f. HasReportCause f source_before source_now before now) (sym h.0) h.1

pub only_reported : (a : Result Reported ShowFault) (fault : ShowFault) (before now : ℕ) → IfErr a (λ fault. (fault ≡ Report) × Rose before now) →
    a ≡ Err fault → fault ≡ Report
only_reported a fault before now h e = (subst (λ a. IfErr a (λ fault. (fault ≡ Report) × Rose before now)) e h).0

pub ends_unopened : (fault : OpenFault) (c : Command) (bytes : Option (List ℕ)) (before now : ℕ) (file : List ℕ) (old new : Option (List ℕ))
    (room : Option ℕ) (appended_before appended_now : ℕ) → bytes ≡ Some file → opening.HasOpenCause (refusal c) bytes before now fault →
    ReportEnds (Err (Source fault)) c file old new room appended_before appended_now
ends_unopened (File f) c bytes before now file old new room appended_before appended_now told stops = stops file told
ends_unopened Read c bytes before now file old new room appended_before appended_now told stops = tt {0}
ends_unopened (Memory refused) c bytes before now file old new room appended_before appended_now told stops = tt {0}

pub cause_unopened : (fault : OpenFault) (rules : List ℕ → Option FileFault) (bytes : Option (List ℕ)) (source_before source_now before now : ℕ) →
    opening.HasOpenCause rules bytes source_before source_now fault → HasReportCause (Source fault) source_before source_now before now
cause_unopened (File f) rules bytes source_before source_now before now stops = tt {0}
cause_unopened Read rules bytes source_before source_now before now stops = stops
cause_unopened (Memory refused) rules bytes source_before source_now before now stops = tt {0}

-- ---- one frame that is shown, or refused
pub frame_is_shown : (file : List ℕ) (form : Form) (k : ℕ) (f : Shape) (w : List ℕ) (text : Line) → IsAccepted (refusal (show_frame k)) file form →
    shape form ≡ f → frame_at file (entry (entries file form) k) ≡ w →
    Shows f k w text → NotRefused (show_frame k) f w → OutcomeOf (show_frame k) file (done [] (text ∷ []))
frame_is_shown file form k f w text a same is shows none =
    let named = frame_at file (entry (entries file form) k) in
    let none_of_it = subst (λ f. NotRefused (show_frame k) f named) (sym same) (subst (NotRefused (show_frame k) f) (sym is) none) in
    let shown = subst (λ f. Shows f k named text) (sym same) (subst (λ w. Shows f k w text) (sym is) shows) in
    done_outcome (show_frame k) file form (done [] (text ∷ [])) a ((none_of_it, tt), (text, shown, refl))

pub frame_is_refused : (file : List ℕ) (form : Form) (k : ℕ) (f : Shape) (w : List ℕ) (fault : FrameFault) → IsAccepted (refusal (show_frame k)) file form →
    shape form ≡ f → frame_at file (entry (entries file form) k) ≡ w →
    Refuses (show_frame k) f w fault → OutcomeOf (show_frame k) file (frame_refused k fault [])
frame_is_refused file form k f w fault a same is r =
    stopped_outcome (show_frame k) file form (frame_refused k fault []) a
    (record {
      before = [];
      stop = (k, w);
      behind = [];
      is_run = ap {A = List ℕ} {B = List (ℕ × List ℕ)} (λ w. (k, w) ∷ []) is;
      fault = fault;
      refuses = subst (λ f. Refuses (show_frame k) f w fault) (sym same) r;
      first = tt;
      out = [];
      written = refl;
      answer = refl;
    })

-- the line of a frame that was found is what the command reports
pub header_is_found : (file line : List ℕ) (found : FoundFrame) (k : ℕ) → form_refusal (show_frame k) file ≡ None → IsFound false file k found →
    IsShown found.form.channels k (frame_at file (entry_seen found.entry)) line → IsHeaderOf k file line found.form.frames
header_is_found file line found k accepts is shown = record {
  text = shown.text;
  outcome = frame_is_shown file (coded_seen found.form) k found.form.channels (frame_at file (entry_seen found.entry)) shown.text
      (record { accepts = rules_of_show_frame k file ∙ accepts; form_is = is.form_is }) found.form.shape (ap (frame_at file) is.entry_is) shown.shows
      shown.not_refused;
  is = shown.is;
  count = ap (λ (f : Form). f.frames) (sym is.form_is);
}

-- where no line is found of it, the command finds none
pub finds_no_header : (found : FoundFrame) (k : ℕ) (fault : ShowFault) (bytes opened : Option (List ℕ)) (before mid now : ℕ) → opened ≡ bytes →
    before ≤ mid → ((file : List ℕ) → bytes ≡ Some file → form_refusal (show_frame k) file ≡ None) →
    ((file : List ℕ) → bytes ≡ Some file → IsFound false file k found) → IsUnshown found.form.channels k (entry_seen found.entry) fault opened mid now →
    FindsNoHeader k bytes before now fault
finds_no_header found k (Frame j fault) bytes opened before mid now same later accepts is h = λ file told.
    subst (λ j. OutcomeOf (show_frame k) file (frame_refused j fault [])) (sym h.0)
    (frame_is_refused file (coded_seen found.form) k found.form.channels (frame_at file (entry_seen found.entry)) fault
    (record { accepts = rules_of_show_frame k file ∙ accepts file told; form_is = (is file told).form_is }) found.form.shape
    (ap (frame_at file) (is file told).entry_is) (h.1 file (same ∙ told)))
finds_no_header found k (Source Read) bytes opened before mid now same later accepts is h = omega (arith, later, h)
finds_no_header found k (Source (Memory refused)) bytes opened before mid now same later accepts is h = absurd h
finds_no_header found k (Source (File fault)) bytes opened before mid now same later accepts is h = absurd h
finds_no_header found k Report bytes opened before mid now same later accepts is h = absurd h

-- ---- how the command ends behind a header, and without one
pub ends_with_header : {T : Type 0} (r : Result T Failed) (a : Result Reported ShowFault) (k : ℕ) (file line piece : List ℕ) (frames : ℕ)
    (old new : Option (List ℕ)) (room left : Option ℕ) (before now : ℕ) → a ≡ reported_as r frames → IsHeaderOf k file line frames → piece ≡ line →
    MatchResult r (λ _. new ≡ and_then old piece) (λ _. IsCutShort old piece new) → IsSure room left (length piece) r →
    MatchResult r (λ _. now ≡ before + length piece) (λ _. now ≡ before) → ReportEnds a (show_frame k) file old new room before now
ends_with_header r a k file line piece frames old new room left before now e header same written sure added =
    let whole : piece ≡ report (header.text ∷ []) = same ∙ header.is in
    reported_ends r a (show_frame k) file (accepted file) (header.text ∷ []) old new room left before now (e ∙ ap (reported_as r) header.count) refl
    header.outcome (same_written r piece (report (header.text ∷ [])) old new room left whole (appended r piece old new room left written sure))
    (goes_by_one r header.text piece before now whole added)

pub ends_without_header : (k : ℕ) (fault : ShowFault) (bytes : Option (List ℕ)) (source_before source_now : ℕ) (file : List ℕ) (old new : Option (List ℕ))
    (room : Option ℕ) (before now : ℕ) → bytes ≡ Some file → FindsNoHeader k bytes source_before source_now fault →
    ReportEnds (Err fault) (show_frame k) file old new room before now
ends_without_header k (Source (File fault)) bytes source_before source_now file old new room before now told h = h file told
ends_without_header k (Source Read) bytes source_before source_now file old new room before now told h = tt {0}
ends_without_header k (Source (Memory refused)) bytes source_before source_now file old new room before now told h = tt {0}
ends_without_header k (Frame j fault) bytes source_before source_now file old new room before now told h = h file told
ends_without_header k Report bytes source_before source_now file old new room before now told h = absurd h

pub cause_without_header : (k : ℕ) (fault : ShowFault) (bytes : Option (List ℕ)) (source_before source_now before now : ℕ) →
    FindsNoHeader k bytes source_before source_now fault → HasReportCause fault source_before source_now before now
cause_without_header k (Source Read) bytes source_before source_now before now h = h
cause_without_header k (Source (Memory refused)) bytes source_before source_now before now h = tt {0}
cause_without_header k (Source (File fault)) bytes source_before source_now before now h = tt {0}
cause_without_header k (Frame j fault) bytes source_before source_now before now h = tt {0}
cause_without_header k Report bytes source_before source_now before now h = absurd h
