-- What showing a file ends with, clause by clause.
use Rattle.std.proofs.Common.{◌≡◌, ℕ, ◌≤◌, List, [], length, Option, Some, None, Result, Ok, Err, subst, sym}
use Rattle.std.specs.Prelude.{IfOk}
use Rattle.dst_spec.specs.Bits.{AreBytes}
use Rattle.dst_spec.specs.declared.faults.FrameFault.{FrameFault}
use Rattle.dst_streams.specs.Told.{and_then, IsCutShort}
use Rattle.dsdiff_spec.specs.declared.faults.FileFault.{FileFault}
use Rattle.dsdiff_spec.specs.Refusal.{refusal}
use Rattle.dsdiff_spec.specs.Rules.{accepted}
use Rattle.dsdiff_spec.specs.Words.{Command}
use Rattle.dsdiff_spec.specs.Lines.{Line, report}
use Rattle.dsdiff_spec.specs.Outcome.{Answer, done, frame_refused}
use Rattle.dsdiff_spec.proofs.OneAnswer.{HasOutcome}
use Rattle.dst_show.specs.declared.faults.Reported.{Reported}
use Rattle.dst_show.specs.declared.faults.ShowFault.{ShowFault}
use Rattle.dst_show.specs.declared.faults.ShowFault.TheVariants.{Source, Report, Frame}
use Rattle.dsdiff_chunks.specs.declared.open.OpenFault.TheVariants.{File}
use Rattle.dst_commands.specs.Commands.{OutcomeOf, shown}
use Rattle.dst_show.specs.LineByLine.{AddsLines, StopsAtALine}
use Rattle.dst_show.specs.Reporting.{ReportEnds}
use Rattle.dst_show.proofs.ReportedLines.{outcome_lines, report_is_sure}

reads_shown : (q : Option ℕ) → HasOutcome (shown q)
reads_shown None = tt
reads_shown (Some k) = tt

abbrev Ends : Result Reported ShowFault → Command → Option (List ℕ) → (old new : Option (List ℕ)) → Option ℕ → (before now : ℕ) → Type 0
Ends r c bytes old new room before now = (file : List ℕ) → bytes ≡ Some file → ReportEnds r c file old new room before now

told_lines : (r : Result Reported ShowFault) (c : Command) (bytes old new : Option (List ℕ)) (room : Option ℕ) (before now : ℕ) →
    Ends r c bytes old new room before now →
    IfOk r (λ s. (file : List ℕ) → bytes ≡ Some file → (lines : List Line) × OutcomeOf c file (done [] lines) × (new ≡ and_then old (report lines)))
told_lines (Ok s) c bytes old new room before now h = λ file told. let ends = h file told in (ends.1, ends.2, ends.3)
told_lines (Err fault) c bytes old new room before now h = tt {0}

told_frames : (r : Result Reported ShowFault) (c : Command) (bytes old new : Option (List ℕ)) (room : Option ℕ) (before now : ℕ) →
    Ends r c bytes old new room before now →
    IfOk r (λ s. (file : List ℕ) → bytes ≡ Some file → s.frames ≡ (accepted file).frames)
told_frames (Ok s) c bytes old new room before now h = λ file told. (h file told).0
told_frames (Err fault) c bytes old new room before now h = tt {0}

told_short : (c : Command) (file : List ℕ) (old new : Option (List ℕ)) (room : Option ℕ) (before now : ℕ) →
    ReportEnds (Err Report) c file old new room before now →
    (lines : List Line) × OutcomeOf c file (done [] lines) × IsCutShort old (report lines) new
told_short c file old new room before now h = (h.0, h.1, h.2.cut)

told_sure : (c : Command) (file : List ℕ) (old new : Option (List ℕ)) (room : Option ℕ) (before now : ℕ) → HasOutcome c → AreBytes file →
    ReportEnds (Err Report) c file old new room before now →
    (o : Answer) → OutcomeOf c file o → (n : ℕ) → room ≡ Some n → length (report o.lines) ≤ n → ⊥
told_sure c file old new room before now reads bytes h = report_is_sure c file h.0 old new room reads bytes h.1 h.2

-- each line is appended by one call
told_added : (r : Result Reported ShowFault) (c : Command) (bytes old new : Option (List ℕ)) (room : Option ℕ) (before now : ℕ) → HasOutcome c →
    ((file : List ℕ) → bytes ≡ Some file → AreBytes file) → Ends r c bytes old new room before now →
    IfOk r (λ s. (file : List ℕ) → bytes ≡ Some file → (o : Answer) → OutcomeOf c file o → AddsLines o.lines before now)
told_added (Ok s) c bytes old new room before now reads are h = λ file told o other.
    let ends = h file told in
    subst (λ lines. AddsLines lines before now) (sym (outcome_lines c file ends.1 o reads (are file told) ends.2 other)) ends.4
told_added (Err fault) c bytes old new room before now reads are h = tt {0}

told_stopped : (c : Command) (file : List ℕ) (old new : Option (List ℕ)) (room : Option ℕ) (before now : ℕ) → HasOutcome c → AreBytes file →
    ReportEnds (Err Report) c file old new room before now → (o : Answer) → OutcomeOf c file o → StopsAtALine o.lines before now
told_stopped c file old new room before now reads bytes h o other =
    subst (λ lines. StopsAtALine lines before now) (sym (outcome_lines c file h.0 o reads bytes h.1 other)) h.3

-- ---- all of them, of the summary of a file or of the header of a frame, whichever is asked for
pub record HasShown (asked : Option ℕ) (r : Result Reported ShowFault) (bytes old new : Option (List ℕ)) (room : Option ℕ) (before now : ℕ) : Type 0 where
  pub lines : IfOk r (λ s. (file : List ℕ) → bytes ≡ Some file →
      (lines : List Line) × OutcomeOf (shown asked) file (done [] lines) × (new ≡ and_then old (report lines)))
  pub frames : IfOk r (λ s. (file : List ℕ) → bytes ≡ Some file → s.frames ≡ (accepted file).frames)
  pub file : (fault : FileFault) → r ≡ Err (Source (File fault)) → (file : List ℕ) → bytes ≡ Some file → refusal (shown asked) file ≡ Some fault
  pub frame : (k : ℕ) (fault : FrameFault) → r ≡ Err (Frame k fault) → (file : List ℕ) → bytes ≡ Some file →
      OutcomeOf (shown asked) file (frame_refused k fault [])
  pub cut_short : r ≡ Err Report → (file : List ℕ) → bytes ≡ Some file →
      (lines : List Line) × OutcomeOf (shown asked) file (done [] lines) × IsCutShort old (report lines) new
  pub sure : r ≡ Err Report → (file : List ℕ) → bytes ≡ Some file → (o : Answer) → OutcomeOf (shown asked) file o →
      (n : ℕ) → room ≡ Some n → length (report o.lines) ≤ n → ⊥
  pub added : IfOk r (λ s. (file : List ℕ) → bytes ≡ Some file → (o : Answer) → OutcomeOf (shown asked) file o → AddsLines o.lines before now)
  pub stopped : r ≡ Err Report → (file : List ℕ) → bytes ≡ Some file → (o : Answer) → OutcomeOf (shown asked) file o → StopsAtALine o.lines before now

pub has_shown : {asked q : Option ℕ} (r : Result Reported ShowFault) {bytes old new : Option (List ℕ)} {room : Option ℕ} {before now : ℕ} → asked ≡ q →
    ((file : List ℕ) → bytes ≡ Some file → AreBytes file) →
    ((file : List ℕ) → bytes ≡ Some file → ReportEnds r (shown q) file old new room before now) → HasShown asked r bytes old new room before now
has_shown {asked} {q} r {bytes} {old} {new} {room} {before} {now} is are h =
    let c = shown asked in
    let ends : Ends r c bytes old new room before now = subst (λ q. Ends r (shown q) bytes old new room before now) (sym is) h in
    let at : (a : Result Reported ShowFault) → r ≡ a → Ends a c bytes old new room before now =
    λ a e. subst (λ r. Ends r c bytes old new room before now) e ends in
    let reads = reads_shown asked in
    record {
      lines = told_lines r c bytes old new room before now ends;
      frames = told_frames r c bytes old new room before now ends;
      file = λ fault e. at (Err (Source (File fault))) e;
      frame = λ k fault e. at (Err (Frame k fault)) e;
      cut_short = λ e file told. told_short c file old new room before now (at (Err Report) e file told);
      sure = λ e file told. told_sure c file old new room before now reads (are file told) (at (Err Report) e file told);
      added = told_added r c bytes old new room before now reads are ends;
      stopped = λ e file told. told_stopped c file old new room before now reads (are file told) (at (Err Report) e file told);
    }
