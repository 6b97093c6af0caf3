-- Commands that report lines of a file: what is shown, and how each of them ends.
use Rattle.std.specs.Prelude.{◌≡◌, ℕ, List, [], ◌∷◌, ◌++◌, decimal, length, codes, Option, Some, Result, Ok, Err}
use Rattle.dst_streams.specs.Causes.{Rose}
use Rattle.dst_streams.specs.Told.{and_then}
use Rattle.dst_streams.specs.declared.source.Failed.{Failed}
use Rattle.dst_spec.specs.Sample.{Shape}
use Rattle.dst_spec.specs.declared.faults.FrameFault.{FrameFault}
use Rattle.dsdiff_spec.specs.Rules.{accepted}
use Rattle.dsdiff_spec.specs.Walk.{Entry, frame_at}
use Rattle.dsdiff_spec.specs.Words.{Command, show_frame}
use Rattle.dsdiff_spec.specs.Refusal.{refusal}
use Rattle.dsdiff_spec.specs.Lines.{Line, report, plain_frame_line, coded_frame_line}
use Rattle.dsdiff_spec.specs.Outcome.{done, frame_refused, Refuses, Shows}
use Rattle.dsdiff_chunks.specs.Opening as opening
use Rattle.dsdiff_chunks.specs.declared.open.OpenFault.TheVariants.{Read, Memory, File}
use Rattle.dst_show.specs.declared.faults.Reported.{Reported}
use Rattle.dst_show.specs.declared.faults.ShowFault.{ShowFault}
use Rattle.dst_show.specs.declared.faults.ShowFault.TheVariants.{Source, Report, Frame}
use Rattle.dst_show.specs.declared.summary.Summary.{Summary}
use Rattle.frame_header.specs.declared.view.FrameView.{FrameView}
use Rattle.frame_header.specs.declared.view.FrameView.TheVariants.{Plain, Coded}
use Rattle.dst_commands.specs.Commands.{OutcomeOf}
use Rattle.dst_commands.specs.Writing.{Stops}
use Rattle.dst_show.specs.LineByLine.{AddsLines, StopsAtALine}

-- the lines of the command are reported whole, or a prefix of them, or it refuses the file or a frame; no line is appended in parts
abbrev pub ReportEnds : Result Reported ShowFault → Command → List ℕ → (old new : Option (List ℕ)) → Option ℕ → (before now : ℕ) → Type 0
ReportEnds (Ok s) c file old new room before now =
    (s.frames ≡ (accepted file).frames) × (lines : List Line) × OutcomeOf c file (done [] lines) × (new ≡ and_then old (report lines))
    × AddsLines lines before now
ReportEnds (Err Report) c file old new room before now =
    (lines : List Line) × OutcomeOf c file (done [] lines) × Stops (Unit {0}) (report lines) old new room × StopsAtALine lines before now
ReportEnds (Err (Frame k fault)) c file old new room before now = OutcomeOf c file (frame_refused k fault [])
ReportEnds (Err (Source (File fault))) c file old new room before now = refusal c file ≡ Some fault
ReportEnds (Err (Source fault)) c file old new room before now = Unit {0}

-- a device fails by its cause
abbrev pub HasReportCause : ShowFault → (source_before source_now report_before report_now : ℕ) → Type 0
HasReportCause (Source Read) source_before source_now report_before report_now = Rose source_before source_now
HasReportCause Report source_before source_now report_before report_now = Rose report_before report_now
HasReportCause fault source_before source_now report_before report_now = Unit {0}

-- what is answered behind a report of lines
abbrev pub reported_as : {A : Type 0} → Result A Failed → ℕ → Result Reported ShowFault
reported_as (Ok u) frames = Ok (record { frames = frames })
reported_as (Err failed) frames = Err Report

-- ---- the summary of a file, by what each form has of it
abbrev pub summary_of : Summary → List Line
summary_of s =
    (codes "kind " ++ s.kind.now)
    ∷ (codes "channels " ++ decimal s.channels.channels)
    ∷ (codes "sound " ++ decimal s.sound ++ codes " bytes")
    ∷ (codes "frames " ++ decimal s.frames)
    ∷ (codes "chunks " ++ decimal s.chunks)
    ∷ []

-- ---- the header of frame k
-- this line, reported alone, is what the command does with a file of so many frames
pub record IsHeaderOf (k : ℕ) (file line : List ℕ) (frames : ℕ) : Type 0 where
  pub text : Line
  pub outcome : OutcomeOf (show_frame k) file (done [] (text ∷ []))
  pub is : line ≡ report (text ∷ [])
  pub count : frames ≡ (accepted file).frames

-- why the command finds no header: the file or the frame is refused, or the source or memory fails
abbrev pub FindsNoHeader : ℕ → Option (List ℕ) → (source_before source_now : ℕ) → ShowFault → Type 0
FindsNoHeader k bytes before now (Source fault) = opening.HasOpenCause (refusal (show_frame k)) bytes before now fault
FindsNoHeader k bytes before now (Frame j fault) = (file : List ℕ) → bytes ≡ Some file → OutcomeOf (show_frame k) file (frame_refused j fault [])
FindsNoHeader k bytes before now Report = ⊥

-- the line of a frame of so many bytes, by its parts
abbrev pub view_line : ℕ → ℕ → FrameView → Line
view_line k bytes (Plain sound) = plain_frame_line k bytes
view_line k bytes (Coded params code) = coded_frame_line k bytes (length params.filters) (length params.probs) code.first

-- it is shown by one line, and not refused
pub record IsShown (f : Shape) (k : ℕ) (frame : List ℕ) (line : List ℕ) : Type 0 where
  pub text : Line
  pub shows : Shows f k frame text
  pub not_refused : (fault : FrameFault) → Refuses (show_frame k) f frame fault → ⊥
  pub is : line ≡ report (text ∷ [])

-- or it is refused, or the source fails; no memory is taken
abbrev pub IsUnshown : Shape → ℕ → Entry → ShowFault → Option (List ℕ) → (source_before source_now : ℕ) → Type 0
IsUnshown f k e (Frame j fault) bytes before now = (j ≡ k) × ((file : List ℕ) → bytes ≡ Some file → Refuses (show_frame k) f (frame_at file e) fault)
IsUnshown f k e (Source Read) bytes before now = Rose before now
IsUnshown f k e (Source (Memory refused)) bytes before now = ⊥
IsUnshown f k e (Source (File fault)) bytes before now = ⊥
IsUnshown f k e Report bytes before now = ⊥
