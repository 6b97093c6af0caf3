-- What a run of words leaves, by its status.
use Rattle.std.specs.Prelude.{◌≡◌, ◌≢◌, ◌⊎◌, ℕ, ◌+◌, ◌*◌, ◌<◌, ◌≤◌, true, List, [], ◌∷◌, length, Option, Some, None, ⊤}
use Rattle.dst_streams.specs.Causes.{Rose}
use Rattle.dst_streams.specs.Told.{and_then, IsCutShort}
use Rattle.dsdiff_spec.specs.Form.{sound_bytes_of}
use Rattle.dsdiff_spec.specs.Words.{Word, Command, encode, decode, cut, frame, check, show, show_frame, index, make, make_run, encode_dsf, decode_dsf, range}
use Rattle.dsdiff_spec.specs.Dsf.{dsdiff}
use Rattle.words_spec.specs.Rows.{command_of}
use Rattle.dsdiff_spec.specs.Lines.{Line, report, read_fault_line, write_fault_line, memory_line}
use Rattle.dsdiff_spec.specs.Refusal.{refusal}
use Rattle.dsdiff_spec.specs.Rules.{accepted}
use Rattle.dsdiff_spec.specs.Outcome.{Answer, NoneRefused, run}
use Rattle.words_spec.specs.Outcome.{Outcome}
use Rattle.dsdiff_spec.specs.declared.faults.FileFault.{FileFault}
use Rattle.dst_commands.specs.Commands.{OutcomeOf}
use Rattle.dst_show.specs.LineByLine.{AddsLines, StopsAtALine}
use Rattle.dst_ranges.specs.Asked.{groups_asked}
use Rattle.dst_write.specs.Unfinished.{HoldsNothing, HoldsUnfinished, sound_size_place}

-- a count of faults didn't rise: the device didn't fail
abbrev pub DidNotRise : ℕ → ℕ → Type 0
DidNotRise before now = Rose before now → ⊥

-- ---- what is added to a sink
-- All of an output. Encoding writes over what it has written, and so asks for a sink that holds nothing.
abbrev pub WholeOf : Option Command → List ℕ → Option (List ℕ) → Option (List ℕ) → Type 0
WholeOf (Some (encode level)) out old new = HoldsNothing old → new ≡ and_then old out
WholeOf (Some (encode_dsf level)) out old new = HoldsNothing old → new ≡ and_then old out
WholeOf c out old new = new ≡ and_then old out

-- Part of an output, where a device failed: a prefix of it; of encoding a file that isn't finished.
abbrev pub PartOf : Option Command → List ℕ → List ℕ → Option (List ℕ) → Option (List ℕ) → Type 0
PartOf (Some (encode level)) file out old new = HoldsNothing old → HoldsUnfinished (sound_size_place file (accepted file)) out new
PartOf (Some (encode_dsf level)) file out old new =
    HoldsNothing old → HoldsUnfinished (sound_size_place (dsdiff file) (accepted (dsdiff file))) out new
PartOf c file out old new = IsCutShort old out new

-- ---- how a run ends
-- the status, what is added to the sink, and the lines are those of an outcome
abbrev pub EndsAsOne : (Answer → Type 0) → Option Command → ℕ → List Line → Option (List ℕ) → Option (List ℕ) → Type 0
EndsAsOne IsOutcome c status lines old new =
    (o : Answer) × IsOutcome o × (o.status ≡ status) × (o.lines ≡ lines) × WholeOf c o.out old new

-- only part of what the outcome writes is added
abbrev pub StopsShortOfOne : (Answer → Type 0) → Option Command → List ℕ → Option (List ℕ) → Option (List ℕ) → Type 0
StopsShortOfOne IsOutcome c file old new = (o : Answer) × IsOutcome o × PartOf c file o.out old new

-- How a run ends before its lines are reported: where a device failed, with part of what the outcome writes; where
-- memory was refused, with nothing; else with the outcome.
abbrev pub EndsBy : (Answer → Type 0) → Option Command → List ℕ → Type 0 → ℕ → List Line → Option (List ℕ) → Option (List ℕ) → Type 0
EndsBy IsOutcome c file MayWantMemory status lines old new =
    ((status ≡ 2) × (lines ≡ read_fault_line ∷ []) × StopsShortOfOne IsOutcome c file old new)
    ⊎ ((status ≡ 3) × (lines ≡ write_fault_line ∷ []) × StopsShortOfOne IsOutcome c file old new)
    ⊎ ((status ≡ 4) × (lines ≡ memory_line ∷ []) × MayWantMemory × (new ≡ old))
    ⊎ EndsAsOne IsOutcome c status lines old new

-- the same of words over a file
abbrev pub EndsAs : List Word → List ℕ → ℕ → List Line → Option (List ℕ) → Option (List ℕ) → Type 0
EndsAs words file = EndsAsOne (Outcome words file) (command_of words)

abbrev pub Ends : List Word → List ℕ → ℕ → List Line → Option (List ℕ) → Option (List ℕ) → Type 0
Ends words file = EndsBy (Outcome words file) (command_of words) file (command_of words ≢ None)

-- a read fault and a write fault have their cause: the count of that device rose
pub record IsCaused (status source_before source_now sink_before sink_now : ℕ) : Type 0 where
  pub read : status ≡ 2 → Rose source_before source_now
  pub write : status ≡ 3 → Rose sink_before sink_now

-- The lines are reported, none of them in parts; or the report failed at one of them, and the status is 7. So many bytes were
-- appended by calls that succeeded, before and now.
abbrev pub Reports : ℕ → List Line → ℕ → Option (List ℕ) → Option (List ℕ) → (before now : ℕ) → Type 0
Reports status lines result old new before now =
    ((result ≡ status) × (new ≡ and_then old (report lines)) × AddsLines lines before now)
    ⊎ ((result ≡ 7) × IsCutShort old (report lines) new × StopsAtALine lines before now)

-- the words are a command that refuses the file by this fault
abbrev pub IsRefused : List Word → List ℕ → FileFault → Type 0
IsRefused words file fault = (c : Command) × (command_of words ≡ Some c) × (refusal c file ≡ Some fault)

-- the words are a command that accepts the file and refuses none of the frames of its run
abbrev pub NoFrameIsRefused : List Word → List ℕ → Type 0
NoFrameIsRefused words file =
    (c : Command) × (command_of words ≡ Some c) × (refusal c file ≡ None) × NoneRefused c (accepted file) (run c file (accepted file))

-- ---- commands
-- one that makes no call on the sink; of parts of the sound where they have no group
abbrev pub WritesNowhere : Command → Type 0
WritesNowhere check = ⊤
WritesNowhere show = ⊤
WritesNowhere (show_frame k) = ⊤
WritesNowhere index = ⊤
WritesNowhere (make_run start frames channels multiple) = ⊤
WritesNowhere (range pairs) = groups_asked pairs ≡ 0
WritesNowhere c = ⊥

-- one that makes no call on the source: it makes its sound
abbrev pub ReadsNothing : Command → Type 0
ReadsNothing (make start frames channels multiple) = ⊤
ReadsNothing (make_run start frames channels multiple) = ⊤
ReadsNothing c = ⊥

-- one that writes a file
abbrev pub WritesFile : Command → Type 0
WritesFile (encode level) = ⊤
WritesFile decode = ⊤
WritesFile (cut first last) = ⊤
WritesFile (frame k by_index) = ⊤
WritesFile (make start frames channels multiple) = ⊤
WritesFile (encode_dsf level) = ⊤
WritesFile decode_dsf = ⊤
WritesFile (range pairs) = 0 < groups_asked pairs
WritesFile c = ⊥

-- one that reads a file and may write one
abbrev pub ReadsAndWrites : Command → Type 0
ReadsAndWrites (encode level) = ⊤
ReadsAndWrites decode = ⊤
ReadsAndWrites (cut first last) = ⊤
ReadsAndWrites (frame k by_index) = ⊤
ReadsAndWrites (encode_dsf level) = ⊤
ReadsAndWrites decode_dsf = ⊤
ReadsAndWrites (range pairs) = ⊤
ReadsAndWrites c = ⊥

-- the most bytes that the source gives where one frame is found by the index, a frame's sound having so many
abbrev pub most_given : ℕ → ℕ
most_given frame_size = 208974 + 2 * frame_size

-- the longest sound of a frame, of six channels at the greatest rate
abbrev pub longest_sound : ℕ
longest_sound = 112896

-- a device's count of faults, and a told device's content, before and now; its sure room before
pub record Counts : Type 0 where
  pub before : ℕ
  pub now : ℕ

pub record Held : Type 0 where
  pub old : Option (List ℕ)
  pub new : Option (List ℕ)
  pub room : Option ℕ

-- a report, and how many bytes were appended to it by calls that succeeded, before and now
pub record Told : Type 0 where
  pub old : Option (List ℕ)
  pub new : Option (List ℕ)
  pub room : Option ℕ
  pub before : ℕ
  pub now : ℕ

-- What one command leaves over a source that may tell its bytes: `Same` says that the sink is what it was, `Settled` that all it holds is
-- where it keeps it for good, `Unread` that the source is what it was, `Stays` that its bytes are, and `Silent` that the report is what it was.
pub record IsRun (c : Command) (status : ℕ) (bytes : Option (List ℕ)) (source sink report_counts given : Counts) (written : Held)
    (told : Told) (Same Settled Unread Stays Silent : Type 0) : Type 0 where
  pub ends : (file : List ℕ) → bytes ≡ Some file →
      (wanted : ℕ) × (lines : List Line) × EndsBy (OutcomeOf c file) (Some c) file ⊤ wanted lines written.old written.new
      × IsCaused wanted source.before source.now sink.before sink.now × Reports wanted lines status told.old told.new told.before told.now
  pub read : status ≡ 2 → Rose source.before source.now
  pub write : status ≡ 3 → Rose sink.before sink.now
  pub reported : status ≡ 7 → Rose report_counts.before report_counts.now
  pub sure_sink : (file : List ℕ) → bytes ≡ Some file → (o : Answer) → OutcomeOf c file o → (n : ℕ) → written.room ≡ Some n → length o.out ≤ n → status ≡ 3 → ⊥
  pub sure_report : (file : List ℕ) → bytes ≡ Some file → (o : Answer) → OutcomeOf c file o → DidNotRise source.before source.now →
      DidNotRise sink.before sink.now →
      (n : ℕ) → told.room ≡ Some n → 7 ≤ n → length (report o.lines) ≤ n → status ≡ 7 → ⊥
  pub bytes_stay : Stays
  pub later_source : source.before ≤ source.now
  pub later_sink : sink.before ≤ sink.now
  pub later_report : report_counts.before ≤ report_counts.now
  pub memory : status ≡ 4 → Same
  pub memory_answered : status ≡ 4 → told.new ≡ and_then told.old (report (memory_line ∷ []))
  pub silent : c ≡ index → (file : List ℕ) → bytes ≡ Some file → (accepted file).frames ≡ 0 → status ≡ 0 → Silent
  pub file_refused : status ≡ 5 → Same
  pub no_output : (file : List ℕ) → bytes ≡ Some file → (fault : FileFault) → refusal c file ≡ Some fault → Same
  pub idle : WritesNowhere c → Same
  pub no_write : WritesNowhere c → status ≢ 3
  pub unread : ReadsNothing c → Unread
  pub made : ReadsNothing c →
      (wanted : ℕ) × (lines : List Line) × EndsBy (OutcomeOf c []) (Some c) [] ⊤ wanted lines written.old written.new
      × IsCaused wanted source.before source.now sink.before sink.now × Reports wanted lines status told.old told.new told.before told.now
  pub no_file : ReadsNothing c → (status ≢ 2) × (status ≢ 5) × (status ≢ 6)
  pub settled : WritesFile c → status ≡ 0 → Settled
  pub by_index : (k : ℕ) → c ≡ frame k true → (file : List ℕ) → bytes ≡ Some file → given.now ≤ given.before + most_given (sound_bytes_of (accepted file))
  pub any_source : (k : ℕ) → c ≡ frame k true → given.now ≤ given.before + most_given longest_sound
  pub least_status : status ≢ 1
  pub most_status : status ≤ 7
