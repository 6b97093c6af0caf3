-- What a run of words over a flow leaves, by its status.
use Rattle.std.specs.Prelude.{◌≡◌, ◌⊎◌, ℕ, ◌+◌, Bool, true, false, List, [], ◌∷◌, length, Option, Some, Result, Ok, Err}
use Rattle.dst_streams.specs.Causes.{Rose}
use Rattle.dst_streams.specs.Told.{and_then, IsCutShort}
use Rattle.dsdiff_spec.specs.Words.{Word, decode}
use Rattle.dsdiff_spec.specs.Progress.{NoneOf}
use Rattle.dsdiff_spec.specs.Lines.{Line, report, read_fault_line, write_fault_line, memory_line, file_line, frame_fault_line, decoded_line}
use Rattle.dsdiff_spec.specs.Outcome.{Answer, not_understood}
use Rattle.dsdiff_spec.specs.Streams.{Front, ended, shape_in, stream}
use Rattle.stream_spec.specs.Outcome.{StreamOutcome}
use Rattle.dst_pipes.specs.declared.faults.Piped.{Piped}
use Rattle.dst_pipes.specs.declared.faults.PipeFault.{PipeFault}
use Rattle.dst_pipes.specs.declared.faults.PipeFault.TheVariants.{Read, Write, Memory, File, Frame}
use Rattle.pipe_tool.specs.Words.{is_pipe}

-- a count of faults didn't rise: the device didn't fail
abbrev pub DidNotRise : ℕ → ℕ → Type 0
DidNotRise before now = Rose before now → ⊥

-- ---- the status and the line of an answer
abbrev pub status_of : Result Piped PipeFault → ℕ
status_of (Ok s) = 0
status_of (Err Read) = 2
status_of (Err Write) = 3
status_of (Err (Memory refused)) = 4
status_of (Err (File fault)) = 5
status_of (Err (Frame k fault)) = 6

abbrev pub line_of : Result Piped PipeFault → Line
line_of (Ok s) = decoded_line s.frames s.bytes
line_of (Err Read) = read_fault_line
line_of (Err Write) = write_fault_line
line_of (Err (Memory refused)) = memory_line
line_of (Err (File fault)) = file_line fault
line_of (Err (Frame k fault)) = frame_fault_line k fault

-- ---- the one outcome of words and a stream
abbrev pub OfWords : Bool → List ℕ → Answer → Type 0
OfWords false w o = o ≡ not_understood
OfWords true w o = StreamOutcome w o

abbrev pub PipeOutcome : List Word → List ℕ → Answer → Type 0
PipeOutcome words w o = OfWords (is_pipe words) w o

-- ---- how a run ends
-- the status, what is added to the sink, and the lines are those of an outcome
abbrev pub EndsAsOne : (Answer → Type 0) → ℕ → List Line → (old new : Option (List ℕ)) → Type 0
EndsAsOne IsOutcome status lines old new = (o : Answer) × IsOutcome o × (o.status ≡ status) × (o.lines ≡ lines) × (new ≡ and_then old o.out)

-- only part of what the outcome writes is added
abbrev pub StopsShortOfOne : (Answer → Type 0) → (old new : Option (List ℕ)) → Type 0
StopsShortOfOne IsOutcome old new = (o : Answer) × IsOutcome o × IsCutShort old o.out new

-- Before its lines are reported: where a device failed, with part of what the outcome writes; where memory was refused, with nothing; else with the outcome.
abbrev pub EndsByStream : Bool → List ℕ → ℕ → List Line → (old new : Option (List ℕ)) → Type 0
EndsByStream b w status lines old new =
    ((status ≡ 2) × (lines ≡ read_fault_line ∷ []) × StopsShortOfOne (OfWords b w) old new)
    ⊎ ((status ≡ 3) × (lines ≡ write_fault_line ∷ []) × StopsShortOfOne (OfWords b w) old new)
    ⊎ ((status ≡ 4) × (lines ≡ memory_line ∷ []) × (b ≡ true) × (new ≡ old))
    ⊎ EndsAsOne (OfWords b w) status lines old new

abbrev pub EndsAs : List Word → List ℕ → ℕ → List Line → (old new : Option (List ℕ)) → Type 0
EndsAs words w = EndsAsOne (PipeOutcome words w)

abbrev pub Ends : List Word → List ℕ → ℕ → List Line → (old new : Option (List ℕ)) → Type 0
Ends words w = EndsByStream (is_pipe words) w

-- The one line is reported; or the report failed at it, and the status is 7. So many bytes were appended by calls that succeeded, before and now: the
-- line isn't appended in parts.
abbrev pub Reports : ℕ → List Line → ℕ → (old new : Option (List ℕ)) → (before now : ℕ) → Type 0
Reports status lines result old new before now =
    ((result ≡ status) × (new ≡ and_then old (report lines)) × (now ≡ before + length (report lines)))
    ⊎ ((result ≡ 7) × IsCutShort old (report lines) new × (now ≡ before))

-- the words are those of a pipe, whose stream ends behind its last frame, and none of its frames is refused
pub record NoFrameIsRefused (words : List Word) (w : List ℕ) : Type 0 where
  pub is_pipe_words : is_pipe words ≡ true
  pub front : Front
  pub has_front : (stream w).front ≡ Some front
  pub ends : (stream w).ending ≡ ended
  pub none : NoneOf decode (shape_in front.prop) (stream w).frames
