-- What is said of words by how they ended.
use Rattle.std.specs.Prelude.{◌≡◌, ◌⊎◌, ℕ, List, Option, Some, ⊤}
use Rattle.dst_streams.specs.Told.{and_then}
use Rattle.dsdiff_spec.specs.Words.{Word}
use Rattle.dsdiff_spec.specs.Lines.{Line, report}
use Rattle.dst_tool.specs.Runs as command
use Rattle.pipe_tool.specs.Runs as pipe
use Rattle.dst_console.specs.declared.running.Ran.{Ran}
use Rattle.dst_console.specs.declared.ended.Ended.{Ended}
use Rattle.dst_console.specs.declared.ended.Ended.TheVariants.{Answered, Command, Pipe}

abbrev pub status_of : {S F K : Type 0} → Ended S F K → ℕ
status_of (Answered status) = status
status_of (Command ran) = ran.status
status_of (Pipe ran) = ran.status

-- ---- which of the three it is
abbrev pub IsAnswered : {S F K : Type 0} → Ended S F K → Type 0
IsAnswered (Answered status) = ⊤
IsAnswered ended = ⊥

abbrev pub IsCommand : {S F K : Type 0} → Ended S F K → Type 0
IsCommand (Command ran) = ⊤
IsCommand ended = ⊥

abbrev pub IsPipe : {S F K : Type 0} → Ended S F K → Type 0
IsPipe (Pipe ran) = ⊤
IsPipe ended = ⊥

-- ---- of a command's run, and of a pipe's
abbrev pub IfCommand : {S F K : Type 0} → Ended S F K → (Ran S K → Type 0) → Type 0
IfCommand (Command ran) Holds = Holds ran
IfCommand ended Holds = ⊤

abbrev pub IfPipe : {S F K : Type 0} → Ended S F K → (Ran F K → Type 0) → Type 0
IfPipe (Pipe ran) Holds = Holds ran
IfPipe ended Holds = ⊤

-- ---- what a run means
-- Where its source tells its bytes, a command's status, what its sink held and holds, and the report, old and new, are those of the one outcome; or the
-- status is 4.
abbrev pub MeansOutcome : List Word → (reads : Option (List ℕ)) → ℕ → (held holds old new : Option (List ℕ)) → Type 0
MeansOutcome words reads status held holds old new =
    (file : List ℕ) → reads ≡ Some file →
    (status ≡ 4) ⊎ ((lines : List Line) × command.EndsAs words file status lines held holds × (new ≡ and_then old (report lines)))

-- the same of a pipe whose flow tells the bytes that are left
abbrev pub MeansPipeOutcome : List Word → (flows : Option (List ℕ)) → ℕ → (held holds old new : Option (List ℕ)) → Type 0
MeansPipeOutcome words flows status held holds old new =
    (w : List ℕ) → flows ≡ Some w →
    (status ≡ 4) ⊎ ((lines : List Line) × pipe.EndsAs words w status lines held holds × (new ≡ and_then old (report lines)))
