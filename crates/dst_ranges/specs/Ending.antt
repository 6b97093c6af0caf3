-- How the whole output ends.
use Rattle.std.specs.Prelude.{◌≡◌, ℕ, List, [], ◌∷◌, length, Option, Result, Ok, Err}
use Rattle.dst_streams.specs.Told.{and_then, IsCutShort}
use Rattle.dsdiff_spec.specs.Words.{range}
use Rattle.dsdiff_spec.specs.Lines.{range_line}
use Rattle.dsdiff_spec.specs.Outcome.{Answer, done, frame_refused}
use Rattle.dst_commands.specs.Commands.{OutcomeOf}
use Rattle.dst_commands.specs.Writing.{Lacks}
use Rattle.dst_read.specs.declared.faults.DecodeFault.{DecodeFault}
use Rattle.dst_read.specs.declared.faults.DecodeFault.TheVariants.{Write, Frame}
use Rattle.dst_ranges.specs.declared.range.RangeWritten.{RangeWritten}

-- a prefix of what the outcome writes is added
abbrev pub IsStoppedShort : List (ℕ × ℕ) → List ℕ → (old new : Option (List ℕ)) → Type 0
IsStoppedShort pairs file old new = (o : Answer) × OutcomeOf (range pairs) file o × IsCutShort old o.out new

abbrev pub LacksRoomForOutcome : List (ℕ × ℕ) → List ℕ → Option ℕ → Type 0
LacksRoomForOutcome pairs file room = (o : Answer) → OutcomeOf (range pairs) file o → Lacks room (length o.out)

abbrev pub RangeEnds : Result RangeWritten DecodeFault → List (ℕ × ℕ) → List ℕ → (old new : Option (List ℕ)) → Option ℕ → Type 0
RangeEnds (Ok s) pairs file old new room = (out : List ℕ) × OutcomeOf (range pairs) file (done out (range_line s.bytes ∷ [])) × (new ≡ and_then old out)
RangeEnds (Err (Frame k fault)) pairs file old new room = (out : List ℕ) × OutcomeOf (range pairs) file (frame_refused k fault out) × (new ≡ and_then old out)
RangeEnds (Err Write) pairs file old new room = IsStoppedShort pairs file old new × LacksRoomForOutcome pairs file room
RangeEnds (Err fault) pairs file old new room = IsStoppedShort pairs file old new
