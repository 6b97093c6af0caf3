-- How the decoding of a stream ends.
use Rattle.std.specs.Prelude.{◌≡◌, ℕ, List, [], ◌∷◌, length, Option, Result, Ok, Err}
use Rattle.dst_streams.specs.Causes.{Rose}
use Rattle.dst_streams.specs.Told.{and_then, IsCutShort}
use Rattle.dsdiff_spec.specs.Lines.{decoded_line}
use Rattle.dsdiff_spec.specs.Outcome.{Answer, done, frame_refused}
use Rattle.stream_spec.specs.Outcome.{StreamOutcome, stream_refused}
use Rattle.dst_commands.specs.Writing.{Lacks}
use Rattle.dst_pipes.specs.declared.faults.Piped.{Piped}
use Rattle.dst_pipes.specs.declared.faults.PipeFault.{PipeFault}
use Rattle.dst_pipes.specs.declared.faults.PipeFault.TheVariants.{Read, Write, Memory, File, Frame}

-- what is written is the output of this outcome
abbrev pub Writes : List ℕ → Answer → (old new : Option (List ℕ)) → Type 0
Writes w o old new = StreamOutcome w o × (new ≡ and_then old o.out)

-- a prefix of what the outcome writes is added
abbrev pub IsStoppedShort : List ℕ → (old new : Option (List ℕ)) → Type 0
IsStoppedShort w old new = (o : Answer) × StreamOutcome w o × IsCutShort old o.out new

abbrev pub LacksRoom : List ℕ → Option ℕ → Type 0
LacksRoom w room = (o : Answer) → StreamOutcome w o → Lacks room (length o.out)

abbrev pub PipeEnds : Result Piped PipeFault → List ℕ → (old new : Option (List ℕ)) → Option ℕ → Type 0
PipeEnds (Ok s) w old new room = (out : List ℕ) × Writes w (done out (decoded_line s.frames s.bytes ∷ [])) old new
PipeEnds (Err (File fault)) w old new room = (out : List ℕ) × Writes w (stream_refused fault out) old new
PipeEnds (Err (Frame k fault)) w old new room = (out : List ℕ) × Writes w (frame_refused k fault out) old new
PipeEnds (Err Read) w old new room = IsStoppedShort w old new
PipeEnds (Err Write) w old new room = IsStoppedShort w old new × LacksRoom w room
PipeEnds (Err (Memory refused)) w old new room = new ≡ old

-- devices fail by their own cause
abbrev pub HasItsCause : PipeFault → (flow_before flow_now sink_before sink_now : ℕ) → Type 0
HasItsCause Read flow_before flow_now sink_before sink_now = Rose flow_before flow_now
HasItsCause Write flow_before flow_now sink_before sink_now = Rose sink_before sink_now
HasItsCause fault flow_before flow_now sink_before sink_now = Unit {0}
