-- One step of the decoding of a stream, and one piece of it.
use Rattle.std.specs.Prelude.{◌≡◌, ℕ, ◌+◌, ◌<◌, ◌≤◌, Bool, true, false, List, [], ◌∷◌, ◌++◌, length, take, Option, Some, None, Result, Ok, Err}
use Rattle.std.specs.List.{concat}
use Rattle.dst_spec.specs.Means.{Means}
use Rattle.dst_spec.specs.Offends.{Offends}
use Rattle.dst_spec.specs.declared.faults.FrameFault.{FrameFault}
use Rattle.dsdiff_spec.specs.declared.faults.FileFault.{FileFault}
use Rattle.dsdiff_spec.specs.Form.{shape_of}
use Rattle.dsdiff_spec.specs.Words.{decode}
use Rattle.dsdiff_spec.specs.Progress.{NotRefused}
use Rattle.dsdiff_spec.specs.Streams.{Front, shape_in}
use Rattle.push_decoder.specs.Events.{Answered, nothing_answered, begun, has_ended, has_stopped, due}
use Rattle.push_decoder.specs.Decoder.{StandsFor}
use Rattle.push_decoder.specs.declared.decoder.PushDecoder.{PushDecoder}
use Rattle.dst_commands.specs.Writing.{Adds, Stops}
use Rattle.dst_pipes.specs.Fronts.{front_bytes}
use Rattle.dst_pipes.specs.States.{WorksFor, Works, Wrote, AreSounds, HasWritten, BeginsSo}
use Rattle.dst_pipes.specs.declared.work.Work.{Work}
use Rattle.dst_pipes.specs.declared.steps.Came.{Came}
use Rattle.dst_pipes.specs.declared.steps.Came.TheVariants.{More, Head, Frame, End}
use Rattle.dst_pipes.specs.declared.steps.Next.{Next}
use Rattle.dst_pipes.specs.declared.steps.Next.TheVariants as next
use Rattle.dst_pipes.specs.declared.faults.PipeFault.{PipeFault}
use Rattle.dst_pipes.specs.declared.faults.PipeFault.TheVariants as failing

-- ---- what came of a piece: its first event, and of a frame what it was decoded to
abbrev pub IsDecoded : Result ℕ FrameFault → Front → List ℕ → Work → Type 0
IsDecoded (Ok tail) front frame m = Means (shape_in front.prop) frame m.sound.items × NotRefused decode (shape_in front.prop) frame
IsDecoded (Err fault) front frame m = Offends (shape_in front.prop) frame fault

-- the front is whole
pub record FrontCame (taken : List ℕ) (answered : Answered) (channels multiple frames : ℕ) (d : PushDecoder) (work : Option Work) : Type 0 where
  pub front : Front
  pub nothing : answered ≡ nothing_answered
  pub shape : shape_of channels multiple ≡ shape_in front.prop
  pub frame_count : frames ≡ front.frames
  pub stands : StandsFor d taken (begun front [])
  pub none : work ≡ None

-- a frame is whole
pub record FrameCame (taken : List ℕ) (answered : Answered) (answer : Result ℕ FrameFault) (d : PushDecoder) (work : Option Work) : Type 0 where
  pub front : Front
  pub frames : List (List ℕ)
  pub frame : List ℕ
  pub behind : answered ≡ begun front frames
  pub stands : StandsFor d taken (begun front (frames ++ frame ∷ []))
  pub work_is : Work
  pub some : work ≡ Some work_is
  pub works : WorksFor front (length frames) work_is
  pub room : length frames < front.frames
  pub few : front.frames ≤ 1000000
  pub decoded : IsDecoded answer front frame work_is

-- the stream has ended
pub record EndCame (taken : List ℕ) (answered : Answered) (work : Option Work) : Type 0 where
  pub front : Front
  pub frames : List (List ℕ)
  pub behind : answered ≡ begun front frames
  pub due : due taken answered ≡ Some has_ended
  pub works : Works answered work

abbrev pub Took : Result (ℕ × Came) FileFault → List ℕ → List ℕ → Answered → PushDecoder → Option Work → Type 0
Took (Ok (n, More)) piece taken answered d work =
    (n ≡ length piece) × (due (taken ++ take n piece) answered ≡ None) × StandsFor d (taken ++ take n piece) answered × Works answered work
Took (Ok (n, Head channels multiple frames)) piece taken answered d work = FrontCame (taken ++ take n piece) answered channels multiple frames d work
Took (Ok (n, Frame answer)) piece taken answered d work = FrameCame (taken ++ take n piece) answered answer d work
Took (Ok (n, End)) piece taken answered d work = EndCame (taken ++ take n piece) answered work
Took (Err fault) piece taken answered d work = (n : ℕ) × (due (taken ++ take n piece) answered ≡ Some (has_stopped fault))

-- ---- what an event asks for
-- what stands in front of the frames, as the decoder says it
pub record IsFrontOf (front : Front) (channels multiple frames : ℕ) (d : PushDecoder) : Type 0 where
  pub taken : List ℕ
  pub stands : StandsFor d taken (begun front [])
  pub shape : shape_of channels multiple ≡ shape_in front.prop
  pub frame_count : frames ≡ front.frames

-- the front of the plain file is written
abbrev pub HasBegun : Result Work PipeFault → Front → (old new : Option (List ℕ)) → (room left : Option ℕ) → Type 0
HasBegun (Ok m) front old new room left = WorksFor front 0 m × Adds (front_bytes front) old new room left
HasBegun (Err failing.Write) front old new room left = Stops (Unit {0}) (front_bytes front) old new room
HasBegun (Err (failing.Memory refused)) front old new room left = (new ≡ old)
HasBegun (Err fault) front old new room left = ⊥

-- the sound of a frame is written, or its fault answered
abbrev pub SoundEnds : Result ℕ FrameFault → Result (Unit {0}) PipeFault → Work → Option Work → (old new : Option (List ℕ)) → (room left : Option ℕ) → Type 0
SoundEnds (Ok tail) (Ok done) m work old new room left = (work ≡ Some (record m { decoded = m.decoded + 1 })) × Adds m.sound.items old new room left
SoundEnds (Ok tail) (Err failing.Write) m work old new room left = Stops (Unit {0}) m.sound.items old new room
SoundEnds (Ok tail) (Err fault) m work old new room left = ⊥
SoundEnds (Err fault) (Err (failing.Frame k answer)) m work old new room left = (k ≡ m.decoded) × (answer ≡ fault) × (new ≡ old) × (left ≡ room)
SoundEnds (Err fault) result m work old new room left = ⊥

-- ---- a step stops: behind so many bytes of a piece
pub record StopsAtFault (fault : FileFault) (taken piece : List ℕ) (old new : Option (List ℕ)) (room left : Option ℕ) : Type 0 where
  pub count : ℕ
  pub answered : Answered
  pub begins : BeginsSo (taken ++ take count piece) answered
  pub due : due (taken ++ take count piece) answered ≡ Some (has_stopped fault)
  pub wrote : Wrote answered old new room left

pub record StopsAtFrame (k : ℕ) (fault : FrameFault) (taken piece : List ℕ) (old new : Option (List ℕ)) (room left : Option ℕ) : Type 0 where
  pub count : ℕ
  pub front : Front
  pub frames : List (List ℕ)
  pub frame : List ℕ
  pub begins : BeginsSo (taken ++ take count piece) (begun front (frames ++ frame ∷ []))
  pub number : k ≡ length frames
  pub offends : Offends (shape_in front.prop) frame fault
  pub wrote : HasWritten front frames old new room left

pub record StopsInWriting (taken piece : List ℕ) (old new : Option (List ℕ)) (room : Option ℕ) : Type 0 where
  pub count : ℕ
  pub front : Front
  pub frames : List (List ℕ)
  pub begins : BeginsSo (taken ++ take count piece) (begun front frames)
  pub sounds : List (List ℕ)
  pub are : AreSounds front frames sounds
  pub stops : Stops (Unit {0}) (front_bytes front ++ concat sounds) old new room

abbrev pub StopsBy : PipeFault → List ℕ → List ℕ → (old new : Option (List ℕ)) → (room left : Option ℕ) → Type 0
StopsBy failing.Read taken piece old new room left = ⊥
StopsBy failing.Write taken piece old new room left = StopsInWriting taken piece old new room
StopsBy (failing.Memory refused) taken piece old new room left = new ≡ old
StopsBy (failing.File fault) taken piece old new room left = StopsAtFault fault taken piece old new room left
StopsBy (failing.Frame k fault) taken piece old new room left = StopsAtFrame k fault taken piece old new room left

-- ---- or goes on
pub record GoesOn (taken : List ℕ) (d : PushDecoder) (work : Option Work) (old new : Option (List ℕ)) (room left : Option ℕ) : Type 0 where
  pub answered : Answered
  pub stands : StandsFor d taken answered
  pub works : Works answered work
  pub wrote : Wrote answered old new room left

pub record Waits (taken : List ℕ) (d : PushDecoder) (work : Option Work) (old new : Option (List ℕ)) (room left : Option ℕ) : Type 0 where
  pub answered : Answered
  pub stands : StandsFor d taken answered
  pub works : Works answered work
  pub wrote : Wrote answered old new room left
  pub nothing_due : due taken answered ≡ None

-- or ends behind the last frame
pub record HasCome (taken : List ℕ) (work : Option Work) (old new : Option (List ℕ)) (room left : Option ℕ) : Type 0 where
  pub front : Front
  pub frames : List (List ℕ)
  pub begins : BeginsSo taken (begun front frames)
  pub due : due taken (begun front frames) ≡ Some has_ended
  pub works : Works (begun front frames) work
  pub wrote : HasWritten front frames old new room left

abbrev pub StepEnds : Result (ℕ × Next) PipeFault → List ℕ → List ℕ → PushDecoder → Option Work → (old new : Option (List ℕ)) → (room left : Option ℕ) → Type 0
StepEnds (Ok (n, next.More)) taken piece d work old new room left = (n ≡ length piece) × Waits (taken ++ take n piece) d work old new room left
StepEnds (Ok (n, next.Again)) taken piece d work old new room left = GoesOn (taken ++ take n piece) d work old new room left
StepEnds (Ok (n, next.End)) taken piece d work old new room left = HasCome (taken ++ take n piece) work old new room left
StepEnds (Err fault) taken piece d work old new room left = StopsBy fault taken piece old new room left

abbrev pub PieceEnds : Result Bool PipeFault → List ℕ → List ℕ → PushDecoder → Option Work → (old new : Option (List ℕ)) → (room left : Option ℕ) → Type 0
PieceEnds (Ok false) taken piece d work old new room left = Waits (taken ++ piece) d work old new room left
PieceEnds (Ok true) taken piece d work old new room left = (n : ℕ) × HasCome (taken ++ take n piece) work old new room left
PieceEnds (Err fault) taken piece d work old new room left = StopsBy fault taken piece old new room left
