-- What an answer of a reader tells of the event that is due.
use Rattle.std.specs.Prelude.{◌≡◌, ◌⊎◌, ℕ, ◌<◌, ◌≤◌, List, ◌++◌, length, take, drop, Option, Some, None, Result, Ok, Err}
use Rattle.dsdiff_spec.specs.Streams.{Ending, ended, stopped, cut_off, Front, shape_in}
use Rattle.push_decoder.specs.Events.{Answered, Event, front_came, frame_came, has_ended, has_stopped, frames_in, due, answered_with}
use Rattle.push_decoder.specs.Reading.{Reading, HasRead}
use Rattle.dsdiff_spec.specs.declared.faults.FileFault.{FileFault}
use Rattle.push_decoder.specs.declared.reading.Answer.{Answer}
use Rattle.push_decoder.specs.declared.reading.Answer.TheVariants.{More, Within, Head, Frame, End, Fault}

-- behind so many bytes of a piece; a frame is that which was gathered, or lies in the piece
abbrev pub TellsEvent : Answer → List ℕ → ℕ → List ℕ → Answered → Option Event → Type 0
TellsEvent More piece count gathered answered event = (event ≡ None) × (count ≡ length piece)
TellsEvent (Within number from) piece count gathered answered event =
    (event ≡ Some (frame_came (drop from (take count piece)))) × (number ≡ frames_in answered) × (from ≤ count)
TellsEvent (Head channels frames) piece count gathered answered event =
    (front : Front) × (event ≡ Some (front_came front)) × (channels ≡ shape_in front.prop) × (frames ≡ front.frames)
TellsEvent (Frame number) piece count gathered answered event = (event ≡ Some (frame_came gathered)) × (number ≡ frames_in answered)
TellsEvent End piece count gathered answered event = event ≡ Some has_ended
TellsEvent (Fault fault) piece count gathered answered event = event ≡ Some (has_stopped fault)

-- no event is due of fewer bytes of a piece than so many, behind those that were taken before
abbrev pub NothingBefore : List ℕ → List ℕ → Answered → ℕ → Type 0
NothingBefore taken piece answered count = (j : ℕ) → j < count → due (taken ++ take j piece) answered ≡ None

-- a frame in a piece begins before what was taken; an answer of its own is none of a piece
abbrev pub LiesWithin : Answer → ℕ → Type 0
LiesWithin (Within number from) count = from ≤ count
LiesWithin answer count = Unit {0}

abbrev pub IsOwn : Answer → Type 0
IsOwn (Within number from) = ⊥
IsOwn answer = Unit {0}

-- so many bytes of a piece are those up to the first event that is due
pub record IsFirst (taken piece : List ℕ) (answered : Answered) (count : ℕ) : Type 0 where
  pub within : count ≤ length piece
  pub nothing_before : NothingBefore taken piece answered count

-- an answer with so many bytes of a piece of some length; it is no fault
abbrev pub Lies : Answer → ℕ → ℕ → Type 0
Lies (Within number from) count len = (from ≤ count) × (count ≤ len)
Lies (Fault fault) count len = ⊥
Lies answer count len = count ≤ len

abbrev pub Answers : Result (ℕ × Answer) FileFault → List ℕ → List ℕ → List ℕ → Answered → Type 0
Answers (Ok r) piece gathered taken answered =
    IsFirst taken piece answered r.0 × TellsEvent r.1 piece r.0 gathered answered (due (taken ++ take r.0 piece) answered)
Answers (Err fault) piece gathered taken answered =
    (count : ℕ) × IsFirst taken piece answered count × (due (taken ++ take count piece) answered ≡ Some (has_stopped fault))

-- what a reader has read behind so many bytes of a piece, the event that is due there being answered
pub record ReadTo (d : Reading) (taken piece : List ℕ) (answered : Answered) (count : ℕ) : Type 0 where
  pub read : HasRead d (taken ++ take count piece) (answered_with (due (taken ++ take count piece) answered) answered)

-- and where a fault was due behind some of them
pub record StoppedIn (d : Reading) (taken piece : List ℕ) (answered : Answered) (fault : FileFault) : Type 0 where
  pub count : ℕ
  pub first : IsFirst taken piece answered count
  pub event : due (taken ++ take count piece) answered ≡ Some (has_stopped fault)
  pub read : HasRead d (taken ++ take count piece) answered

abbrev pub ReadAfter : {S : Type 0} → Result (ℕ × S) FileFault → List ℕ → List ℕ → Answered → Reading → Type 0
ReadAfter (Ok r) piece taken answered d = ReadTo d taken piece answered r.0
ReadAfter (Err fault) piece taken answered d = StoppedIn d taken piece answered fault

-- Ok where a stream ends behind its last frame, else the fault by which it ends
abbrev pub EndsAs : Result (Unit {0}) FileFault → Ending → Type 0
EndsAs (Ok done) ending = ending ≡ ended
EndsAs (Err fault) ending = (ending ≡ stopped fault) ⊎ (ending ≡ cut_off fault)
