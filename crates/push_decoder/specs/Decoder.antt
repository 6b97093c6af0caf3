-- What a fed decoder stands for, and what it answers.
use Rattle.std.specs.Prelude.{◌≡◌, ℕ, List, ◌++◌, length, take, Option, Some, None, Result, Ok, Err}
use Rattle.dsdiff_spec.specs.Form.{shape_of}
use Rattle.dsdiff_spec.specs.Streams.{Front, shape_in}
use Rattle.dsdiff_spec.specs.declared.faults.FileFault.{FileFault}
use Rattle.push_decoder.specs.Events.{Answered, Event, front_came, frame_came, has_ended, has_stopped, due, frames_in}
use Rattle.push_decoder.specs.Reading.{HasRead}
use Rattle.push_decoder.specs.Told.{IsFirst}
use Rattle.push_decoder.specs.declared.decoder.PushDecoder.{PushDecoder}
use Rattle.push_decoder.specs.declared.step.Step.{Step}
use Rattle.push_decoder.specs.declared.step.Step.TheVariants.{More, Head, Frame, End}

-- these bytes were taken, in whatever pieces, and these events answered
abbrev pub StandsFor : PushDecoder → List ℕ → Answered → Type 0
StandsFor d taken answered = HasRead d.reader taken answered

-- what a step tells of the event that is due behind so many bytes of a piece
abbrev pub StepTells : Step → List ℕ → ℕ → Answered → Option Event → Type 0
StepTells More piece count answered event = (event ≡ None) × (count ≡ length piece)
StepTells (Head channels multiple frames) piece count answered event =
    (front : Front) × (event ≡ Some (front_came front)) × (shape_of channels multiple ≡ shape_in front.prop) × (frames ≡ front.frames)
StepTells (Frame number bytes) piece count answered event = (event ≡ Some (frame_came bytes.now)) × (number ≡ frames_in answered)
StepTells End piece count answered event = event ≡ Some has_ended

-- the answer to a piece
abbrev pub Answers : Result (ℕ × Step) FileFault → List ℕ → List ℕ → Answered → Type 0
Answers (Ok step) piece taken answered =
    IsFirst taken piece answered step.0 × StepTells step.1 piece step.0 answered (due (taken ++ take step.0 piece) answered)
Answers (Err fault) piece taken answered =
    (count : ℕ) × IsFirst taken piece answered count × (due (taken ++ take count piece) answered ≡ Some (has_stopped fault))
