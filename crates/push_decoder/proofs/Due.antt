-- What is due of a stream at a stage.
use Rattle.std.proofs.Common.{◌≡◌, ℕ, List, [], ◌∷◌, Some, ap, ◌∙◌}
use Rattle.std.proofs.Math.Seq.{drop-append_seam}
use Rattle.dsdiff_spec.specs.Streams.{Ending, Front, Stream, nothing_but, with_front, with_frame, stream}
use Rattle.push_decoder.specs.Events.{Answered, nothing_answered, begun, front_came, frame_came, end_event, frame_event, next_event, due}
use Rattle.push_decoder.specs.Events.{behind_answered}

-- behind what was answered the first event of the rest is due
pub due_is_ending : (w : List ℕ) (answered : Answered) (ending : Ending) → stream w ≡ behind_answered answered (nothing_but ending) →
    due w answered ≡ end_event ending
due_is_ending w nothing_answered ending e = ap (λ s. next_event s nothing_answered) e
due_is_ending w (begun front frames) ending e =
    ap (λ s. next_event s (begun front frames)) e ∙ ap (λ fs. frame_event fs ending) (drop-append_seam frames [])

pub due_is_front : (w : List ℕ) (front : Front) (later : Stream) → stream w ≡ with_front front later →
    due w nothing_answered ≡ Some (front_came front)
due_is_front w front later e = ap (λ s. next_event s nothing_answered) e

pub due_is_frame : (w : List ℕ) (front : Front) (frames : List (List ℕ)) (frame : List ℕ) (later : Stream) →
    stream w ≡ behind_answered (begun front frames) (with_frame frame later) → due w (begun front frames) ≡ Some (frame_came frame)
due_is_frame w front frames frame later e =
    ap (λ s. next_event s (begun front frames)) e
    ∙ ap (λ fs. frame_event fs later.ending) (drop-append_seam frames (frame ∷ later.frames))
