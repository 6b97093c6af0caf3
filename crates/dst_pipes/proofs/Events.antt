-- What an event that is due says of what was answered before it, and of the stream.
use Rattle.std.proofs.Common.{◌≡◌, ℕ, ◌+◌, ◌*◌, ◌<◌, ◌≤◌, List, [], ◌∷◌, ◌++◌, length, drop, Option, Some, None, refl, sym, ap, subst, ◌∙◌, arith}
use Rattle.std.proofs.Common.{length-append, take-append-drop}
use Rattle.std.specs.List.{AllByRecursion}
use Rattle.dst_spec.specs.Sample.{sound_bytes}
use Rattle.dsdiff_spec.specs.Streams.{Ending, ended, stopped, cut_off, Front, shape_in, stream}
use Rattle.stream_spec.specs.Lawful.{IsShort}
use Rattle.stream_spec.proofs.Lawful.{streams_are_lawful}
use Rattle.push_decoder.specs.Events.{Answered, nothing_answered, begun, front_came, frame_came, has_ended, front_event, frame_event, due}
use Rattle.push_decoder.specs.Laws.{AreOf}

-- a front comes first, and frames and the end behind it
front_event_is : (front : Option Front) (e : Ending) (frame : List ℕ) → front_event front e ≡ Some (frame_came frame) → ⊥
front_event_is (Some f) e frame same = absurd cc
front_event_is None ended frame same = absurd cc
front_event_is None (stopped fault) frame same = absurd cc
front_event_is None (cut_off fault) frame same = absurd cc

frame_event_is : (frames : List (List ℕ)) (e : Ending) (front : Front) → frame_event frames e ≡ Some (front_came front) → ⊥
frame_event_is (f ∷ fs) e front same = absurd cc
frame_event_is [] ended front same = absurd cc
frame_event_is [] (stopped fault) front same = absurd cc
frame_event_is [] (cut_off fault) front same = absurd cc

pub front_is_first : (p : List ℕ) (answered : Answered) (front : Front) → due p answered ≡ Some (front_came front) → answered ≡ nothing_answered
front_is_first p nothing_answered front e = refl
front_is_first p (begun f fs) front e = absurd (frame_event_is (drop (length fs) (stream p).frames) (stream p).ending front e)

-- what was answered is a front and frames
pub record IsBegun (answered : Answered) : Type 0 where
  pub front : Front
  pub frames : List (List ℕ)
  pub same : answered ≡ begun front frames

pub frame_is_behind : (p : List ℕ) (answered : Answered) (frame : List ℕ) → due p answered ≡ Some (frame_came frame) → IsBegun answered
frame_is_behind p nothing_answered frame e = absurd (front_event_is (stream p).front (stream p).ending frame e)
frame_is_behind p (begun f fs) frame e = record { front = f; frames = fs; same = refl }

ended_front : (p : List ℕ) (front : Option Front) (e : Ending) → (stream p).front ≡ front → (stream p).ending ≡ e → front_event front e ≡ Some has_ended → ⊥
ended_front p (Some f) e has is same = absurd cc
ended_front p None (stopped fault) has is same = absurd cc
ended_front p None (cut_off fault) has is same = absurd cc
ended_front p None ended has is same =
    let front = (streams_are_lawful p).ended is in
    let never : None ≡ Some front.0 = sym has ∙ front.1 in
    absurd cc

pub end_is_behind : (p : List ℕ) (answered : Answered) → due p answered ≡ Some has_ended → IsBegun answered
end_is_behind p nothing_answered e = absurd (ended_front p (stream p).front (stream p).ending refl refl e)
end_is_behind p (begun f fs) e = record { front = f; frames = fs; same = refl }

-- ---- the frames of a stream, where one more is due
next_frame : (frames : List (List ℕ)) (e : Ending) (frame : List ℕ) → frame_event frames e ≡ Some (frame_came frame) → (later : List (List ℕ))
    × (frames ≡ frame ∷ later)
next_frame (f ∷ fs) e frame same = (let one : f ≡ frame = cc in (fs, ap (λ x. x ∷ fs) one))
next_frame [] ended frame same = absurd cc
next_frame [] (stopped fault) frame same = absurd cc
next_frame [] (cut_off fault) frame same = absurd cc

pub frames_go_on : (p : List ℕ) (front : Front) (frames : List (List ℕ)) (frame : List ℕ) → AreOf (begun front frames) (stream p) →
    due p (begun front frames) ≡ Some (frame_came frame) → (later : List (List ℕ)) × ((stream p).frames ≡ frames ++ frame ∷ later)
frames_go_on p front frames frame are e =
    let all = (stream p).frames in
    let next = next_frame (drop (length frames) all) (stream p).ending frame e in
    (next.0, sym (take-append-drop (length frames) all) ∙ ap (λ x. x ++ drop (length frames) all) are.1 ∙ ap (λ x. frames ++ x) next.1)

pub all_behind : {A : Type 0} (P : A → Type 0) (xs ys : List A) → AllByRecursion P (xs ++ ys) → AllByRecursion P ys
all_behind P [] ys every = every
all_behind P (x ∷ xs) ys every = all_behind P xs ys every.1

pub record Fits (front : Front) (frames : List (List ℕ)) (frame : List ℕ) : Type 0 where
  pub short : length frame ≤ 2 * (sound_bytes (shape_in front.prop) + 1)
  pub room : length frames < front.frames

pub frame_fits : (p : List ℕ) (front : Front) (frames : List (List ℕ)) (frame : List ℕ) → AreOf (begun front frames) (stream p) →
    due p (begun front frames) ≡ Some (frame_came frame) → Fits front frames frame
frame_fits p front frames frame are e =
    let next = frames_go_on p front frames frame are e in
    let lawful = (streams_are_lawful p).frames front are.0 in
    let every = subst (AllByRecursion (IsShort (shape_in front.prop))) next.1 lawful.short in
    let long = ap length next.1 ∙ length-append frames (frame ∷ next.0) in
    let few = lawful.few in
    record { short = (all_behind (IsShort (shape_in front.prop)) frames (frame ∷ next.0) every).0; room = omega (arith, long, few) }
