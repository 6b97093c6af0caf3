-- What is due of a stream, by the bytes that came and by what was answered before.
use Rattle.std.specs.Prelude.{ℕ, List, [], ◌∷◌, ◌++◌, length, drop, Option, Some, None}
use Rattle.dsdiff_spec.specs.Streams.{Ending, ended, stopped, cut_off, Front, Stream, stream}
use Rattle.dsdiff_spec.specs.declared.faults.FileFault.{FileFault}

-- nothing, or what stands in front of the frames and so many of them
pub data Answered : Type 0 where
  nothing_answered : Answered
  begun : Front → List (List ℕ) → Answered

-- an event: the front is whole, a frame is whole, the last one came, or a rule is broken
pub data Event : Type 0 where
  front_came : Front → Event
  frame_came : List ℕ → Event
  has_ended : Event
  has_stopped : FileFault → Event

-- where a stream ends early, more bytes are waited for
abbrev pub end_event : Ending → Option Event
end_event ended = Some has_ended
end_event (stopped fault) = Some (has_stopped fault)
end_event (cut_off fault) = None

abbrev pub front_event : Option Front → Ending → Option Event
front_event (Some front) ending = Some (front_came front)
front_event None ending = end_event ending

abbrev pub frame_event : List (List ℕ) → Ending → Option Event
frame_event (frame ∷ frames) ending = Some (frame_came frame)
frame_event [] ending = end_event ending

-- the first event of a stream that wasn't answered before; its end is never behind it
abbrev pub next_event : Stream → Answered → Option Event
next_event s nothing_answered = front_event s.front s.ending
next_event s (begun front frames) = frame_event (drop (length frames) s.frames) s.ending

abbrev pub due : List ℕ → Answered → Option Event
due w answered = next_event (stream w) answered

-- and what was answered with it
abbrev pub and_event : Event → Answered → Answered
and_event (front_came front) answered = begun front []
and_event (frame_came frame) nothing_answered = nothing_answered
and_event (frame_came frame) (begun front frames) = begun front (frames ++ frame ∷ [])
and_event has_ended answered = answered
and_event (has_stopped fault) answered = answered

abbrev pub answered_with : Option Event → Answered → Answered
answered_with None answered = answered
answered_with (Some event) answered = and_event event answered

-- a stream whose first events were answered, and what it comes to behind them
abbrev pub behind_answered : Answered → Stream → Stream
behind_answered nothing_answered s = s
behind_answered (begun front frames) s = record { front = Some front; frames = frames ++ s.frames; ending = s.ending }

abbrev pub frames_in : Answered → ℕ
frames_in nothing_answered = 0
frames_in (begun front frames) = length frames
