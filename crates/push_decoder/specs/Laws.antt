-- The laws of decoders that are fed, as statements.
use Rattle.std.specs.Prelude.{◌≡◌, ℕ, List, ◌++◌, length, take, Some, None}
use Rattle.dsdiff_spec.specs.Streams.{Stream, stream}
use Rattle.push_decoder.specs.Events.{Answered, nothing_answered, begun, due}
use Rattle.push_decoder.specs.Decoder.{StandsFor}
use Rattle.push_decoder.specs.declared.decoder.PushDecoder.{PushDecoder}

-- the events are a stream's first ones: its front, and so many of its frames in order
abbrev pub AreOf : Answered → Stream → Type 0
AreOf nothing_answered s = Unit {0}
AreOf (begun front frames) s = (s.front ≡ Some front) × (take (length frames) s.frames ≡ frames)

-- those that were answered are the first ones of each stream that begins with the bytes that were taken
abbrev pub EventsLaw : Type 0
EventsLaw = (d : PushDecoder) (taken : List ℕ) (answered : Answered) → StandsFor d taken answered → (more : List ℕ) → AreOf answered (stream (taken ++ more))

-- Two decoders that took the same bytes answered the same events, up to where nothing is due.
abbrev pub PiecesLaw : Type 0
PiecesLaw =
    (d e : PushDecoder) (taken : List ℕ) (a b : Answered) → StandsFor d taken a → StandsFor e taken b → due taken a ≡ None → due taken b ≡ None → a ≡ b
