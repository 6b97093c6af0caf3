-- What becomes of a stream when more bytes follow: nothing that was decided changes.
use Rattle.std.specs.Prelude.{◌≡◌, List, ◌++◌, ℕ, Some}
use Rattle.dsdiff_spec.specs.Streams.{Ending, ended, stopped, cut_off, Front, Stream, stream}

-- a stream that was cut off keeps its front and its frames, and more may come; any other stays as it is
abbrev pub GoesOn : Ending → Stream → Stream → Type 0
GoesOn (cut_off fault) s t =
    ((front : Front) → s.front ≡ Some front → t.front ≡ Some front) × ((later : List (List ℕ)) × (t.frames ≡ s.frames ++ later))
GoesOn ended s t = t ≡ s
GoesOn (stopped fault) s t = t ≡ s

abbrev pub MoreBytesLaw : Type 0
MoreBytesLaw = (w more : List ℕ) → GoesOn (stream w).ending (stream w) (stream (w ++ more))
