-- A report line by line: none is appended in parts, so what counts as appended is always a number of whole lines.
use Rattle.std.specs.Prelude.{◌≡◌, ℕ, ◌+◌, ◌<◌, List, [], ◌∷◌, ◌++◌, length, map, take, Result, Ok, Err}
use Rattle.dst_streams.specs.declared.source.Failed.{Failed}
use Rattle.dsdiff_spec.specs.Lines.{Line, report}

-- all lines were appended
abbrev pub AddsLines : List Line → (before now : ℕ) → Type 0
AddsLines lines before now = now ≡ before + length (report lines)

-- the first n lines were appended, and the call for the next one failed
abbrev pub StopsAtALine : List Line → (before now : ℕ) → Type 0
StopsAtALine lines before now = (n : ℕ) × (n < length lines) × (now ≡ before + length (report (take n lines)))

-- the one or the other, by the answer
abbrev pub GoesByLines : {A : Type 0} → Result A Failed → List Line → (before now : ℕ) → Type 0
GoesByLines (Ok u) lines before now = AddsLines lines before now
GoesByLines (Err failed) lines before now = StopsAtALine lines before now

-- the bytes of each line, with its line feed
abbrev pub fed : List Line → List (List ℕ)
fed lines = map (λ line. line ++ 10 ∷ []) lines
