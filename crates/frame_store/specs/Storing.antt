-- What a scratch for storing holds.
use Rattle.std.specs.Prelude.{◌≡◌, ℕ, ◌+◌, ◌*◌, ◌%◌, List, [], length, Option, Some, None}
use Rattle.dst_spec.specs.Bits.{octets}
use Rattle.dst_spec.specs.Sample.{Shape, IsShape, sound_bytes}
use Rattle.bit_io.specs.Writing.{Writing}
use Rattle.frame_predictions.specs.Predicting.{Predicting}
use Rattle.frame_store.specs.declared.scratch.Latest.{Latest}
use Rattle.frame_store.specs.declared.scratch.Latest.TheVariants.{Spelling, SpelledFrame, PlainFrame}

-- the channels that it is for, and the spelling or the stored frame that the latest call left
pub record Storing : Type 0 where
  pub channels : Shape
  pub spelled : List ℕ
  pub stored : List ℕ

-- the bytes of a writer that is there
abbrev pub written : Option Writing → List ℕ
written None = []
written (Some w) = octets w.bits

-- the spelling that was left, of what is written
abbrev pub spelling_left : Latest → List ℕ → List ℕ
spelling_left Spelling bytes = bytes
spelling_left SpelledFrame bytes = []
spelling_left PlainFrame bytes = []

-- the stored frame that was left, of what is written and the plain form
abbrev pub frame_left : Latest → List ℕ → List ℕ → List ℕ
frame_left Spelling bytes plain = []
frame_left SpelledFrame bytes plain = bytes
frame_left PlainFrame bytes plain = plain

-- The writer is there, has whole bytes, and room for the plain form with them.
abbrev pub IsWriter : Shape → Option Writing → Type 0
IsWriter f None = ⊥
IsWriter f (Some w) = (length w.bits % 8 ≡ 0) × (w.room + length w.bits ≡ 8 * (1 + sound_bytes f))

-- Everything has the size that the channels need.
pub record IsStorage (f : Shape) (predictions : Predicting) (symbols : List ℕ) (steps : List (List ℕ)) (writer : Option Writing) (plain : List ℕ) : Type 0 where
  pub is_shape : IsShape f
  pub predicts : predictions.channels ≡ f
  pub many : length symbols ≡ 8 * sound_bytes f
  pub parts : length steps ≡ 1024
  pub is_writer : IsWriter f writer
  pub long : length plain ≡ 1 + sound_bytes f
