-- What is opened for parts of the sound of a file.
use Rattle.std.specs.Prelude.{◌≡◌, ℕ, ◌+◌, ◌*◌, ◌<◌, ◌≤◌, List, [], length, None}
use Rattle.std.specs.List.{AllByRecursion}
use Rattle.dst_spec.specs.Sample.{IsShape, sound_bytes}
use Rattle.dsdiff_spec.specs.Rules.{accepted}
use Rattle.dsdiff_spec.specs.Refusal.{refusal}
use Rattle.dsdiff_spec.specs.Words as words
use Rattle.frame_cache.specs.Reader.{Reader, IsReaderOf}
use Rattle.dst_ranges.specs.declared.opened.OpenedParts.{OpenedParts}

-- each pair lies in the sound of a reader, a group having c bytes
abbrev pub AreInside : Reader → ℕ → List (ℕ × ℕ) → Type 0
AreInside r c pairs = AllByRecursion (λ p. (p.0 + p.1) * c ≤ r.size) pairs

-- a reader that holds nothing yet, with room for sixteen frames, and a buffer for the sound of one frame
pub record IsReady (pairs : List (ℕ × ℕ)) (o : OpenedParts) : Type 0 where
  pub shape_is : o.channels ≡ o.reader.shape
  pub lawful : IsShape o.reader.shape
  pub some : 0 < sound_bytes o.reader.shape
  pub buffer_is : length o.buffer.items ≡ sound_bytes o.reader.shape
  pub capacity_is : o.reader.capacity ≡ 16
  pub held_is : o.reader.held ≡ []
  pub size_most : o.reader.size ≤ 112896000000
  pub inside : AreInside o.reader o.channels.channels pairs

-- the file is accepted for these pairs, and the reader is that of its form
pub record IsOpened (pairs : List (ℕ × ℕ)) (file : List ℕ) (o : OpenedParts) : Type 0 where
  pub accepts : refusal (words.range pairs) file ≡ None
  pub reader_is : IsReaderOf file (accepted file) o.reader
