-- A reader of parts of a sound, as contracts see it.
use Rattle.std.specs.Prelude.{◌≡◌, ℕ, ◌+◌, ◌*◌, ◌^◌, ◌<◌, ◌≤◌, List, [], length, map, sum}
use Rattle.std.specs.List.{AllByRecursion}
use Rattle.dst_spec.specs.Sample.{Shape, sound_bytes}
use Rattle.dst_spec.specs.Means.{Means}
use Rattle.dsdiff_spec.specs.Form.{Form, shape, size_of_sound}
use Rattle.dsdiff_spec.specs.Walk.{Entry, entry, entries, frame_at}
use Rattle.dsdiff_spec.specs.Ranges.{touched}
use Rattle.frame_cache.specs.Slots.{HeldSound, frames_in}

-- The frames of a file and where they stand, the bytes of its sound, the place behind its form; how many sounds of frames the
-- reader has room for, and those that it holds, the one that was wanted last in front.
pub record Reader : Type 0 where
  pub shape : Shape
  pub index : List Entry
  pub size : ℕ
  pub end : ℕ
  pub capacity : ℕ
  pub held : List HeldSound

-- a reader of a form with these frames, before its first read
abbrev pub fresh_reader : Form → List Entry → ℕ → Reader
fresh_reader form index capacity =
    record { shape = shape form; index = index; size = size_of_sound form; end = form.end; capacity = capacity; held = [] }

-- the frames that are held
abbrev pub order : Reader → List ℕ
order r = frames_in r.held

-- the same reader, but for what it holds
abbrev pub IsSame : Reader → Reader → Type 0
IsSame old new = new ≡ record old { held = new.held }

-- the frames that some bytes from a place on touch
abbrev pub wanted : Reader → ℕ → ℕ → List ℕ
wanted r from count = touched (sound_bytes r.shape) from (from + count)

-- the bytes of some stored frames
abbrev pub stored_bytes : Reader → List ℕ → ℕ
stored_bytes r ks = sum (map (λ k. (entry r.index k).size) ks)

-- a frame of the reader in a file
abbrev pub frame_in : List ℕ → Reader → ℕ → List ℕ
frame_in file r k = frame_at file (entry r.index k)

-- the reader is that of this form of the file
pub record IsReaderOf (file : List ℕ) (form : Form) (r : Reader) : Type 0 where
  pub shape_is : shape form ≡ r.shape
  pub entries_are : entries file form ≡ r.index
  pub size_is : size_of_sound form ≡ r.size

-- what is held of a frame is the sound that it means in the file
abbrev pub HoldsSounds : List ℕ → Reader → Type 0
HoldsSounds file r = AllByRecursion (λ x. Means r.shape (frame_in file r x.frame) x.sound) r.held

-- ---- what holds of each reader
pub record HoldsTogether (r : Reader) : Type 0 where
  pub some : 0 < r.capacity
  pub few : length r.index ≤ 1000000
  pub end_most : r.end ≤ 2 ^ 50 + 12
  pub inside : (k : ℕ) → k < length r.index → (entry r.index k).offset + (entry r.index k).size ≤ r.end
  pub short : (k : ℕ) → k < length r.index → (entry r.index k).size ≤ 2 * (sound_bytes r.shape + 1)
  pub size_most : r.size ≤ length r.index * sound_bytes r.shape
