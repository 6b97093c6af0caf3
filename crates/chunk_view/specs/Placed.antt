-- The chunks of a list of bytes, each with its place.
use Rattle.std.specs.Prelude.{◌≡◌, ℕ, ◌+◌, ◌*◌, ◌%◌, ◌<◌, ◌≤◌, false, List, [], ◌∷◌, length, map, take, None, Some}
use Rattle.std.specs.List.{AllByRecursion}
use Rattle.dsdiff_spec.specs.Bytes.{bytes_at}
use Rattle.dsdiff_spec.specs.Chunks.{Chunk, bytes_of_chunk, Tiles, Head, body_of, body_end, next_place, head_at, chunks_from}
use Rattle.dsdiff_spec.specs.declared.faults.FileFault.TheVariants.{Overrun}

-- a chunk, and how many bytes stand before its id
pub record PlacedChunk : Type 0 where
  pub place : ℕ
  pub chunk : Chunk

abbrev pub chunks_of : List PlacedChunk → List Chunk
chunks_of placed = map (λ p. p.chunk) placed

-- chunks that stand one after the other from a place on
abbrev pub placed_from : ℕ → List Chunk → List PlacedChunk
placed_from place [] = []
placed_from place (c ∷ cs) = record { place = place; chunk = c } ∷ placed_from (place + length (bytes_of_chunk c)) cs

-- these are the chunks of the bytes, in order, at their places
pub record AreChunksOf (bytes : List ℕ) (placed : List PlacedChunk) : Type 0 where
  pub tiles : Tiles bytes (chunks_of placed)
  pub places : placed ≡ placed_from 0 (chunks_of placed)

-- Whole chunks end at this place, and the one that begins there passes the end of the bytes; behind the end, where its
-- head may lie, zeros are read.
pub record IsCutAt (bytes : List ℕ) (place : ℕ) : Type 0 where
  pub before : (chunks : List Chunk) × Tiles (take place bytes) chunks
  pub inside : place < length bytes
  pub passes : length bytes < next_place (head_at bytes place)

-- ---- the same in a file in which the bytes stand behind so many others
abbrev pub head_behind : ℕ → PlacedChunk → Head
head_behind start p = record { id = p.chunk.id; place = start + p.place; size = length p.chunk.body }

abbrev pub heads_behind : ℕ → List PlacedChunk → List Head
heads_behind start placed = map (head_behind start) placed

-- the bytes stand in a file from a place on, up to an end, and have no room for more than so many chunks
pub record StandsIn (bytes file : List ℕ) (start end most : ℕ) : Type 0 where
  pub same : bytes_at file start (length bytes) ≡ bytes
  pub ends : end ≡ start + length bytes
  pub enough : length bytes ≤ 12 * most

-- wherever the bytes stand, these chunks are found, with these bodies
pub record AreFound (bytes : List ℕ) (placed : List PlacedChunk) (file : List ℕ) (start end most : ℕ) : Type 0 where
  pub heads : chunks_from (λ id. false) file end most start ≡ record { heads = heads_behind start placed; fault = None }
  pub bodies : AllByRecursion (λ p. body_of file (head_behind start p) ≡ p.chunk.body) placed

abbrev pub AreFoundWherever : List ℕ → List PlacedChunk → Type 0
AreFoundWherever bytes placed =
    (file : List ℕ) (start end most : ℕ) → StandsIn bytes file start end most → AreFound bytes placed file start end most

-- wherever the bytes stand, the chunk at this place of them is the one that passes the end
abbrev pub OverrunsWherever : List ℕ → ℕ → Type 0
OverrunsWherever bytes place =
    (file : List ℕ) (start end most : ℕ) → StandsIn bytes file start end most →
    (chunks_from (λ id. false) file end most start).fault ≡ Some (Overrun (start + place))

-- ---- the chunks as they are read
abbrev pub placed_at : List ℕ → Head → PlacedChunk
placed_at bytes h =
    record { place = h.place; chunk = record { id = h.id; body = body_of bytes h; pad = bytes_at bytes (body_end h) (h.size % 2) } }

-- those from a place on
abbrev pub placed_in : List ℕ → ℕ → List PlacedChunk
placed_in bytes place = map (placed_at bytes) (chunks_from (λ id. false) bytes (length bytes) (length bytes) place).heads

-- whole chunks stand from a place on
pub record AreWholeFrom (bytes : List ℕ) (place : ℕ) : Type 0 where
  pub within : place ≤ length bytes
  pub whole : (chunks_from (λ id. false) bytes (length bytes) (length bytes) place).fault ≡ None
