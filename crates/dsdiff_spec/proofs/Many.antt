-- How many chunks a form, its `PROP` and its `DST ` may have: so many are found, and one more is too many.
use Rattle.std.proofs.Common.{◌≡◌, ℕ, ◌+◌, ◌<◌, ◌≤◌, List, ◌++◌, length, flat_map, Bool, Some, None, sym, ap, ◌∙◌, arith}
use Rattle.std.specs.List.{AllByRecursion}
use Rattle.dsdiff_spec.specs.declared.faults.FileFault.TheVariants.{TooManyChunks}
use Rattle.dsdiff_spec.specs.Chunks.{Chunk, bytes_of_chunk, IsChunk, chunks_from, body_place, body_end}
use Rattle.dsdiff_spec.specs.Form.{Form}
use Rattle.dsdiff_spec.specs.Parts.{form_end, top_level, in_prop}
use Rattle.dsdiff_spec.specs.Walk.{in_dst}
use Rattle.dsdiff_spec.proofs.Tiling.{chunks_are_found, chunk_past_the_limit}

-- whole chunks stand in a file from a place on
pub record StandAt (file : List ℕ) (place : ℕ) (cs : List Chunk) : Type 0 where
  pub front : List ℕ
  pub rest : List ℕ
  pub each : AllByRecursion IsChunk cs
  pub bytes : file ≡ front ++ flat_map bytes_of_chunk cs ++ rest
  pub at_place : length front ≡ place

all_found : (m : List ℕ → Bool) (file : List ℕ) (end most place : ℕ) (cs : List Chunk) → StandAt file place cs → length cs ≤ most →
    end ≡ place + length (flat_map bytes_of_chunk cs) → (chunks_from m file end most place).fault ≡ None
all_found m file end most place cs s le e =
    ap (λ i. (chunks_from m file end most i).fault) (sym s.at_place)
    ∙ ap (λ f. f.fault) (chunks_are_found m file end cs s.front s.rest most s.each le s.bytes (omega (arith, e, s.at_place)))

one_too_many : (m : List ℕ → Bool) (file : List ℕ) (end most place : ℕ) (cs : List Chunk) → StandAt file place cs → length cs ≡ most →
    place + length (flat_map bytes_of_chunk cs) < end → (chunks_from m file end most place).fault ≡ Some TooManyChunks
one_too_many m file end most place cs s e l =
    ap (λ i. (chunks_from m file end most i).fault) (sym s.at_place)
    ∙ ap (λ f. f.fault) (chunk_past_the_limit m file end cs s.front s.rest most s.each e s.bytes (omega (arith, l, s.at_place)))

-- ---- chunks of a form, from place 16 on
pub chunks_1024_are_found : (file : List ℕ) (cs : List Chunk) → StandAt file 16 cs → length cs ≤ 1024 →
    form_end file ≡ 16 + length (flat_map bytes_of_chunk cs) → (top_level file).fault ≡ None
chunks_1024_are_found file cs s le e = all_found _ file (form_end file) 1024 16 cs s le e

pub chunk_1025_is_too_many : (file : List ℕ) (cs : List Chunk) → StandAt file 16 cs → length cs ≡ 1024 →
    16 + length (flat_map bytes_of_chunk cs) < form_end file → (top_level file).fault ≡ Some TooManyChunks
chunk_1025_is_too_many file cs s e l = one_too_many _ file (form_end file) 1024 16 cs s e l

-- ---- chunks in the body of a `PROP`, behind `SND `
pub chunks_65536_are_found_in_prop : (body : List ℕ) (cs : List Chunk) → StandAt body 4 cs → length cs ≤ 65536 →
    length body ≡ 4 + length (flat_map bytes_of_chunk cs) → (in_prop body).fault ≡ None
chunks_65536_are_found_in_prop body cs s le e = all_found _ body (length body) 65536 4 cs s le e

pub chunk_65537_in_prop_is_too_many : (body : List ℕ) (cs : List Chunk) → StandAt body 4 cs → length cs ≡ 65536 →
    4 + length (flat_map bytes_of_chunk cs) < length body → (in_prop body).fault ≡ Some TooManyChunks
chunk_65537_in_prop_is_too_many body cs s e l = one_too_many _ body (length body) 65536 4 cs s e l

-- ---- chunks in `DST `, behind its `FRTE` of 18 bytes
pub chunks_4000000_are_found : (file : List ℕ) (form : Form) (cs : List Chunk) → StandAt file (body_place form.sound + 18) cs → length cs ≤ 4000000 →
    body_end form.sound ≡ body_place form.sound + 18 + length (flat_map bytes_of_chunk cs) → (in_dst file form).fault ≡ None
chunks_4000000_are_found file form cs s le e = all_found _ file (body_end form.sound) 4000000 (body_place form.sound + 18) cs s le e

pub chunk_4000001_is_too_many : (file : List ℕ) (form : Form) (cs : List Chunk) → StandAt file (body_place form.sound + 18) cs → length cs ≡ 4000000 →
    body_place form.sound + 18 + length (flat_map bytes_of_chunk cs) < body_end form.sound → (in_dst file form).fault ≡ Some TooManyChunks
chunk_4000001_is_too_many file form cs s e l = one_too_many _ file (body_end form.sound) 4000000 (body_place form.sound + 18) cs s e l
