-- A part of a file that is chunks, the last of which may lack its pad byte: these chunks are found in it, each with its body.
use Rattle.std.proofs.Common.{◌≡◌, ◌⊎◌, inl, inr, ℕ, zero, suc, ◌+◌, ◌%◌, ◌^◌, ◌<◌, ◌≤◌, Bool, true, List, [], ◌∷◌, ◌++◌, length, flat_map, None}
use Rattle.std.proofs.Common.{refl, sym, ap, ◌∙◌, arith, length-append}
use Rattle.std.specs.Prelude.{⊤}
use Rattle.byteorder.specs.Endian.{big_bytes}
use Rattle.byteorder.specs.Numbers.{big_number-reads_back, length-bytes_high_first}
use Rattle.dsdiff_spec.specs.Chunks.{Chunk, bytes_of_chunk, IsChunk, Head, Found, head_at, next_place, chunks_from}
use Rattle.dsdiff_spec.proofs.Steps.{with_head, fits_whole, fits_without_pad, found_at_end}
use Rattle.dsdiff_spec.proofs.Tiling.{heads_from, head_of, head_of_parts, length_of_parts, step, regroup, regroup_chunks, regroup_first}

-- the last chunk of a part: its pad byte may be missing where its id allows it
pub record IsEnding (m : List ℕ → Bool) (c : Chunk) : Type 0 where
  pub id : length c.id ≡ 4
  pub size : length c.body < 2 ^ 64
  pub pad : (length c.pad ≡ length c.body % 2) ⊎ ((length c.pad ≡ 0) × (m c.id ≡ true))

abbrev pub AreChunks : (List ℕ → Bool) → List Chunk → Type 0
AreChunks m [] = ⊤
AreChunks m (c ∷ []) = IsEnding m c
AreChunks m (c ∷ d ∷ cs) = IsChunk c × AreChunks m (d ∷ cs)

-- ---- one chunk
pub length_of_ending : (m : List ℕ → Bool) (c : Chunk) → IsEnding m c → length (bytes_of_chunk c) ≡ length c.body + 12 + length c.pad
length_of_ending m c h =
    let a = length_of_parts c.id (big_bytes 8 (length c.body)) c.body c.pad in
    let b : length (big_bytes 8 (length c.body)) ≡ 8 = length-bytes_high_first 8 (length c.body) in
    a ∙ omega (arith, h.id)

pub head_of_ending : (m : List ℕ → Bool) (front : List ℕ) (c : Chunk) (rest : List ℕ) → IsEnding m c →
    head_at (front ++ bytes_of_chunk c ++ rest) (length front) ≡ head_of c.id (length front) (length c.body)
head_of_ending m front c rest h =
    ap (λ w. head_at w (length front)) (regroup front c.id (big_bytes 8 (length c.body)) c.body c.pad rest)
    ∙ head_of_parts front c.id (big_bytes 8 (length c.body)) (c.body ++ c.pad ++ rest) (length c.body) h.id
    (big_number-reads_back 8 (length c.body) (c.body ++ c.pad ++ rest) h.size)

pub is_ending : (m : List ℕ → Bool) (c : Chunk) → IsChunk c → IsEnding m c
is_ending m c h = record { id = h.id; size = h.size; pad = inl h.pad }

-- the first of some chunks is whole or the last one
pub first_ends : (m : List ℕ → Bool) (c : Chunk) (cs : List Chunk) → AreChunks m (c ∷ cs) → IsEnding m c
first_ends m c [] h = h
first_ends m c (d ∷ cs) h = is_ending m c h.0

pub others_are : (m : List ℕ → Bool) (c : Chunk) (cs : List Chunk) → AreChunks m (c ∷ cs) → AreChunks m cs
others_are m c [] h = tt
others_are m c (d ∷ cs) h = h.1

-- it lacks its pad byte only where it is the last
abbrev pub HasPadByte : Chunk → Type 0
HasPadByte c = length c.pad ≡ length c.body % 2

alone : (c : Chunk) (m : List ℕ → Bool) → HasPadByte c ⊎ ((length c.pad ≡ 0) × (m c.id ≡ true)) →
    HasPadByte c ⊎ ((length c.pad ≡ 0) × (m c.id ≡ true) × (length (flat_map bytes_of_chunk []) ≡ 0))
alone c m (inl pad) = inl pad
alone c m (inr (none, may)) = inr (none, may, refl)

pub pad_of_first : (m : List ℕ → Bool) (c : Chunk) (cs : List Chunk) → AreChunks m (c ∷ cs) →
    HasPadByte c ⊎ ((length c.pad ≡ 0) × (m c.id ≡ true) × (length (flat_map bytes_of_chunk cs) ≡ 0))
pad_of_first m c [] h = alone c m h.pad
pad_of_first m c (d ∷ cs) h = inl h.0.pad

-- ---- where they end the part they are all that is found in it
pub composed_is_found : (m : List ℕ → Bool) (file : List ℕ) (end : ℕ) (cs : List Chunk) (front rest : List ℕ) (most : ℕ) →
    AreChunks m cs → length cs ≤ most → file ≡ front ++ flat_map bytes_of_chunk cs ++ rest →
    end ≡ length front + length (flat_map bytes_of_chunk cs) →
    chunks_from m file end most (length front) ≡ record { heads = heads_from (length front) cs; fault = None }
composed_is_found m file end [] front rest most all le p q = found_at_end m file end most (length front) (omega (arith, q))
composed_is_found m file end (c ∷ cs) front rest zero all le p q = absurd (omega (arith, le))
composed_is_found m file end (c ∷ cs) front rest (suc most) all le p q =
    let ends = first_ends m c cs all in
    let h = head_of c.id (length front) (length c.body) in
    let long = length_of_ending m c ends in
    let both = length-append (bytes_of_chunk c) (flat_map bytes_of_chunk cs) in
    let moved = length-append front (bytes_of_chunk c) in
    let here : head_at file (length front) ≡ h =
    ap (λ w. head_at w (length front)) (p ∙ regroup_first front (bytes_of_chunk c) (flat_map bytes_of_chunk cs) rest)
    ∙ head_of_ending m front c (flat_map bytes_of_chunk cs ++ rest) ends in
    let begins : length front < end = omega (arith, q, both, long) in
    let later = composed_is_found m file end cs (front ++ bytes_of_chunk c) rest most (others_are m c cs all) (omega (arith, le))
    (p ∙ regroup_chunks front (bytes_of_chunk c) (flat_map bytes_of_chunk cs) rest) (omega (arith, q, both, moved))
    ∙ ap (λ i. record { heads = heads_from i cs; fault = None }) moved in
    whole_or_last here begins later (omega (arith, long, moved)) (omega (arith, q, both, long)) (pad_of_first m c cs all)
  where
    h : Head
    h = head_of c.id (length front) (length c.body)

    found : List Chunk → Found
    found cs = record { heads = heads_from (length front + length (bytes_of_chunk c)) cs; fault = None }

    whole_or_last : head_at file (length front) ≡ h → length front < end →
        chunks_from m file end most (length (front ++ bytes_of_chunk c)) ≡ found cs →
        length (front ++ bytes_of_chunk c) ≡ length front + (length c.body + 12 + length c.pad) →
        end ≡ length front + (length c.body + 12 + length c.pad) + length (flat_map bytes_of_chunk cs) →
        HasPadByte c ⊎ ((length c.pad ≡ 0) × (m c.id ≡ true) × (length (flat_map bytes_of_chunk cs) ≡ 0)) →
        chunks_from m file end (suc most) (length front) ≡ with_head h (found cs)
    whole_or_last here begins later long ends (inl pad) =
        let next : length (front ++ bytes_of_chunk c) ≡ next_place h = omega (arith, long, pad) in
        step m file end most (length front) h (found cs) here begins (fits_whole m end h (omega (arith, ends, pad)))
        (ap (chunks_from m file end most) (sym next) ∙ later)
    whole_or_last here begins later long ends (inr (none, may, last)) =
        let at_end : end ≤ length (front ++ bytes_of_chunk c) = omega (arith, long, ends, last) in
        let nothing_more = found_at_end m file end most (length (front ++ bytes_of_chunk c)) at_end in
        step m file end most (length front) h (found cs) here begins (fits_without_pad m end h may (omega (arith, ends, none)))
        (found_at_end m file end most (next_place h) (omega (arith, ends, none, last)) ∙ sym nothing_more ∙ later)
