-- Bytes that chunks tile are read as these chunks.
use Rattle.std.proofs.Common.{◌≡◌, ℕ, zero, suc, ◌+◌, ◌-◌, ◌%◌, ◌<◌, ◌≤◌, List, [], ◌∷◌, ◌++◌, length, take, drop, get_or, flat_map, Bool, true, Some, refl}
use Rattle.std.proofs.Common.{sym, ap, ◌∙◌, arith, None, length-append, take_at, append_assoc, append-nil}
use Rattle.std.proofs.lemmas.List.{drop_at, get_or-append-add}
use Rattle.dsdiff_spec.specs.declared.faults.FileFault.TheVariants.{TooManyChunks}
use Rattle.dsdiff_spec.proofs.Steps.{with_head, fits_whole, found_at_end, found_at_limit, found_at_chunk}
use Rattle.std.specs.List.{AllByRecursion}
use Rattle.byteorder.specs.Endian.{big_from, big_bytes}
use Rattle.byteorder.specs.Numbers.{big_number-reads_back, length-bytes_high_first}
use Rattle.dsdiff_spec.specs.Chunks.{Chunk, bytes_of_chunk, IsChunk, Head, Found, head_at, fits, next_place, chunks_from}

-- the heads of chunks that stand one after the other from a place on
abbrev pub heads_from : ℕ → List Chunk → List Head
heads_from place [] = []
heads_from place (c ∷ cs) =
    record { id = c.id; place = place; size = length c.body } ∷ heads_from (place + length (bytes_of_chunk c)) cs

pub big_from-behind : (i n : ℕ) (front xs : List ℕ) → big_from (length front + i) n (front ++ xs) ≡ big_from i n xs
big_from-behind i zero front xs = refl
big_from-behind i (suc n) front xs =
    let here : get_or (front ++ xs) (length front + i) 0 ≡ get_or xs i 0 = get_or-append-add front xs i 0 in
    let next : suc (length front + i) ≡ length front + suc i = omega arith in
    rw (here, next, big_from-behind (suc i) n front xs) refl

-- the same of lists in the place of a chunk's parts
pub length_of_parts : (id size body pad : List ℕ) → length (id ++ size ++ body ++ pad) ≡ length id + length size + length body + length pad
length_of_parts id size body pad =
    omega (arith, length-append (id ++ size ++ body) pad, length-append (id ++ size) body, length-append id size)

pub number_behind_id : (front id rest : List ℕ) → length id ≡ 4 → big_from (length front + 4) 8 (front ++ (id ++ rest)) ≡ big_from 0 8 rest
number_behind_id front id rest h =
    let four : 4 ≡ length id + 0 = omega (arith, h) in
    big_from-behind 4 8 front (id ++ rest)
    ∙ ap (λ i. big_from i 8 (id ++ rest)) four
    ∙ big_from-behind 0 8 id rest

pub id_behind : (front id rest : List ℕ) → length id ≡ 4 → take 4 (drop (length front) (front ++ (id ++ rest))) ≡ id
id_behind front id rest h = ap (take 4) (drop_at front (id ++ rest) (length front) refl) ∙ take_at id rest 4 h

abbrev pub head_of : List ℕ → ℕ → ℕ → Head
head_of id place size = record { id = id; place = place; size = size }

pub same_head : (a b : List ℕ) (place m n : ℕ) → a ≡ b → m ≡ n → head_of a place m ≡ head_of b place n
same_head a b place m n p q = rw (p, q) refl

pub head_of_parts : (front id size rest : List ℕ) (n : ℕ) → length id ≡ 4 → big_from 0 8 (size ++ rest) ≡ n →
    head_at (front ++ (id ++ (size ++ rest))) (length front) ≡ head_of id (length front) n
head_of_parts front id size rest n h e =
    same_head _ id (length front) _ n (id_behind front id (size ++ rest) h) (number_behind_id front id (size ++ rest) h ∙ e)

pub length_of_chunk : (c : Chunk) → IsChunk c → length (bytes_of_chunk c) ≡ length c.body + 12 + length c.body % 2
length_of_chunk c h =
    let a = length_of_parts c.id (big_bytes 8 (length c.body)) c.body c.pad in
    let b : length (big_bytes 8 (length c.body)) ≡ 8 = length-bytes_high_first 8 (length c.body) in
    a ∙ omega (arith, h.id, h.pad)

pub regroup : (front id size body pad rest : List ℕ) → front ++ (id ++ size ++ body ++ pad) ++ rest ≡ front ++ (id ++ (size ++ (body ++ pad ++ rest)))
regroup front id size body pad rest = simp append_assoc refl

pub head_of_chunk : (front : List ℕ) (c : Chunk) (rest : List ℕ) → IsChunk c →
    head_at (front ++ bytes_of_chunk c ++ rest) (length front) ≡ head_of c.id (length front) (length c.body)
head_of_chunk front c rest h =
    ap (λ w. head_at w (length front)) (regroup front c.id (big_bytes 8 (length c.body)) c.body c.pad rest)
    ∙ head_of_parts front c.id (big_bytes 8 (length c.body)) (c.body ++ c.pad ++ rest) (length c.body) h.id
    (big_number-reads_back 8 (length c.body) (c.body ++ c.pad ++ rest) h.size)

-- ---- one chunk, and what is found behind it
pub step : (m : List ℕ → Bool) (file : List ℕ) (end most place : ℕ) (h : Head) (later : Found) → head_at file place ≡ h →
    place < end → fits m end h ≡ true → chunks_from m file end most (next_place h) ≡ later →
    chunks_from m file end (suc most) place ≡ with_head h later
step m file end most place h later p q r s =
    found_at_chunk m file end most place q (ap (fits m end) p ∙ r)
    ∙ ap (λ i. with_head i (chunks_from m file end most (next_place i))) p
    ∙ ap (with_head h) s

-- ---- all chunks
pub regroup_chunks : (front w F rest : List ℕ) → front ++ (w ++ F) ++ rest ≡ front ++ w ++ F ++ rest
regroup_chunks front w F rest = simp append_assoc refl

pub regroup_first : (front w F rest : List ℕ) → front ++ (w ++ F) ++ rest ≡ front ++ w ++ (F ++ rest)
regroup_first front w F rest = simp append_assoc refl

-- chunks in front of what is found behind them
abbrev pub in_front : List Head → Found → Found
in_front heads later = record { heads = heads ++ later.heads; fault = later.fault }

pub chunks_lead_on : (m : List ℕ → Bool) (file : List ℕ) (end : ℕ) (cs : List Chunk) (front rest : List ℕ) (most more : ℕ) →
    AllByRecursion IsChunk cs → most ≡ length cs + more → file ≡ front ++ flat_map bytes_of_chunk cs ++ rest →
    length front + length (flat_map bytes_of_chunk cs) ≤ end →
    chunks_from m file end most (length front)
    ≡ in_front (heads_from (length front) cs) (chunks_from m file end more (length front + length (flat_map bytes_of_chunk cs)))
chunks_lead_on m file end [] front rest most more all room p le =
    let same : length front ≡ length front + 0 = omega arith in
    let none : most ≡ more = omega (arith, room) in
    ap (λ n. chunks_from m file end n (length front)) none ∙ ap (chunks_from m file end more) same
chunks_lead_on m file end (c ∷ cs) front rest zero more all room p le = absurd (omega (arith, room))
chunks_lead_on m file end (c ∷ cs) front rest (suc most) more all room p le =
    let h = head_of c.id (length front) (length c.body) in
    let long = length_of_chunk c all.0 in
    let both = length-append (bytes_of_chunk c) (flat_map bytes_of_chunk cs) in
    let moved = length-append front (bytes_of_chunk c) in
    let here : head_at file (length front) ≡ h =
    ap (λ w. head_at w (length front)) (p ∙ regroup_first front (bytes_of_chunk c) (flat_map bytes_of_chunk cs) rest)
    ∙ head_of_chunk front c (flat_map bytes_of_chunk cs ++ rest) all.0 in
    let next : length (front ++ bytes_of_chunk c) ≡ next_place h = omega (arith, long, moved) in
    let later = chunks_lead_on m file end cs (front ++ bytes_of_chunk c) rest most more all.1 (omega (arith, room))
    (p ∙ regroup_chunks front (bytes_of_chunk c) (flat_map bytes_of_chunk cs) rest) (omega (arith, le, both, moved)) in
    let behind : length (front ++ bytes_of_chunk c) + length (flat_map bytes_of_chunk cs)
    ≡ length front + length (bytes_of_chunk c ++ flat_map bytes_of_chunk cs) = omega (arith, both, moved) in
    step m file end most (length front) h _ here (omega (arith, le, both, long)) (fits_whole m end h (omega (arith, le, both, long)))
    (ap (chunks_from m file end most) (sym next) ∙ later
    ∙ ap (λ i. in_front (heads_from i cs) (chunks_from m file end more (length (front ++ bytes_of_chunk c) + length (flat_map bytes_of_chunk cs)))) moved
    ∙ ap (λ i. in_front (heads_from (length front + length (bytes_of_chunk c)) cs) (chunks_from m file end more i)) behind)

-- where they end the part they are all that is found
pub chunks_are_found : (m : List ℕ → Bool) (file : List ℕ) (end : ℕ) (cs : List Chunk) (front rest : List ℕ) (most : ℕ) →
    AllByRecursion IsChunk cs → length cs ≤ most → file ≡ front ++ flat_map bytes_of_chunk cs ++ rest →
    end ≡ length front + length (flat_map bytes_of_chunk cs) →
    chunks_from m file end most (length front) ≡ record { heads = heads_from (length front) cs; fault = None }
chunks_are_found m file end cs front rest most all le p q =
    chunks_lead_on m file end cs front rest most (most - length cs) all (omega (arith, le)) p (omega (arith, q))
    ∙ ap (in_front (heads_from (length front) cs)) (found_at_end m file end (most - length cs) _ (omega (arith, q)))
    ∙ ap (λ hs. record { heads = hs; fault = None }) (append-nil (heads_from (length front) cs))

-- where they are as many as may be found and don't end it, one more is too many
pub chunk_past_the_limit : (m : List ℕ → Bool) (file : List ℕ) (end : ℕ) (cs : List Chunk) (front rest : List ℕ) (most : ℕ) →
    AllByRecursion IsChunk cs → length cs ≡ most → file ≡ front ++ flat_map bytes_of_chunk cs ++ rest →
    length front + length (flat_map bytes_of_chunk cs) < end →
    chunks_from m file end most (length front) ≡ record { heads = heads_from (length front) cs; fault = Some TooManyChunks }
chunk_past_the_limit m file end cs front rest most all e p l =
    chunks_lead_on m file end cs front rest most 0 all (omega (arith, e)) p (omega (arith, l))
    ∙ ap (in_front (heads_from (length front) cs)) (found_at_limit m file end _ l)
    ∙ ap (λ hs. record { heads = hs; fault = Some TooManyChunks }) (append-nil (heads_from (length front) cs))
