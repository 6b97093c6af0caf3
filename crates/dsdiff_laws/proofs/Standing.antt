-- Chunks that stand in a file: by its head each has its id, its size, its body and its bytes there; also of those with a name.
use Rattle.std.proofs.Common.{◌≡◌, ◌⊎◌, inl, inr, ℕ, ◌+◌, ◌-◌, ◌≤◌, Bool, true, false, if◌then◌else◌, List, [], ◌∷◌, ◌++◌, length, take, drop}
use Rattle.std.proofs.Common.{flat_map, map, filter, min, refl, sym, ap, ap₂, subst, ◌∙◌, arith, length-append, take_at, append_assoc}
use Rattle.std.specs.List.{AllZip, AllByRecursion}
use Rattle.std.proofs.lemmas.List.{drop_at}
use Rattle.byteorder.specs.Endian.{big_bytes}
use Rattle.byteorder.specs.Numbers.{length-bytes_high_first}
use Rattle.dsdiff_spec.specs.Bytes.{bytes_at, between, ◌is◌}
use Rattle.dsdiff_spec.specs.Chunks.{Chunk, bytes_of_chunk, IsChunk, Head, next_place, body_of, named}
use Rattle.dsdiff_spec.proofs.Tiling.{heads_from, head_of, regroup_chunks, regroup_first, length_of_chunk}
use Rattle.dsdiff_laws.proofs.Composed.{IsEnding, AreChunks, HasPadByte, length_of_ending, first_ends, others_are, pad_of_first}
use Prim.Native.String.{String}

pub record Holds (file : List ℕ) (end : ℕ) (h : Head) (c : Chunk) : Type 0 where
  pub id : h.id ≡ c.id
  pub size : h.size ≡ length c.body
  pub body : body_of file h ≡ c.body
  pub bytes : between file h.place (min (next_place h) end) ≡ bytes_of_chunk c

-- ---- one chunk
body_stands : (front id size body pad rest : List ℕ) → length id ≡ 4 → length size ≡ 8 →
    bytes_at (front ++ (id ++ size ++ body ++ pad) ++ rest) (length front + 12) (length body) ≡ body
body_stands front id size body pad rest p q =
    let long : length (front ++ (id ++ size)) ≡ length front + 12 = omega (arith, p, q, length-append front (id ++ size), length-append id size) in
    ap (λ w. bytes_at w (length front + 12) (length body)) regrouped
    ∙ ap (take (length body)) (drop_at (front ++ (id ++ size)) (body ++ (pad ++ rest)) (length front + 12) long)
    ∙ take_at body (pad ++ rest) (length body) refl
  where
    regrouped : front ++ (id ++ size ++ body ++ pad) ++ rest ≡ (front ++ (id ++ size)) ++ (body ++ (pad ++ rest))
    regrouped = simp append_assoc refl

pub part_stands : (front part rest : List ℕ) (end : ℕ) → end ≡ length front + length part → between (front ++ part ++ rest) (length front) end ≡ part
part_stands front part rest end e =
    let n : end - length front ≡ length part = omega (arith, e) in
    ap (λ k. take k (drop (length front) (front ++ part ++ rest))) n
    ∙ ap (λ w. take (length part) (drop (length front) w)) (append_assoc front part rest)
    ∙ ap (take (length part)) (drop_at front (part ++ rest) (length front) refl)
    ∙ take_at part rest (length part) refl

holds : (m : List ℕ → Bool) (file : List ℕ) (end : ℕ) (c : Chunk) (front rest : List ℕ) → IsEnding m c → file ≡ front ++ bytes_of_chunk c ++ rest →
    min (next_place (head_of c.id (length front) (length c.body))) end ≡ length front + length (bytes_of_chunk c) →
    Holds file end (head_of c.id (length front) (length c.body)) c
holds m file end c front rest h p q = record {
  id = refl;
  size = refl;
  body = ap (λ w. bytes_at w (length front + 12) (length c.body)) p
      ∙ body_stands front c.id (big_bytes 8 (length c.body)) c.body c.pad rest h.id (length-bytes_high_first 8 (length c.body));
  bytes = ap (λ w. between w (length front) (min (next_place (head_of c.id (length front) (length c.body))) end)) p
      ∙ part_stands front (bytes_of_chunk c) rest _ q;
}

-- ---- all of them, where each is whole or they end the part
abbrev pub Reach : ℕ → ℕ → List Chunk → Type 0
Reach place end cs =
    (AllByRecursion IsChunk cs × (place + length (flat_map bytes_of_chunk cs) ≤ end)) ⊎ (end ≡ place + length (flat_map bytes_of_chunk cs))

next_reaches : (place end : ℕ) (c : Chunk) (cs : List Chunk) → Reach place end (c ∷ cs) → Reach (place + length (bytes_of_chunk c)) end cs
next_reaches place end c cs (inl (all, le)) =
    inl (all.1, omega (arith, le, length-append (bytes_of_chunk c) (flat_map bytes_of_chunk cs)))
next_reaches place end c cs (inr e) = inr (omega (arith, e, length-append (bytes_of_chunk c) (flat_map bytes_of_chunk cs)))

end_of_first : (m : List ℕ → Bool) (place end : ℕ) (c : Chunk) (cs : List Chunk) → AreChunks m (c ∷ cs) → Reach place end (c ∷ cs) →
    min (next_place (head_of c.id place (length c.body))) end ≡ place + length (bytes_of_chunk c)
end_of_first m place end c cs all (inl (whole, le)) =
    let long = length_of_chunk c whole.0 in
    omega (arith, le, long, length-append (bytes_of_chunk c) (flat_map bytes_of_chunk cs))
end_of_first m place end c cs all (inr e) = by_pad (length_of_ending m c (first_ends m c cs all)) (pad_of_first m c cs all)
  where
    by_pad : length (bytes_of_chunk c) ≡ length c.body + 12 + length c.pad →
        HasPadByte c ⊎ ((length c.pad ≡ 0) × (m c.id ≡ true) × (length (flat_map bytes_of_chunk cs) ≡ 0)) →
        min (next_place (head_of c.id place (length c.body))) end ≡ place + length (bytes_of_chunk c)
    by_pad long (inl pad) = omega (arith, e, long, pad, length-append (bytes_of_chunk c) (flat_map bytes_of_chunk cs))
    by_pad long (inr (none, may, last)) = omega (arith, e, long, none, last, length-append (bytes_of_chunk c) (flat_map bytes_of_chunk cs))

pub all_hold : (m : List ℕ → Bool) (file : List ℕ) (end : ℕ) (cs : List Chunk) (front rest : List ℕ) → AreChunks m cs →
    file ≡ front ++ flat_map bytes_of_chunk cs ++ rest → Reach (length front) end cs →
    AllZip (Holds file end) (heads_from (length front) cs) cs
all_hold m file end [] front rest all p reach = tt
all_hold m file end (c ∷ cs) front rest all p reach =
    let moved = length-append front (bytes_of_chunk c) in
    let next = subst (λ n. Reach n end cs) (sym moved) (next_reaches (length front) end c cs reach) in (
      holds m file end c front (flat_map bytes_of_chunk cs ++ rest) (first_ends m c cs all)
          (p ∙ regroup_first front (bytes_of_chunk c) (flat_map bytes_of_chunk cs) rest) (end_of_first m (length front) end c cs all reach),
      subst (λ n. AllZip (Holds file end) (heads_from n cs) cs) moved
          (all_hold m file end cs (front ++ bytes_of_chunk c) rest (others_are m c cs all)
          (p ∙ regroup_chunks front (bytes_of_chunk c) (flat_map bytes_of_chunk cs) rest) next),
    )

-- ---- what follows for lists of them
pub copies : (file : List ℕ) (end : ℕ) (hs : List Head) (cs : List Chunk) → AllZip (Holds file end) hs cs →
    map (λ h. between file h.place (min (next_place h) end)) hs ≡ map bytes_of_chunk cs
copies file end [] [] all = refl
copies file end [] (c ∷ cs) all = absurd all
copies file end (h ∷ hs) [] all = absurd all
copies file end (h ∷ hs) (c ∷ cs) all = ap₂ (λ (a : List ℕ) (ws : List (List ℕ)). a ∷ ws) all.0.bytes (copies file end hs cs all.1)

-- those that are chosen, where the choice hangs on what both have
pub chosen_hold : (file : List ℕ) (end : ℕ) (p : Head → Bool) (q : Chunk → Bool) → ((h : Head) (c : Chunk) → Holds file end h c → p h ≡ q c) →
    (hs : List Head) (cs : List Chunk) → AllZip (Holds file end) hs cs → AllZip (Holds file end) (filter p hs) (filter q cs)
chosen_hold file end p q same [] [] all = tt
chosen_hold file end p q same [] (c ∷ cs) all = absurd all
chosen_hold file end p q same (h ∷ hs) [] all = absurd all
chosen_hold file end p q same (h ∷ hs) (c ∷ cs) all = go (p h) (q c) (same h c all.0) (chosen_hold file end p q same hs cs all.1)
  where
    go : (a b : Bool) → a ≡ b → AllZip (Holds file end) (filter p hs) (filter q cs) →
        AllZip (Holds file end) (if a then (h ∷ filter p hs) else filter p hs) (if b then (c ∷ filter q cs) else filter q cs)
    go true true e later = (all.0, later)
    go true false e later = absurd cc
    go false true e later = absurd cc
    go false false e later = later

abbrev pub chunks_named : String → List Chunk → List Chunk
chunks_named name cs = filter (λ c. c.id is name) cs

pub named_hold : (file : List ℕ) (end : ℕ) (name : String) (hs : List Head) (cs : List Chunk) → AllZip (Holds file end) hs cs →
    AllZip (Holds file end) (named name hs) (chunks_named name cs)
named_hold file end name hs cs all = chosen_hold file end (λ h. h.id is name) (λ c. c.id is name) (λ h c k. ap (λ w. w is name) k.id) hs cs all
