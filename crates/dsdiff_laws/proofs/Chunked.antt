-- What is found in a part of a file without a fault are chunks that the part is made of.
use Rattle.std.proofs.Common.{◌≡◌, ◌⊎◌, inl, inr, ℕ, ◌+◌, ◌-◌, ◌%◌, ◌^◌, ◌<◌, ◌≤◌, min, Bool, true, List, [], ◌∷◌, ◌++◌, length, take, drop, flat_map}
use Rattle.std.proofs.Common.{map, refl, sym, ap, ap₂, subst, ◌∙◌, arith, length-drop, take-append-drop}
use Rattle.std.proofs.lemmas.Bool.{cases_lt, cases_Bool}
use Rattle.std.proofs.lemmas.List.{length-take}
use Rattle.byteorder.specs.Endian.{big_from, big_bytes}
use Rattle.byteorder.specs.Numbers.{big_from-lt}
use Rattle.dst_spec.specs.Bits.{AreBytes}
use Rattle.dst_spec.proofs.Lists.{AreBytes-drop}
use Rattle.dsdiff_spec.specs.Bytes.{bytes_at, number_at, between}
use Rattle.dsdiff_spec.specs.Chunks.{Chunk, bytes_of_chunk, IsChunk, Head, head_at, body_place, body_end, fits, next_place, body_of}
use Rattle.dsdiff_spec.proofs.Steps.{fits_body, fits_pad}
use Rattle.dsdiff_spec.proofs.Finding.{Follow, place_behind, split_part}
use Rattle.dsdiff_spec.proofs.Tiling.{heads_from, big_from-behind}
use Rattle.dsdiff_spec.proofs.Sizes.{length-bytes_at, between-joined}
use Rattle.dsdiff_laws.proofs.NumberBytes.{bytes_again, byte_below}
use Rattle.dsdiff_laws.proofs.Composed.{IsEnding, AreChunks}

-- the chunk of a head
abbrev pub chunk_at : List ℕ → ℕ → Head → Chunk
chunk_at file end h = record { id = h.id; body = body_of file h; pad = between file (body_end h) (min (next_place h) end) }

-- ---- parts of a list
pub number_of_drop : (file : List ℕ) (place n : ℕ) → place ≤ length file → number_at file place n ≡ big_from 0 n (drop place file)
number_of_drop file place n le =
    let long : length (take place file) + 0 ≡ place = omega (arith, le, length-take place file) in
    ap (λ i. big_from i n file) (sym long)
    ∙ ap (big_from (length (take place file) + 0) n) (sym (take-append-drop place file))
    ∙ big_from-behind 0 n (take place file) (drop place file)

pub number_again : (file : List ℕ) (place n : ℕ) → AreBytes file → place + n ≤ length file → big_bytes n (number_at file place n) ≡ bytes_at file place n
number_again file place n bytes le =
    ap (big_bytes n) (number_of_drop file place n (omega (arith, le)))
    ∙ bytes_again n (drop place file) (AreBytes-drop place file bytes) (omega (arith, le, length-drop place file))

pub number_fits : (file : List ℕ) (place : ℕ) → AreBytes file → number_at file place 8 < 2 ^ 64
number_fits file place bytes = big_from-lt place 8 file (byte_below file bytes)

-- a list from one place to a second and from there to a third
-- ---- one chunk
bytes_of_chunk_at : (file : List ℕ) (end place : ℕ) → AreBytes file → (h : Head) → h ≡ head_at file place → body_end h ≤ end → end ≤ length file →
    bytes_of_chunk (chunk_at file end h) ≡ between file place (min (next_place h) end)
bytes_of_chunk_at file end place bytes h is within le =
    let at : h.place ≡ place = ap (λ (i : Head). i.place) is in
    let four : 4 ≡ place + 4 - place = omega arith in
    let eight : 8 ≡ place + 12 - (place + 4) = omega arith in
    let id : h.id ≡ between file place (place + 4) = ap (λ (i : Head). i.id) is ∙ ap (λ n. take n (drop place file)) four in
    let long : length (body_of file h) ≡ h.size = length-bytes_at file (body_place h) h.size (omega (arith, within, le)) in
    let size : big_bytes 8 (length (body_of file h)) ≡ between file (place + 4) (place + 12) =
    ap (big_bytes 8) (long ∙ ap (λ (i : Head). i.size) is) ∙ number_again file (place + 4) 8 bytes (omega (arith, within, le, at))
    ∙ ap (λ n. take n (drop (place + 4) file)) eight in
    let many : h.size ≡ body_end h - (place + 12) = omega (arith, at) in
    let body : body_of file h ≡ between file (place + 12) (body_end h) =
    ap (λ n. bytes_at file (n + 12) h.size) at ∙ ap (λ n. take n (drop (place + 12) file)) many in
    let e = min (next_place h) end in
    let behind : body_end h ≤ e = omega (arith, within) in
    rw (id, size, body) (
    ap (λ w. w ++ between file (place + 12) (body_end h) ++ between file (body_end h) e)
    (between-joined file place (place + 4) (place + 12) (omega arith) (omega arith))
    ∙ ap (λ w. w ++ between file (body_end h) e) (between-joined file place (place + 12) (body_end h) (omega arith) (omega (arith, at)))
    ∙ between-joined file place (body_end h) e (omega (arith, at)) behind)

-- it ends the part or is whole
ending_at : (m : List ℕ → Bool) (file : List ℕ) (end place : ℕ) → AreBytes file → (h : Head) → h ≡ head_at file place → fits m end h ≡ true →
    end ≤ length file →
    IsEnding m (chunk_at file end h)
ending_at m file end place bytes h is fit le =
    let at : h.place ≡ place = ap (λ (i : Head). i.place) is in
    let within = fits_body m end h fit in
    let long : length (body_of file h) ≡ h.size = length-bytes_at file (body_place h) h.size (omega (arith, within, le)) in
    let four : length h.id ≡ 4 = ap (λ (i : Head). length i.id) is ∙ length-bytes_at file place 4 (omega (arith, within, le, at)) in
    let few : h.size < 2 ^ 64 = subst (λ n. n < 2 ^ 64) (sym (ap (λ (i : Head). i.size) is)) (number_fits file (place + 4) bytes) in
    record { id = four; size = omega (arith, long, few); pad = by_pad at within long }
  where
    pad_long : body_end h ≤ end → length (between file (body_end h) (min (next_place h) end)) ≡ min (next_place h) end - body_end h
    pad_long within = length-bytes_at file (body_end h) (min (next_place h) end - body_end h) (omega (arith, within, le))

    by_pad : h.place ≡ place → body_end h ≤ end → length (body_of file h) ≡ h.size →
        (length (between file (body_end h) (min (next_place h) end)) ≡ length (body_of file h) % 2)
        ⊎ ((length (between file (body_end h) (min (next_place h) end)) ≡ 0) × (m h.id ≡ true))
    by_pad at within long = elim (cases_lt end (next_place h)) [
      | inr whole ↦ inl (let n = pad_long within in let same = ap (λ k. k % 2) long in omega (arith, n, same, whole))
      | inl lacks ↦ elim (cases_Bool (m h.id)) [
        | inl may ↦ inr (let n = pad_long within in omega (arith, n, lacks, within), may)
        | inr not ↦ absurd (let pad = fits_pad m end h not fit in omega (arith, pad, lacks))
      ]
    ]

-- one behind which another begins is whole
whole_at : (m : List ℕ → Bool) (file : List ℕ) (end place : ℕ) → AreBytes file → (h : Head) → h ≡ head_at file place → fits m end h ≡ true → end ≤ length file →
    next_place h ≤ end → IsChunk (chunk_at file end h)
whole_at m file end place bytes h is fit le whole =
    let ends = ending_at m file end place bytes h is fit le in
    let within = fits_body m end h fit in
    let long : length (body_of file h) ≡ h.size = length-bytes_at file (body_place h) h.size (omega (arith, within, le)) in
    let n : length (between file (body_end h) (min (next_place h) end)) ≡ min (next_place h) end - body_end h =
    length-bytes_at file (body_end h) (min (next_place h) end - body_end h) (omega (arith, within, le)) in
    let same = ap (λ k. k % 2) long in
    record { id = ends.id; size = ends.size; pad = omega (arith, n, same, whole) }

-- ---- all of them
pub chunks_of_heads : (m : List ℕ → Bool) (file : List ℕ) (end place : ℕ) (hs : List Head) → AreBytes file → end ≤ length file → Follow m file end place hs →
    AreChunks m (map (chunk_at file end) hs)
chunks_of_heads m file end place [] bytes le all = tt
chunks_of_heads m file end place (h ∷ []) bytes le (l, is, fit, all) = ending_at m file end place bytes h is fit le
chunks_of_heads m file end place (h ∷ i ∷ hs) bytes le (l, is, fit, all) =
    (whole_at m file end place bytes h is fit le (omega (arith, all.0)), chunks_of_heads m file end (next_place h) (i ∷ hs) bytes le all)

pub bytes_of_heads : (m : List ℕ → Bool) (file : List ℕ) (end place : ℕ) (hs : List Head) → AreBytes file → end ≤ length file → Follow m file end place hs →
    end ≤ place_behind place hs → flat_map bytes_of_chunk (map (chunk_at file end) hs) ≡ between file place end
bytes_of_heads m file end place [] bytes le all reached = let none : end - place ≡ 0 = omega (arith, reached) in rw none refl
bytes_of_heads m file end place (h ∷ hs) bytes le (l, is, fit, all) reached =
    let at : h.place ≡ place = ap (λ (i : Head). i.place) is in
    ap₂ (λ (a b : List ℕ). a ++ b) (bytes_of_chunk_at file end place bytes h is (fits_body m end h fit) le)
    (bytes_of_heads m file end (next_place h) hs bytes le all reached)
    ∙ sym (split_part file place (next_place h) end (omega (arith, at)) (omega (arith, l)))

-- their heads are those of the chunks
head_again : (m : List ℕ → Bool) (file : List ℕ) (end place : ℕ) (h : Head) → AreBytes file → end ≤ length file → h ≡ head_at file place → fits m end h ≡ true →
    record { id = h.id; place = place; size = length (body_of file h) } ≡ h
head_again m file end place h bytes le is fit =
    let at : h.place ≡ place = ap (λ (i : Head). i.place) is in
    let within = fits_body m end h fit in
    let long : length (body_of file h) ≡ h.size = length-bytes_at file (body_place h) h.size (omega (arith, within, le)) in
    ap₂ {A = ℕ} {B = ℕ} {C = Head} (λ p n. record { id = h.id; place = p; size = n }) (sym at) long

pub heads_again : (m : List ℕ → Bool) (file : List ℕ) (end place : ℕ) (hs : List Head) → AreBytes file → end ≤ length file → Follow m file end place hs →
    heads_from place (map (chunk_at file end) hs) ≡ hs
heads_again m file end place [] bytes le all = refl
heads_again m file end place (h ∷ []) bytes le (l, is, fit, all) =
    ap (λ i. i ∷ []) (head_again m file end place h bytes le is fit)
heads_again m file end place (h ∷ i ∷ hs) bytes le (l, is, fit, all) =
    let at : h.place ≡ place = ap (λ (i : Head). i.place) is in
    let within = fits_body m end h fit in
    let long : length (body_of file h) ≡ h.size = length-bytes_at file (body_place h) h.size (omega (arith, within, le)) in
    let whole : min (next_place h) end ≡ next_place h = omega (arith, all.0) in
    let n = ap length (bytes_of_chunk_at file end place bytes h is within le) in
    let next : place + length (bytes_of_chunk (chunk_at file end h)) ≡ next_place h =
    omega (arith, n, at, length-bytes_at file place (min (next_place h) end - place) (omega (arith, le, l, whole, all.0)), whole) in
    ap₂ (λ (a : Head) (b : List Head). a ∷ b) (head_again m file end place h bytes le is fit)
    (ap (λ p. heads_from p (map (chunk_at file end) (i ∷ hs))) next ∙ heads_again m file end (next_place h) (i ∷ hs) bytes le all)
