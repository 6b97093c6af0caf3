-- The chunks that are found tile the bytes.
use Rattle.std.proofs.Common.{◌≡◌, ℕ, zero, suc, ◌+◌, ◌-◌, ◌*◌, ◌%◌, ◌^◌, ◌<◌, ◌≤◌, false, List, [], ◌∷◌, ◌++◌, length, take, drop, get_or, map, flat_map, Some}
use Rattle.std.proofs.Common.{None, refl, sym, ap, ◌∙◌, arith, inl, inr, subst, lit<, Fits, w8, zero-add}
use Rattle.std.specs.List.{AllByRecursion}
use Rattle.std.specs.Int.{w64, from_be_bytes}
use Rattle.std.proofs.lemmas.List.{drop-drop, drop_all, append-nil, take-append-drop, get_or-drop, get_or-take, get_or_past, length-take}
use Rattle.std.proofs.lemmas.Bool.{cases_lt}
use Rattle.std.proofs.lemmas.Nat.{be_bytes_8}
use Rattle.std.proofs.Math.Seq.{take-add}
use Rattle.byteorder.specs.Endian.{big_from, big_bytes}
use Rattle.byteorder.specs.Numbers.{big_from-take, big_from-lt}
use Rattle.dsdiff_spec.specs.declared.faults.FileFault.TheVariants.{Overrun}
use Rattle.dsdiff_spec.specs.Bytes.{bytes_at}
use Rattle.dsdiff_spec.specs.Chunks.{Chunk, bytes_of_chunk, IsChunk, Tiles, Head, Found, head_at, next_place}
use Rattle.dsdiff_spec.proofs.Tiling.{chunks_are_found}
use Rattle.dsdiff_spec.proofs.Sizes.{length-bytes_at}
use Rattle.chunk_view.specs.Placed.{placed_at, placed_from, placed_in, chunks_of, AreChunksOf, IsCutAt}
use Rattle.chunk_view.proofs.Reading.{big_from-drop}
use Rattle.chunk_view.proofs.Walking.{whole_from, all_from, nothing, overrun, with_head, stops, cuts, goes, three_ways, room, plenty, same_found}

abbrev pub EachIsByte : List ℕ → Type 0
EachIsByte bytes = (i : ℕ) → get_or bytes i 0 < 256

pub each_is_byte : (bytes : List ℕ) → ((i : ℕ) → Fits w8 (get_or bytes i 0)) → EachIsByte bytes
each_is_byte bytes h = λ i. byte_of (get_or bytes i 0) (h i)
  where
    byte_of : (b : ℕ) → Fits w8 b → b < 256
    byte_of b h = omega arith

abbrev pub chunk_at : List ℕ → Head → Chunk
chunk_at bytes h = (placed_at bytes h).chunk

-- ---- one chunk
number_of_bytes : (w : List ℕ) → from_be_bytes w64 w ≡ big_from 0 8 w
number_of_bytes w = omega arith

number_is : (bytes : List ℕ) (place : ℕ) → big_from place 8 bytes ≡ big_from 0 8 (bytes_at bytes place 8)
number_is bytes place =
    sym (big_from-take 0 8 8 (drop place bytes) (omega arith)
    ∙ big_from-drop place 0 8 bytes ∙ ap (λ n. big_from n 8 bytes) (sum_zero place))
  where
    sum_zero : (n : ℕ) → n + 0 ≡ n
    sum_zero n = omega arith

bytes_below : (bytes : List ℕ) (place n i : ℕ) → EachIsByte bytes → get_or (bytes_at bytes place n) i 0 < 256
bytes_below bytes place n i each = elim (cases_lt i n) [
  | inl lt ↦ rw (get_or-take n (drop place bytes) i 0 lt, get_or-drop place bytes i 0) (each (place + i))
  | inr le ↦ rw (get_or_past (bytes_at bytes place n) i 0 (omega (arith, le, length-take n (drop place bytes)))) (lit< tt)
]

size_bytes : (bytes : List ℕ) (place : ℕ) → EachIsByte bytes → place + 8 ≤ length bytes →
    big_bytes 8 (big_from place 8 bytes) ≡ bytes_at bytes place 8
size_bytes bytes place each le =
    be_bytes_8 (bytes_at bytes place 8) (big_from place 8 bytes) (length-bytes_at bytes place 8 le) (λ i. bytes_below bytes place 8 i each)
    (number_is bytes place ∙ sym (number_of_bytes (bytes_at bytes place 8)))

-- its bytes are its parts
split_four : (a b c d : ℕ) (w : List ℕ) →
    take (a + b + c + d) w ≡ take a w ++ take b (drop a w) ++ take c (drop (a + b) w) ++ take d (drop (a + b + c) w)
split_four a b c d w =
    take-add (a + b + c) d w
    ∙ ap (λ x. x ++ take d (drop (a + b + c) w))
    (take-add (a + b) c w ∙ ap (λ x. x ++ take c (drop (a + b) w)) (take-add a b w))

moved : (a place : ℕ) (n : ℕ) (bytes : List ℕ) → take n (drop a (drop place bytes)) ≡ bytes_at bytes (place + a) n
moved a place n bytes = ap (take n) (drop-drop a place bytes)

same_four : (a a' b b' c c' d d' : List ℕ) → a ≡ a' → b ≡ b' → c ≡ c' → d ≡ d' → a ++ b ++ c ++ d ≡ a' ++ b' ++ c' ++ d'
same_four a a' b b' c c' d d' p q r s = rw (p, q, r, s) refl

chunk_bytes_by : (bytes : List ℕ) (place size : ℕ) → EachIsByte bytes → place + 12 + size + size % 2 ≤ length bytes →
    size ≡ big_from (place + 4) 8 bytes →
    bytes_at bytes place (4 + 8 + size + size % 2)
    ≡ bytes_at bytes place 4 ++ big_bytes 8 (length (bytes_at bytes (place + 12) size)) ++ bytes_at bytes (place + 12) size ++ bytes_at bytes
    (place + 12 + size) (size % 2)
chunk_bytes_by bytes place size each le e =
    split_four 4 8 size (size % 2) (drop place bytes)
    ∙ same_four (bytes_at bytes place 4) (bytes_at bytes place 4) (take 8 (drop 4 (drop place bytes))) (big_bytes 8 (length (bytes_at bytes (place + 12) size)))
    (take size (drop 12 (drop place bytes))) (bytes_at bytes (place + 12) size)
    (take (size % 2) (drop (12 + size) (drop place bytes))) (bytes_at bytes (place + 12 + size) (size % 2)) refl
    (moved 4 place 8 bytes ∙ sym (size_bytes bytes (place + 4) each (omega (arith, le)))
    ∙ ap (big_bytes 8) (sym e ∙ sym (length-bytes_at bytes (place + 12) size (omega (arith, le)))))
    (moved 12 place size bytes)
    (moved (12 + size) place (size % 2) bytes ∙ ap (λ n. bytes_at bytes n (size % 2)) (sum_is place size))
  where
    sum_is : (place size : ℕ) → place + (12 + size) ≡ place + 12 + size
    sum_is place size = omega arith

pub chunk_bytes : (bytes : List ℕ) (place : ℕ) → EachIsByte bytes → next_place (head_at bytes place) ≤ length bytes →
    bytes_at bytes place (4 + 8 + (head_at bytes place).size + (head_at bytes place).size % 2) ≡ bytes_of_chunk (chunk_at bytes (head_at bytes place))
chunk_bytes bytes place each le = chunk_bytes_by bytes place (head_at bytes place).size each le refl

sum_12 : (place size : ℕ) → place + (4 + 8 + size + size % 2) ≡ place + 12 + size + size % 2
sum_12 place size = omega arith

pub chunk_length : (bytes : List ℕ) (place : ℕ) → EachIsByte bytes → next_place (head_at bytes place) ≤ length bytes →
    place + length (bytes_of_chunk (chunk_at bytes (head_at bytes place))) ≡ next_place (head_at bytes place)
chunk_length bytes place each le =
    let h = head_at bytes place in
    ap (λ n. place + n) (sym (ap length (chunk_bytes bytes place each le))
    ∙ length-bytes_at bytes place (4 + 8 + h.size + h.size % 2) (below place h.size (length bytes) le))
    ∙ sum_12 place h.size
  where
    below : (place size n : ℕ) → place + 12 + size + size % 2 ≤ n → place + (4 + 8 + size + size % 2) ≤ n
    below place size n le = omega arith

pub chunk_is : (bytes : List ℕ) (place : ℕ) → EachIsByte bytes → next_place (head_at bytes place) ≤ length bytes →
    IsChunk (chunk_at bytes (head_at bytes place))
chunk_is bytes place each le = by_size place (head_at bytes place).size le (big_from-lt (place + 4) 8 bytes each)
  where
    by_size : (place size : ℕ) → place + 12 + size + size % 2 ≤ length bytes → size < 256 ^ 8 →
        IsChunk record { id = bytes_at bytes place 4; body = bytes_at bytes (place + 12) size; pad = bytes_at bytes (place + 12 + size) (size % 2) }
    by_size place size le small =
        let long = length-bytes_at bytes (place + 12) size (omega (arith, le)) in
        record {
          id = length-bytes_at bytes place 4 (omega (arith, le));
          size = omega (arith, long, small);
          pad = length-bytes_at bytes (place + 12 + size) (size % 2) le ∙ ap (λ n. n % 2) (sym long);
        }

-- ---- all chunks from a place on
record IsTiled (bytes : List ℕ) (place : ℕ) (heads : List Head) : Type 0 where
  all : AllByRecursion IsChunk (chunks_of (map (placed_at bytes) heads))
  same : drop place bytes ≡ flat_map bytes_of_chunk (chunks_of (map (placed_at bytes) heads))
  places : map (placed_at bytes) heads ≡ placed_from place (chunks_of (map (placed_at bytes) heads))

abbrev TiledIfWhole : List ℕ → ℕ → Found → Type 0
TiledIfWhole bytes place f = f.fault ≡ None → IsTiled bytes place f.heads

tiled_end : (bytes : List ℕ) (place : ℕ) → length bytes ≤ place → TiledIfWhole bytes place nothing
tiled_end bytes place le = λ e. record { all = tt; same = drop_all place bytes le; places = refl }

bytes_from : (bytes : List ℕ) (place n : ℕ) → drop place bytes ≡ bytes_at bytes place n ++ drop (place + n) bytes
bytes_from bytes place n = sym (take-append-drop n (drop place bytes)) ∙ ap (λ w. bytes_at bytes place n ++ w) (drop-drop n place bytes)

tiled_more : (bytes : List ℕ) (place : ℕ) (later : Found) → EachIsByte bytes → next_place (head_at bytes place) ≤ length bytes →
    TiledIfWhole bytes (next_place (head_at bytes place)) later → TiledIfWhole bytes place (with_head (head_at bytes place) later)
tiled_more bytes place later each le t = λ e.
    let h = head_at bytes place in
    let rest = t e in
    record {
      all = (chunk_is bytes place each le, rest.all);
      same =
          bytes_from bytes place (4 + 8 + h.size + h.size % 2)
          ∙ ap (λ w. w ++ drop (place + (4 + 8 + h.size + h.size % 2)) bytes) (chunk_bytes bytes place each le)
          ∙ ap (λ w. bytes_of_chunk (chunk_at bytes h) ++ w) (ap (λ n. drop n bytes) (sum_12 place h.size) ∙ rest.same);
      places =
          ap (λ ps. placed_at bytes h ∷ ps)
          (rest.places ∙ ap (λ n. placed_from n (chunks_of (map (placed_at bytes) later.heads))) (sym (chunk_length bytes place each le)));
    }

tiled_from : (bytes : List ℕ) → EachIsByte bytes → (most place : ℕ) → length bytes ≤ place + 12 * most →
    TiledIfWhole bytes place (whole_from bytes (length bytes) most place)
tiled_from bytes each zero place p =
    let le : length bytes ≤ place = omega arith in
    subst (TiledIfWhole bytes place) (sym (stops bytes (length bytes) zero place le)) (tiled_end bytes place le)
tiled_from bytes each (suc most) place p =
    let next = next_place (head_at bytes place) in
    elim (three_ways (length bytes) place next) [
      | inl le ↦ subst (TiledIfWhole bytes place) (sym (stops bytes (length bytes) (suc most) place le)) (tiled_end bytes place le)
      | inr w ↦ elim w [
        | inl cut ↦ subst (TiledIfWhole bytes place) (sym (cuts bytes (length bytes) most place cut.0 cut.1)) (λ e. absurd cc)
        | inr le ↦
            subst (TiledIfWhole bytes place) (sym (goes bytes (length bytes) most place le))
            (tiled_more bytes place (whole_from bytes (length bytes) most next) each le
            (tiled_from bytes each most next (room (length bytes) place most (head_at bytes place).size p)))
      ]
    ]

pub whole_is_tiled : (bytes : List ℕ) → EachIsByte bytes → (all_from bytes 0).fault ≡ None → AreChunksOf bytes (placed_in bytes 0)
whole_is_tiled bytes each e =
    let t = tiled_from bytes each (length bytes) 0 (plenty (length bytes) 0) e in
    record { tiles = (t.all, t.same); places = t.places }

-- ---- up to a chunk that passes the end
record IsCutFrom (bytes : List ℕ) (place cut : ℕ) : Type 0 where
  chunks : List Chunk
  all : AllByRecursion IsChunk chunks
  same : bytes_at bytes place (cut - place) ≡ flat_map bytes_of_chunk chunks
  after : place ≤ cut
  inside : cut < length bytes
  passes : length bytes < next_place (head_at bytes cut)

abbrev CutIfOverrun : List ℕ → ℕ → Found → Type 0
CutIfOverrun bytes place f = (cut : ℕ) → f.fault ≡ Some (Overrun cut) → IsCutFrom bytes place cut

cut_here : (bytes : List ℕ) (place : ℕ) → place < length bytes → length bytes < next_place (head_at bytes place) → CutIfOverrun bytes place (overrun place)
cut_here bytes place lt past cut e =
    let same : place ≡ cut = cc in
    subst (IsCutFrom bytes place) same
    (record { chunks = []; all = tt; same = ap (λ n. take n (drop place bytes)) (none place); after = omega arith; inside = lt; passes = past })
  where
    none : (n : ℕ) → n - n ≡ 0
    none n = omega arith

cut_more : (bytes : List ℕ) (place : ℕ) (later : Found) → EachIsByte bytes → next_place (head_at bytes place) ≤ length bytes →
    CutIfOverrun bytes (next_place (head_at bytes place)) later → CutIfOverrun bytes place (with_head (head_at bytes place) later)
cut_more bytes place later each le t cut e =
    let h = head_at bytes place in
    let rest = t cut e in
    record {
      chunks = chunk_at bytes h ∷ rest.chunks;
      all = (chunk_is bytes place each le, rest.all);
      same =
          ap (λ n. bytes_at bytes place n) (parts place h.size cut rest.after)
          ∙ take-add (4 + 8 + h.size + h.size % 2) (cut - next_place h) (drop place bytes)
          ∙ ap (λ w. w ++ take (cut - next_place h) (drop (4 + 8 + h.size + h.size % 2) (drop place bytes))) (chunk_bytes bytes place each le)
          ∙ ap (λ w. bytes_of_chunk (chunk_at bytes h) ++ w)
          (ap (take (cut - next_place h)) (drop-drop (4 + 8 + h.size + h.size % 2) place bytes ∙ ap (λ n. drop n bytes) (sum_12 place h.size)) ∙ rest.same);
      after = before place h.size cut rest.after;
      inside = rest.inside;
      passes = rest.passes;
    }
  where
    parts : (place size cut : ℕ) → place + 12 + size + size % 2 ≤ cut → cut - place ≡ 4 + 8 + size + size % 2 + (cut - (place + 12 + size + size % 2))
    parts place size cut le = omega arith

    before : (place size cut : ℕ) → place + 12 + size + size % 2 ≤ cut → place ≤ cut
    before place size cut le = omega arith

cut_from : (bytes : List ℕ) → EachIsByte bytes → (most place : ℕ) → length bytes ≤ place + 12 * most →
    CutIfOverrun bytes place (whole_from bytes (length bytes) most place)
cut_from bytes each zero place p =
    let le : length bytes ≤ place = omega arith in
    subst (CutIfOverrun bytes place) (sym (stops bytes (length bytes) zero place le)) (λ cut e. absurd cc)
cut_from bytes each (suc most) place p =
    let next = next_place (head_at bytes place) in
    elim (three_ways (length bytes) place next) [
      | inl le ↦ subst (CutIfOverrun bytes place) (sym (stops bytes (length bytes) (suc most) place le)) (λ cut e. absurd cc)
      | inr w ↦ elim w [
        | inl cut ↦ subst (CutIfOverrun bytes place) (sym (cuts bytes (length bytes) most place cut.0 cut.1)) (cut_here bytes place cut.0 cut.1)
        | inr le ↦
            subst (CutIfOverrun bytes place) (sym (goes bytes (length bytes) most place le))
            (cut_more bytes place (whole_from bytes (length bytes) most next) each le
            (cut_from bytes each most next (room (length bytes) place most (head_at bytes place).size p)))
      ]
    ]

pub overrun_is_cut : (bytes : List ℕ) (cut : ℕ) → EachIsByte bytes → (all_from bytes 0).fault ≡ Some (Overrun cut) → IsCutAt bytes cut
overrun_is_cut bytes cut each e =
    let c = cut_from bytes each (length bytes) 0 (plenty (length bytes) 0) cut e in
    record { before = (c.chunks, (c.all, ap (λ n. take n bytes) (sym (less_zero cut)) ∙ c.same)); inside = c.inside; passes = c.passes }
  where
    less_zero : (n : ℕ) → n - 0 ≡ n
    less_zero n = omega arith

-- what chunks tile doesn't overrun
pub overrun_is_untiled : (bytes : List ℕ) (cut : ℕ) (chunks : List Chunk) → (all_from bytes 0).fault ≡ Some (Overrun cut) → Tiles bytes chunks → ⊥
overrun_is_untiled bytes cut chunks e t =
    let whole = chunks_are_found (λ id. false) bytes (length bytes) chunks [] [] (length chunks + length bytes) t.0 (omega arith) (t.1 ∙ sym (append-nil _))
    (ap length t.1 ∙ sym (zero-add _)) in
    let same = same_found bytes (length bytes) (length bytes) (length chunks + length bytes) 0 (plenty (length bytes) 0) (omega arith) in
    let none : (all_from bytes 0).fault ≡ None = ap (λ f. f.fault) (same ∙ whole) in
    absurd cc
