-- The entries that are written in `DSTI` are read back.
use Rattle.std.proofs.Common.{◌≡◌, ℕ, zero, suc, ◌+◌, ◌*◌, ◌^◌, ◌<◌, ◌≤◌, ◌==◌, Bool, true, false, if◌then◌else◌, List, [], ◌∷◌, ◌++◌, length}
use Rattle.std.proofs.Common.{flat_map, map, None, refl, sym, ap, ap₂}
use Rattle.std.proofs.Common.{◌∙◌, arith, length-append, append_assoc, append-nil, Option}
use Rattle.std.specs.Prelude.{not}
use Rattle.std.specs.List.{AllByRecursion, enumerate_from}
use Rattle.std.proofs.lemmas.Bool.{eq-eqb}
use Rattle.byteorder.specs.Endian.{big_from, big_bytes}
use Rattle.byteorder.specs.Numbers.{big_number-reads_back, length-bytes_high_first}
use Rattle.dsdiff_spec.specs.Bytes.{number_at, ◌is◌}
use Rattle.dsdiff_spec.specs.Faults.{◌when◌, first_some}
use Rattle.dsdiff_spec.specs.Chunks.{Chunk, bytes_of_chunk, Head, body_place, named, the_first}
use Rattle.dsdiff_spec.specs.Form.{Form}
use Rattle.dsdiff_spec.specs.Walk.{Entry, entry_of, entry, entries, index_heads, index_head, indexed, has_index_of, same_entry, compare_fault}
use Rattle.dsdiff_spec.specs.declared.faults.FileFault.{FileFault}
use Rattle.dsdiff_spec.specs.declared.faults.FileFault.TheVariants.{IndexBad}
use Rattle.dsdiff_spec.proofs.Tiling.{heads_from, head_of, big_from-behind}
use Rattle.dsdiff_spec.proofs.ByteLists.{entry_bytes, length-index}
use Rattle.dsdiff_laws.proofs.Standing.{Holds}
use Rattle.dsdiff_laws.proofs.CodedChunks.{dsti_chunk}
use Rattle.dsdiff_laws.proofs.Places.{number_inside}
use Rattle.dsdiff_laws.proofs.Composed.{AreChunks, first_ends, others_are, length_of_ending}
use Rattle.dsdiff_laws.proofs.Filed.{body_bytes}
use Rattle.dsdiff_laws.proofs.ChunkWalk.{none_first, frames_among, entries_among, AreShortBodies}

abbrev pub AreNumbers : List Entry → Type 0
AreNumbers = AllByRecursion (λ e. (e.offset < 2 ^ 64) × (e.size < 2 ^ 32))

nowhere : Entry
nowhere = record { offset = 0; size = 0 }

-- entry k of the bytes
offset_at : (es : List Entry) (k : ℕ) (rest : List ℕ) → AreNumbers es → k < length es →
    number_at (flat_map entry_bytes es ++ rest) (12 * k) 8 ≡ (entry es k).offset
offset_at [] k rest all l = absurd (omega (arith, l))
offset_at (e ∷ es) zero rest all l =
    ap (big_from 0 8) (regroup (big_bytes 8 e.offset) (big_bytes 4 e.size) (flat_map entry_bytes es) rest)
    ∙ big_number-reads_back 8 e.offset (big_bytes 4 e.size ++ (flat_map entry_bytes es ++ rest)) all.0.0
  where
    regroup : (a b c d : List ℕ) → (a ++ b) ++ c ++ d ≡ a ++ (b ++ (c ++ d))
    regroup a b c d = simp append_assoc refl
offset_at (e ∷ es) (suc k) rest all l =
    let twelve : length (entry_bytes e) ≡ 12 = omega (
      arith,
      length-append (big_bytes 8 e.offset) (big_bytes 4 e.size),
      length-bytes_high_first 8 e.offset,
      length-bytes_high_first 4 e.size,
    ) in
    let moved : 12 * suc k ≡ length (entry_bytes e) + 12 * k = omega (arith, twelve) in
    ap (λ w. big_from (12 * suc k) 8 w) (append_assoc (entry_bytes e) (flat_map entry_bytes es) rest)
    ∙ ap (λ i. big_from i 8 (entry_bytes e ++ (flat_map entry_bytes es ++ rest))) moved
    ∙ big_from-behind (12 * k) 8 (entry_bytes e) (flat_map entry_bytes es ++ rest)
    ∙ offset_at es k rest all.1 (omega (arith, l))

size_at : (es : List Entry) (k : ℕ) (rest : List ℕ) → AreNumbers es → k < length es →
    number_at (flat_map entry_bytes es ++ rest) (12 * k + 8) 4 ≡ (entry es k).size
size_at [] k rest all l = absurd (omega (arith, l))
size_at (e ∷ es) zero rest all l =
    let eight : 8 ≡ length (big_bytes 8 e.offset) + 0 = omega (arith, length-bytes_high_first 8 e.offset) in
    ap (big_from 8 4) (regroup (big_bytes 8 e.offset) (big_bytes 4 e.size) (flat_map entry_bytes es) rest)
    ∙ ap (λ i. big_from i 4 (big_bytes 8 e.offset ++ (big_bytes 4 e.size ++ (flat_map entry_bytes es ++ rest)))) eight
    ∙ big_from-behind 0 4 (big_bytes 8 e.offset) (big_bytes 4 e.size ++ (flat_map entry_bytes es ++ rest))
    ∙ big_number-reads_back 4 e.size (flat_map entry_bytes es ++ rest) all.0.1
  where
    regroup : (a b c d : List ℕ) → (a ++ b) ++ c ++ d ≡ a ++ (b ++ (c ++ d))
    regroup a b c d = simp append_assoc refl
size_at (e ∷ es) (suc k) rest all l =
    let twelve : length (entry_bytes e) ≡ 12 = omega (
      arith,
      length-append (big_bytes 8 e.offset) (big_bytes 4 e.size),
      length-bytes_high_first 8 e.offset,
      length-bytes_high_first 4 e.size,
    ) in
    let moved : 12 * suc k + 8 ≡ length (entry_bytes e) + (12 * k + 8) = omega (arith, twelve) in
    ap (λ w. big_from (12 * suc k + 8) 4 w) (append_assoc (entry_bytes e) (flat_map entry_bytes es) rest)
    ∙ ap (λ i. big_from i 4 (entry_bytes e ++ (flat_map entry_bytes es ++ rest))) moved
    ∙ big_from-behind (12 * k + 8) 4 (entry_bytes e) (flat_map entry_bytes es ++ rest)
    ∙ size_at es k rest all.1 (omega (arith, l))

-- ---- the index of a form that has these entries in its one `DSTI`
pub record HasIndex (g : List ℕ) (form : Form) (es : List Entry) : Type 0 where
  pub head : Head
  pub end : ℕ
  pub one : index_heads form ≡ head ∷ []
  pub holds : Holds g end head (dsti_chunk es)
  pub numbers : AreNumbers es
  pub count : length es ≡ form.frames

indexed_is : (g : List ℕ) (form : Form) (es : List Entry) (h : HasIndex g form es) (k : ℕ) → k < length es → indexed g form k ≡ entry es k
indexed_is g form es h k l =
    let first : index_head form ≡ h.head = ap the_first h.one in
    let long = length-index es in
    let alone : flat_map entry_bytes es ≡ flat_map entry_bytes es ++ [] = sym (append-nil (flat_map entry_bytes es)) in
    let offset : number_at g (body_place (index_head form) + 12 * k) 8 ≡ (entry es k).offset =
    ap (λ (i : Head). number_at g (body_place i + 12 * k) 8) first
    ∙ number_inside g h.end h.head (dsti_chunk es) (12 * k) 8 h.holds (omega (arith, long, l))
    ∙ ap (λ w. number_at w (12 * k) 8) alone ∙ offset_at es k [] h.numbers l in
    let near : body_place (index_head form) + 12 * k + 8 ≡ body_place h.head + (12 * k + 8) = omega (arith, ap body_place first) in
    let size : number_at g (body_place (index_head form) + 12 * k + 8) 4 ≡ (entry es k).size =
    ap (λ i. number_at g i 4) near
    ∙ number_inside g h.end h.head (dsti_chunk es) (12 * k + 8) 4 h.holds (omega (arith, long, l))
    ∙ ap (λ w. number_at w (12 * k + 8) 4) alone ∙ size_at es k [] h.numbers l in
    ap₂ {A = ℕ} {B = ℕ} {C = Entry} (λ a b. record { offset = a; size = b }) offset size

pub index_is_walk : (g : List ℕ) (form : Form) (es : List Entry) → HasIndex g form es → entries g form ≡ es → compare_fault g form ≡ None
index_is_walk g form es h walked =
    let first : index_head form ≡ h.head = ap the_first h.one in
    let sized : has_index_of form form.frames ≡ true =
    eq-eqb (index_head form).size (12 * form.frames) (ap (λ (i : Head). i.size) first ∙ h.holds.size ∙ length-index es ∙ ap (λ n. 12 * n) h.count) in
    let rule : ℕ × Entry → Option FileFault = λ e. IndexBad e.0 when not (same_entry (indexed g form e.0) e.1) in
    let rules : first_some rule (enumerate_from 0 (entries g form)) ≡ None =
    ap (λ xs. first_some rule (enumerate_from 0 xs)) walked
    ∙ none_first rule es 0 (record { offset = 0; size = 0 }) (λ i l.
    let zero_more : 0 + i ≡ i = omega arith in
    let e : indexed g form (0 + i) ≡ entry es i = ap (indexed g form) zero_more ∙ indexed_is g form es h i l in
    let offset : ((indexed g form (0 + i)).offset == (entry es i).offset) ≡ true = eq-eqb _ _ (ap (λ (x : Entry). x.offset) e) in
    let size : ((indexed g form (0 + i)).size == (entry es i).size) ≡ true = eq-eqb _ _ (ap (λ (x : Entry). x.size) e) in
    rw (offset, size) refl) in
    rw sized rules

-- ---- entries of frames among chunks are numbers of eight and of four bytes
pub entries_among_are_numbers : (place most n : ℕ) (cs : List Chunk) → AreChunks (λ id. true) cs → AreShortBodies n (frames_among cs) → n < 2 ^ 32 →
    place + length (body_bytes cs) ≤ most → most < 2 ^ 63 → AreNumbers (entries_among place cs)
entries_among_are_numbers place most n [] are short small p q = tt
entries_among_are_numbers place most n (c ∷ cs) are short small p q =
    let long = length_of_ending (λ id. true) c (first_ends (λ id. true) c cs are) in
    let both = length-append (bytes_of_chunk c) (body_bytes cs) in
    go (c.id is "DSTF") (omega (arith, p, q, long, both)) short
    (λ later. entries_among_are_numbers (place + length (bytes_of_chunk c)) most n cs (others_are (λ id. true) c cs are) later small
    (omega (arith, p, both)) q)
  where
    go : (b : Bool) → place + 12 < 2 ^ 64 → AreShortBodies n (if b then c ∷ frames_among cs else frames_among cs) →
        (AreShortBodies n (frames_among cs) → AreNumbers (map entry_of (named "DSTF" (heads_from (place + length (bytes_of_chunk c)) cs)))) →
        AreNumbers (map entry_of (if b then head_of c.id place (length c.body) ∷ named "DSTF" (heads_from (place + length (bytes_of_chunk c)) cs)
        else named "DSTF" (heads_from (place + length (bytes_of_chunk c)) cs)))
    go true l all later = let here = all.0 in ((l, omega (arith, here, small)), later all.1)
    go false l all later = later all
