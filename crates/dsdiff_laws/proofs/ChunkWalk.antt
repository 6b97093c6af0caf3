-- The walk of a coded form that has chunks one after the other in `DST `: it finds the frames among them, in order.
use Rattle.std.proofs.Common.{◌≡◌, inr, ℕ, zero, suc, ◌+◌, ◌<◌, ◌≤◌, ◌==◌, true, false, List, [], ◌∷◌, ◌++◌, length, get_or, map}
use Rattle.std.proofs.Common.{Option, None, refl, sym, ap, ap₂, subst, ◌∙◌, arith}
use Rattle.std.specs.Prelude.{nat_lt}
use Rattle.std.specs.List.{AllByRecursion, AllZip, enumerate_from}
use Rattle.std.proofs.lemmas.Bool.{le-ltb, eq-eqb}
use Rattle.dsdiff_spec.specs.Faults.{first_some}
use Rattle.dsdiff_spec.specs.Chunks.{Chunk, Head, Found, body_place, body_end, named, chunks_from}
use Rattle.dsdiff_spec.specs.Form.{Form, longest_frame}
use Rattle.dsdiff_spec.specs.Walk.{Entry, entry_of, frame_heads, frame_fault, walk_fault, entries, frame_at, in_dst}
use Rattle.dsdiff_spec.specs.Decoded.{frames_of}
use Rattle.dsdiff_spec.proofs.Tiling.{heads_from, head_of}
use Rattle.dsdiff_laws.proofs.Composed.{AreChunks, composed_is_found}
use Rattle.dsdiff_laws.proofs.Standing.{Holds, all_hold, chunks_named, named_hold}
use Rattle.dsdiff_laws.proofs.Filed.{body_bytes}

-- ---- the frames among chunks: their bodies, and their entries where the first chunk stands at a place
abbrev pub frames_among : List Chunk → List Chunk
frames_among cs = chunks_named "DSTF" cs

abbrev pub bodies_of : List Chunk → List (List ℕ)
bodies_of cs = map (λ c. c.body) cs

abbrev pub entries_among : ℕ → List Chunk → List Entry
entries_among place cs = map entry_of (named "DSTF" (heads_from place cs))

abbrev pub AreShortBodies : ℕ → List Chunk → Type 0
AreShortBodies n cs = AllByRecursion (λ c. length c.body ≤ n) cs

-- a part of a file that is such chunks, from a place on to an end
pub record HasChunks (g : List ℕ) (end place : ℕ) (cs : List Chunk) : Type 0 where
  pub front : List ℕ
  pub rest : List ℕ
  pub are : AreChunks (λ id. true) cs
  pub few : length cs ≤ 4000000
  pub bytes : g ≡ front ++ body_bytes cs ++ rest
  pub at_place : length front ≡ place
  pub ends : end ≡ place + length (body_bytes cs)

pub chunks_are_found : (g : List ℕ) (end place : ℕ) (cs : List Chunk) → HasChunks g end place cs →
    chunks_from (λ id. true) g end 4000000 place ≡ record { heads = heads_from place cs; fault = None }
chunks_are_found g end place cs w =
    ap (chunks_from (λ id. true) g end 4000000) (sym w.at_place)
    ∙ composed_is_found (λ id. true) g end cs w.front w.rest 4000000 w.are w.few w.bytes (omega (arith, w.ends, w.at_place))
    ∙ ap (λ p. record { heads = heads_from p cs; fault = None }) w.at_place

pub chunks_hold : (g : List ℕ) (end place : ℕ) (cs : List Chunk) → HasChunks g end place cs → AllZip (Holds g end) (heads_from place cs) cs
chunks_hold g end place cs w =
    subst (λ p. AllZip (Holds g end) (heads_from p cs) cs) w.at_place
    (all_hold (λ id. true) g end cs w.front w.rest w.are w.bytes (inr (omega (arith, w.ends, w.at_place))))

pub bodies_read : (g : List ℕ) (end : ℕ) (hs : List Head) (cs : List Chunk) → AllZip (Holds g end) hs cs → map (frame_at g) (map entry_of hs) ≡ bodies_of cs
bodies_read g end [] [] all = refl
bodies_read g end [] (c ∷ cs) all = absurd all
bodies_read g end (h ∷ hs) [] all = absurd all
bodies_read g end (h ∷ hs) (c ∷ cs) all = ap₂ (λ (a : List ℕ) (b : List (List ℕ)). a ∷ b) all.0.body (bodies_read g end hs cs all.1)

pub length-held : (g : List ℕ) (end : ℕ) (hs : List Head) (cs : List Chunk) → AllZip (Holds g end) hs cs → length hs ≡ length cs
length-held g end [] [] all = refl
length-held g end [] (c ∷ cs) all = absurd all
length-held g end (h ∷ hs) [] all = absurd all
length-held g end (h ∷ hs) (c ∷ cs) all = omega (arith, length-held g end hs cs all.1)

short_at : (g : List ℕ) (end n : ℕ) (hs : List Head) (cs : List Chunk) (i : ℕ) (d : Head) → AllZip (Holds g end) hs cs → AreShortBodies n cs →
    i < length hs → (get_or hs i d).size ≤ n
short_at g end n [] cs i d all short l = absurd (omega (arith, l))
short_at g end n (h ∷ hs) [] i d all short l = absurd all
short_at g end n (h ∷ hs) (c ∷ cs) zero d all short l = let size = all.0.size in omega (arith, size, short.0)
short_at g end n (h ∷ hs) (c ∷ cs) (suc i) d all short l = short_at g end n hs cs i d all.1 short.1 (omega (arith, l))

-- ---- the walk of a form
pub none_first : {A B : Type 0} (rule : ℕ × A → Option B) (xs : List A) (n : ℕ) (d : A) → ((i : ℕ) → i < length xs → rule (n + i, get_or xs i d) ≡ None) →
    first_some rule (enumerate_from n xs) ≡ None
none_first rule [] n d each = refl
none_first {A} {B} rule (x ∷ xs) n d each =
    let here : rule (n, x) ≡ None = subst (λ k. rule (k, x) ≡ None) (no_more n) (each 0 (omega arith)) in
    let later = none_first rule xs (n + 1) d (λ i l. subst (λ k. rule (k, get_or xs i d) ≡ None) (moved n i) (each (suc i) (omega (arith, l)))) in
    rw here later
  where
    no_more : (n : ℕ) → n + 0 ≡ n
    no_more n = omega arith

    moved : (n i : ℕ) → n + suc i ≡ n + 1 + i
    moved n i = omega arith

pub record FindsFrames (g : List ℕ) (form : Form) (cs : List Chunk) : Type 0 where
  pub none : walk_fault g form ≡ None
  pub entries : entries g form ≡ entries_among (body_place form.sound + 18) cs
  pub stored : frames_of g form ≡ bodies_of (frames_among cs)
  pub heads : length (frame_heads g form) ≡ form.frames

pub frames_are_found : (g : List ℕ) (form : Form) (cs : List Chunk) (n : ℕ) → AreShortBodies n (frames_among cs) → n ≤ longest_frame form →
    length (frames_among cs) ≡ form.frames → form.frames ≤ 1000000 →
    HasChunks g (body_end form.sound) (body_place form.sound + 18) cs → FindsFrames g form cs
unfolding walk_fault
frames_are_found g form cs n short fits count few w =
    let place = body_place form.sound + 18 in
    let end = body_end form.sound in
    let found = chunks_are_found g end place cs w in
    let hold = named_hold g end "DSTF" (heads_from place cs) cs (chunks_hold g end place cs w) in
    let frames = named "DSTF" (heads_from place cs) in
    let heads : frame_heads g form ≡ frames = ap (λ (f : Found). named "DSTF" f.heads) found in
    let many = length-held g end frames (frames_among cs) hold in
    let long : length (frame_heads g form) ≡ form.frames = ap length heads ∙ many ∙ count in
    let d : Head = head_of [] 0 0 in
    let rules : first_some (frame_fault form) (enumerate_from 0 (frame_heads g form)) ≡ None =
    ap (λ hs. first_some (frame_fault form) (enumerate_from 0 hs)) heads
    ∙ none_first (frame_fault form) frames 0 d (λ i l.
    let size = short_at g end n frames (frames_among cs) i d hold short l in
    let fit : nat_lt (longest_frame form) (get_or frames i d).size ≡ false = le-ltb (longest_frame form) _ (omega (arith, size, fits)) in
    let number : nat_lt 999999 (0 + i) ≡ false = le-ltb 999999 (0 + i) (omega (arith, l, many, count, few)) in
    rw (fit, number) refl) in
    let whole : (in_dst g form).fault ≡ None = ap (λ (f : Found). f.fault) found in
    let counted : (length (frame_heads g form) == form.frames) ≡ true = eq-eqb (length (frame_heads g form)) form.frames long in
    record {
      none = rw (rules, whole, counted) refl;
      entries = ap (map entry_of) heads;
      stored = ap (λ hs. map (frame_at g) (map entry_of hs)) heads ∙ bodies_read g end frames (frames_among cs) hold;
      heads = long;
    }
