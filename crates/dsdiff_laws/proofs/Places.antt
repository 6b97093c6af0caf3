-- One chunk of a form among others: its head is found by its id, and its body stands behind that head.
use Rattle.std.proofs.Common.{◌≡◌, ℕ, zero, suc, ◌+◌, ◌*◌, ◌^◌, ◌<◌, ◌≤◌, Bool, true, false, if◌then◌else◌, List, [], ◌∷◌, ◌++◌, length, drop, get_or}
use Rattle.std.proofs.Common.{map, filter, refl, sym}
use Rattle.std.proofs.Common.{ap, ap₂, subst, ◌∙◌, arith}
use Rattle.std.specs.Prelude.{◌||◌}
use Rattle.std.specs.List.{AllByRecursion, AllZip}
use Rattle.std.proofs.lemmas.List.{get_or-drop, get_or-take}
use Rattle.std.proofs.lemmas.List.Elements.{filter-append}
use Rattle.std.proofs.lemmas.Bool.{or_parts}
use Rattle.byteorder.specs.Endian.{big_from}
use Rattle.dsdiff_spec.specs.Bytes.{number_at, ◌is◌}
use Rattle.dsdiff_spec.specs.Chunks.{Chunk, bytes_of_chunk, Head, body_place}
use Rattle.dsdiff_spec.specs.Form.{Form, whole_chunk}
use Rattle.dsdiff_spec.specs.Parts.{form_end}
use Rattle.dsdiff_spec.specs.Written.{prop_with, copied_with}
use Rattle.dsdiff_spec.proofs.Tiling.{heads_from, head_of}
use Rattle.dsdiff_laws.proofs.Standing.{Holds}
use Rattle.dsdiff_laws.proofs.Filed.{IsFile, body_bytes, file_holds}
use Rattle.dsdiff_laws.proofs.Order.{heads-append}

-- ---- heads by their ids
abbrev pub Lacks : (List ℕ → Bool) → List Chunk → Type 0
Lacks f cs = AllByRecursion (λ c. f c.id ≡ false) cs

pub lacks_parts : (f : List ℕ → Bool) (cs ds : List Chunk) → Lacks f (cs ++ ds) → Lacks f cs × Lacks f ds
lacks_parts f [] ds all = (tt, all)
lacks_parts f (c ∷ cs) ds all = let later = lacks_parts f cs ds all.1 in ((all.0, later.0), later.1)

-- ids of two kinds
pub either_lacks : (q r : List ℕ → Bool) (cs : List Chunk) → Lacks (λ id. q id || r id) cs → Lacks q cs × Lacks r cs
either_lacks q r [] all = (tt, tt)
either_lacks q r (c ∷ cs) all =
    let both = or_parts (q c.id) (r c.id) all.0 in
    let later = either_lacks q r cs all.1 in
    ((both.0, later.0), (both.1, later.1))

pub none_named : (f : List ℕ → Bool) (n : ℕ) (cs : List Chunk) → Lacks f cs → filter (λ h. f h.id) (heads_from n cs) ≡ []
none_named f n [] all = refl
none_named f n (c ∷ cs) all = let here = all.0 in rw here (none_named f (n + length (bytes_of_chunk c)) cs all.1)

abbrev pub head_behind : List Chunk → Chunk → Head
head_behind pre x = head_of x.id (16 + length (body_bytes pre)) (length x.body)

pub one_named : (f : List ℕ → Bool) (pre post : List Chunk) (x : Chunk) → Lacks f pre → f x.id ≡ true → Lacks f post →
    filter (λ h. f h.id) (heads_from 16 (pre ++ x ∷ post)) ≡ head_behind pre x ∷ []
one_named f pre post x p e q =
    let place = 16 + length (body_bytes pre) in
    let g : Head → Bool = λ h. f h.id in
    ap (filter g) (heads-append 16 pre (x ∷ post))
    ∙ filter-append g (heads_from 16 pre) (heads_from place (x ∷ post))
    ∙ ap (λ hs. hs ++ filter g (heads_from place (x ∷ post))) (none_named f 16 pre p)
    ∙ rw e (ap (λ hs. head_behind pre x ∷ hs) (none_named f (place + length (bytes_of_chunk x)) post q))

-- ---- heads and chunks side by side
pub zip_parts : (P : Head → Chunk → Type 0) (n : ℕ) (pre post : List Chunk) (hs : List Head) → AllZip P (heads_from n pre ++ hs) (pre ++ post) →
    AllZip P (heads_from n pre) pre × AllZip P hs post
zip_parts P n [] post hs all = (tt, all)
zip_parts P n (c ∷ pre) post hs all = let later = zip_parts P (n + length (bytes_of_chunk c)) pre post hs all.1 in ((all.0, later.0), later.1)

pub parts_hold : (file : List ℕ) (pre post : List Chunk) (rest : List ℕ) → IsFile file (pre ++ post) rest →
    AllZip (Holds file (form_end file)) (heads_from 16 pre) pre × AllZip (Holds file (form_end file)) (heads_from (16 + length (body_bytes pre)) post) post
parts_hold file pre post rest h =
    zip_parts (Holds file (form_end file)) 16 pre post (heads_from (16 + length (body_bytes pre)) post)
    (subst (λ hs. AllZip (Holds file (form_end file)) hs (pre ++ post)) (heads-append 16 pre post) (file_holds file (pre ++ post) rest h))

pub stands_behind : (file : List ℕ) (pre post : List Chunk) (x : Chunk) (rest : List ℕ) → IsFile file (pre ++ x ∷ post) rest →
    Holds file (form_end file) (head_behind pre x) x
stands_behind file pre post x rest h = (parts_hold file pre (x ∷ post) rest h).1.0

-- a byte of its body
pub byte_in_body : (file : List ℕ) (end : ℕ) (h : Head) (c : Chunk) (i : ℕ) → Holds file end h c → i < length c.body →
    get_or file (body_place h + i) 0 ≡ get_or c.body i 0
byte_in_body file end h c i k l =
    let there : get_or file (body_place h + i) 0 ≡ get_or (drop (body_place h) file) i 0 = sym (get_or-drop (body_place h) file i 0) in
    there ∙ sym (get_or-take h.size (drop (body_place h) file) i 0 (omega (arith, l, k.size))) ∙ ap (λ w. get_or w i 0) k.body

-- numbers within a body
pub number_inside : (file : List ℕ) (end : ℕ) (h : Head) (c : Chunk) (i n : ℕ) → Holds file end h c → i + n ≤ length c.body →
    number_at file (body_place h + i) n ≡ number_at c.body i n
number_inside file end h c i zero k le = refl
number_inside file end h c i (suc n) k le =
    let here = byte_in_body file end h c i k (omega (arith, le)) in
    let next : suc (body_place h + i) ≡ body_place h + suc i = omega arith in
    let later = ap (λ p. big_from p n file) next ∙ number_inside file end h c (suc i) n k (omega (arith, le)) in
    ap₂ (λ (a b : ℕ). a * 256 ^ n + b) here later

-- ---- chunks that are copied, with another `CMPR` in `PROP`
abbrev pub copy_of : List ℕ → Chunk → List ℕ
copy_of prop c = if c.id is "PROP" then prop else bytes_of_chunk c

pub copied_of : (cmpr file : List ℕ) (form : Form) (hs : List Head) (cs : List Chunk) → AllZip (Holds file form.end) hs cs →
    copied_with cmpr file form hs ≡ map (copy_of (prop_with form.prop cmpr)) cs
copied_of cmpr file form [] [] all = refl
copied_of cmpr file form [] (c ∷ cs) all = absurd all
copied_of cmpr file form (h ∷ hs) [] all = absurd all
copied_of cmpr file form (h ∷ hs) (c ∷ cs) all =
    ap₂ (λ (a : List ℕ) (b : List (List ℕ)). a ∷ b) (go (h.id is "PROP") (c.id is "PROP") (ap (λ w. w is "PROP") all.0.id))
    (copied_of cmpr file form hs cs all.1)
  where
    go : (a b : Bool) → a ≡ b → (if a then prop_with form.prop cmpr else whole_chunk file form h) ≡ (if b then prop_with form.prop cmpr else bytes_of_chunk c)
    go true true e = refl
    go true false e = absurd cc
    go false true e = absurd cc
    go false false e = all.0.bytes

-- of chunks without a `PROP`, and around one
pub copy_without : (prop : List ℕ) (cs : List Chunk) → Lacks (λ id. id is "PROP") cs → map (copy_of prop) cs ≡ map bytes_of_chunk cs
copy_without prop [] all = refl
copy_without prop (c ∷ cs) all = let here = all.0 in rw here (ap (λ ws. bytes_of_chunk c ∷ ws) (copy_without prop cs all.1))
