-- What is read of the form that stands for a DSF file, part by part.
use Rattle.std.proofs.Common.{◌≡◌, inl, inr, ℕ, zero, suc, ◌+◌, ◌-◌, ◌*◌, ◌/◌, ◌%◌, ◌<◌, ◌≤◌, min, Bool, true, false, if◌then◌else◌, List, []}
use Rattle.std.proofs.Common.{◌∷◌, ◌++◌, length, take, drop, get_or, refl, sym, ap, ap₂, subst, ◌∙◌, arith, Option, Some, None, append_assoc}
use Rattle.std.proofs.Common.{length-append}
use Rattle.std.specs.Prelude.{◌==◌, ◌||◌}
use Rattle.std.proofs.lemmas.Bool.{eqb-true, cases_lt}
use Rattle.std.proofs.lemmas.Grind.{same_number_lists}
use Rattle.std.proofs.lemmas.List.{take_at, take-append-le, drop-append-le, drop-drop, drop_at, get_or-take, get_or-drop, get_or_append_left}
use Rattle.std.proofs.lemmas.List.{length-take, length-drop}
use Rattle.std.proofs.lemmas.List.Elements.{All-from_recursion}
use Rattle.std.proofs.lemmas.Nat.{div-add-mod'}
use Rattle.std.proofs.Math.Nat.{mul-le-mul_right, mod-lt}
use Rattle.dst_spec.specs.Sample.{IsShape}
use Rattle.dst_streams.specs.Told.{HoldsFrom}
use Rattle.dsdiff_spec.specs.Dsf.{Dsf, dsf_of, dsf_sample, rows, octets, dsdiff}
use Rattle.dsf_files.proofs.PlainBytes.{form_is_bytes}
use Rattle.dsf_files.proofs.SoundSamples.{byte_of_sound}
use Rattle.dsf_files.specs.declared.form.DsfForm.{DsfForm}
use Rattle.dsf_files.specs.Forms.{dsf_seen, is_order, IsFormOfTold}
use Rattle.dsf_files.specs.Laws.{IsPlainOfTold}
use Rattle.dsf_files.specs.Reading.{HoldsSound}
use Rattle.dsf_files.specs.Rows.{IsRowOf, HoldsRow}
use Rattle.dsf_files.specs.Standing.{front, sound, back, front_size, sound_size, back_size, plain_of}
use Rattle.dsf_files.proofs.Whole.{standing, length-front, length-sound, length-dsdiff}

-- ---- a quotient below a bound
pub quotient_below : (place k r : ℕ) → place < r * k → place / k < r
quotient_below place k r below = elim (cases_lt (place / k) r) [
  | inl l ↦ l
  | inr m ↦ absurd (let more = mul-le-mul_right k m in omega (arith, more, div-add-mod' place k))
]

pub row_there : (d : Dsf) (place n : ℕ) → n ≡ d.channels → place < octets d * d.channels → place / (4096 * n) < rows d
row_there d place n channels below =
    let enough : octets d ≤ rows d * 4096 = omega arith in
    let more = mul-le-mul_right d.channels enough in
    let same : rows d * 4096 * d.channels ≡ rows d * (4096 * n) = ap (λ c. rows d * 4096 * c) (sym channels) ∙ omega arith in
    quotient_below place (4096 * n) (rows d) (omega (arith, more, same))

-- ---- what is known of each form
small_order : (bits : ℕ) → is_order bits ≡ true → bits < 256
small_order bits h = go (bits == 1) refl
  where
    eight : (b : Bool) → (bits == 8) ≡ b → (false || b) ≡ true → bits < 256
    eight true e k = let same = eqb-true bits 8 e in omega arith
    eight false e k = absurd cc

    go : (b : Bool) → (bits == 1) ≡ b → bits < 256
    go true e = let same = eqb-true bits 1 e in omega arith
    go false e = eight (bits == 8) refl (ap (λ x. x || (bits == 8)) (sym e) ∙ h)

pub plain_of_form : (told : Option (List ℕ)) (form : DsfForm) → IsShape form.channels → is_order form.bits ≡ true → IsFormOfTold told form →
    IsPlainOfTold told form
plain_of_form None form shape order says = tt
plain_of_form (Some f) form shape order says =
    let d = says.says in
    let channels : (dsf_of f).channels ≡ form.channels.channels = ap (λ (x : Dsf). x.channels) d in
    let bits : (dsf_of f).bits ≡ form.bits = ap (λ (x : Dsf). x.bits) d in
    record {
      long = length-dsdiff f (dsf_seen form) d shape.least shape.most;
      bytes = All-from_recursion (λ b. b < 256) (dsdiff f)
          (form_is_bytes f (subst (λ c. 1 ≤ c) (sym channels) shape.least) (subst (λ c. c ≤ 6) (sym channels) shape.most)
          (subst (λ b. b < 256) (sym bits) (small_order form.bits order)));
    }

-- ---- a row that is held
pub front_of_row : (f : List ℕ) (form : DsfForm) (number n : ℕ) (row more : List ℕ) → dsf_of f ≡ dsf_seen form → n ≡ form.channels.channels →
    length row ≡ 4096 * n →
    IsRowOf f number row → IsRowOf f number (row ++ more)
front_of_row f form number n row more says channels long held c j below small within =
    let mine : c < n = subst (λ m. c < m) (ap (λ (x : Dsf). x.channels) says ∙ sym channels) below in
    get_or_append_left row more 0 (4096 * c + j) (omega (arith, long, mine)) ∙ held c j below small within

pub holds_read : (told : Option (List ℕ)) (form : DsfForm) (number : ℕ) (row : List ℕ) → IsFormOfTold told form →
    ((f : List ℕ) → told ≡ Some f → dsf_of f ≡ dsf_seen form → IsRowOf f number row) → HoldsRow (Some number) told row
holds_read None form number row says read = tt
holds_read (Some f) form number row says read = read f refl says.says

-- the sound in it
index_in_row : (q c : ℕ) → 1 ≤ c → q < 4096 * c → (q % c < c) × (q / c < 4096) × (q / c * c + q % c ≡ q)
index_in_row q c some below = (mod-lt q some, quotient_below q c 4096 below, div-add-mod' q c)

sound_at : (f : List ℕ) (d : Dsf) (place number first k : ℕ) → 1 ≤ d.channels → number ≡ place / (4096 * d.channels) → first ≡ place % (4096 * d.channels) →
    first + k < 4096 * d.channels → place + k < octets d * d.channels →
    (4096 * number + (first + k) / d.channels < octets d)
    × ((4096 * number + (first + k) / d.channels) * d.channels + (first + k) % d.channels ≡ place + k)
sound_at f d place number first k some at begins inside within =
    let c = d.channels in
    let q = first + k in
    let parts = index_in_row q c some inside in
    let whole : place ≡ number * (4096 * c) + first = sym (div-add-mod' place (4096 * c)) ∙ ap₂ (λ a b. a * (4096 * c) + b) (sym at) (sym begins) in
    let there : (4096 * number + q / c) * c + q % c ≡ place + k = omega (arith, whole, parts.2) in
    let below : 4096 * number + q / c < octets d = elim (cases_lt (4096 * number + q / c) (octets d)) [
      | inl l ↦ l
      | inr m ↦ absurd (let more = mul-le-mul_right c m in omega (arith, more, there, within))
    ] in
    (below, there)

sound_in_row : (f : List ℕ) (d : Dsf) (row out : List ℕ) (place number first count : ℕ) → dsf_of f ≡ d → 1 ≤ d.channels →
    number ≡ place / (4096 * d.channels) → first ≡ place % (4096 * d.channels) → first + count ≤ 4096 * d.channels → place + count ≤ octets d * d.channels →
    IsRowOf f number row → length out ≡ count →
    ((k : ℕ) → k < count → get_or out k 0 ≡ get_or (take (4096 * d.channels) row) (4096 * ((first + k) % d.channels) + (first + k) / d.channels) 0) →
    out ≡ take count (drop place (sound f d))
sound_in_row f d row out place number first count says some at begins inside within held long copied =
    let all = sound f d in
    let size : length all ≡ octets d * d.channels = length-sound f d in
    same_number_lists out (take count (drop place all)) (omega (arith, long, length-take count (drop place all), length-drop place all, size))
    (λ k l.
    let below : k < count = omega (arith, l, long) in
    let q = first + k in
    let parts = index_in_row q d.channels some (omega arith) in
    let there = sound_at f d place number first k some at begins (omega arith) (omega arith) in
    let i = 4096 * number + q / d.channels in
    let mine : q % d.channels < (dsf_of f).channels = subst (λ (x : Dsf). q % d.channels < x.channels) (sym says) parts.0 in
    let enough : i < octets (dsf_of f) = subst (λ (x : Dsf). i < octets x) (sym says) there.0 in
    copied k below
    ∙ get_or-take (4096 * d.channels) row (4096 * (q % d.channels) + q / d.channels) 0 (omega (arith, parts.0, parts.1))
    ∙ held (q % d.channels) (q / d.channels) mine parts.1 enough
    ∙ sym (byte_of_sound (dsf_sample f) d.channels (octets d) (q % d.channels) i parts.0 there.0)
    ∙ ap (λ p. get_or all p 0) there.1
    ∙ sym (get_or-drop place all k 0)
    ∙ sym (get_or-take count (drop place all) k 0 below))

pub holds_sound : (told : Option (List ℕ)) (form : DsfForm) (row out more : List ℕ) (place number first count n : ℕ) → IsFormOfTold told form →
    IsShape form.channels →
    n ≡ form.channels.channels → number ≡ place / (4096 * n) → first ≡ place % (4096 * n) → first + count ≤ 4096 * n →
    place + count ≤ sound_size (dsf_seen form) → HoldsRow (Some number) told row → length out ≡ count →
    ((k : ℕ) → k < count → get_or out k 0 ≡ get_or (take (4096 * n) row) (4096 * ((first + k) % n) + (first + k) / n) 0) →
    HoldsSound told form place count (out ++ more)
holds_sound None form row out more place number first count n says shape channels at begins inside within held long copied = tt
holds_sound (Some f) form row out more place number first count n says shape channels at begins inside within held long copied =
    take_at out more count long
    ∙ sound_in_row f (dsf_seen form) row out place number first count says.says shape.least
    (at ∙ ap (λ c. place / (4096 * c)) channels) (begins
    ∙ ap (λ c. place % (4096 * c)) channels) (subst (λ c. first + count ≤ 4096 * c) channels inside) within held long
    (subst (λ c. (k : ℕ) → k < count → get_or out k 0 ≡ get_or (take (4096 * c) row) (4096 * ((first + k) % c) + (first + k) / c) 0) channels copied)

-- ---- the three parts
part_of_front : (a b c : List ℕ) (place n : ℕ) → place + n ≤ length a → take n (drop place (a ++ b ++ c)) ≡ take n (drop place a)
part_of_front a b c place n within =
    ap (λ w. take n (drop place w)) (append_assoc a b c)
    ∙ ap (take n) (drop-append-le place a (b ++ c) (omega arith))
    ∙ take-append-le n (drop place a) (b ++ c) (omega (arith, length-drop place a))

part_of_middle : (a b c : List ℕ) (size place n : ℕ) → length a ≡ size → place + n ≤ length b →
    take n (drop (size + place) (a ++ b ++ c)) ≡ take n (drop place b)
part_of_middle a b c size place n long within =
    ap (λ w. take n (drop (size + place) w)) (append_assoc a b c)
    ∙ ap (take n) (sym (drop-drop place size (a ++ (b ++ c))) ∙ ap (drop place) (drop_at a (b ++ c) size long) ∙ drop-append-le place b c (omega arith))
    ∙ take-append-le n (drop place b) c (omega (arith, length-drop place b))

part_of_end : (a b c : List ℕ) (size place n : ℕ) → length (a ++ b) ≡ size → take n (drop (size + place) (a ++ b ++ c)) ≡ take n (drop place c)
part_of_end a b c size place n long =
    ap (take n) (sym (drop-drop place size (a ++ b ++ c)) ∙ ap (drop place) (drop_at (a ++ b) c size long))

pub in_front : (told : Option (List ℕ)) (form : DsfForm) (piece out : List ℕ) (place n : ℕ) → IsFormOfTold told form → IsShape form.channels →
    piece ≡ front (dsf_seen form) → place + n ≤ front_size (dsf_seen form) → take n out ≡ take n (drop place piece) →
    HoldsFrom (plain_of told) place n out
in_front None form piece out place n says shape is_front within copied = tt
in_front (Some f) form piece out place n says shape is_front within copied =
    let d = dsf_seen form in
    copied
    ∙ ap (λ w. take n (drop place w)) is_front
    ∙ sym (part_of_front (front d) (sound f d) (back d) place n (omega (arith, length-front d shape.least shape.most)))
    ∙ ap (λ w. take n (drop place w)) (sym (standing f d says.says shape.least shape.most))

pub in_sound : (told : Option (List ℕ)) (form : DsfForm) (out : List ℕ) (place n : ℕ) → IsFormOfTold told form → IsShape form.channels →
    front_size (dsf_seen form) ≤ place → place - front_size (dsf_seen form) + n ≤ sound_size (dsf_seen form) →
    HoldsSound told form (place - front_size (dsf_seen form)) n out → HoldsFrom (plain_of told) place n out
in_sound None form out place n says shape behind within held = tt
in_sound (Some f) form out place n says shape behind within held =
    let d = dsf_seen form in
    let there : front_size d + (place - front_size d) ≡ place = omega arith in
    held
    ∙ sym (part_of_middle (front d) (sound f d) (back d) (front_size d) (place - front_size d) n (length-front d shape.least shape.most)
    (omega (arith, length-sound f d)))
    ∙ ap₂ (λ p w. take n (drop p w)) there (sym (standing f d says.says shape.least shape.most))

pub in_back : (told : Option (List ℕ)) (form : DsfForm) (piece out : List ℕ) (place n : ℕ) → IsFormOfTold told form → IsShape form.channels →
    piece ≡ back (dsf_seen form) → front_size (dsf_seen form) + sound_size (dsf_seen form) ≤ place →
    n ≤ back_size (dsf_seen form) - min (place - front_size (dsf_seen form) - sound_size (dsf_seen form)) (back_size (dsf_seen form)) →
    take n out ≡ take n (drop (min (place - front_size (dsf_seen form) - sound_size (dsf_seen form)) (back_size (dsf_seen form))) piece) →
    HoldsFrom (plain_of told) place n out
in_back None form piece out place n says shape is_back behind within copied = tt
in_back (Some f) form piece out place n says shape is_back behind within copied =
    let d = dsf_seen form in
    let p = place - front_size d - sound_size d in
    let there : front_size d + sound_size d + p ≡ place = omega arith in
    let size : length (front d ++ sound f d) ≡ front_size d + sound_size d =
    omega (arith, length-append (front d) (sound f d), length-front d shape.least shape.most, length-sound f d) in
    copied
    ∙ cut (back d) piece p n (back_size d) is_back within
    ∙ sym (part_of_end (front d) (sound f d) (back d) (front_size d + sound_size d) p n size)
    ∙ ap₂ (λ i w. take n (drop i w)) there (sym (standing f d says.says shape.least shape.most))
  where
    cut : (b piece : List ℕ) (p n size : ℕ) → piece ≡ b → n ≤ size - min p size → take n (drop (min p size) piece) ≡ take n (drop p b)
    cut b piece p n size e fits = elim (cases_lt p size) [
      | inl l ↦ let same : min p size ≡ p = omega arith in ap₂ (λ i w. take n (drop i w)) same e
      | inr m ↦ let none : n ≡ 0 = omega arith in ap (λ i. take i (drop (min p size) piece)) none ∙ ap (λ i. take i (drop p b)) (sym none)
    ]

-- the pad byte of an odd size
pub pad_by_size : (n : ℕ) → take {A = ℕ} (n % 2) (0 ∷ []) ≡ (if n % 2 == 1 then 0 ∷ [] else [])
pad_by_size n = go (n % 2) (omega arith)
  where
    go : (k : ℕ) → k < 2 → take {A = ℕ} k (0 ∷ []) ≡ (if k == 1 then 0 ∷ [] else [])
    go zero l = refl
    go (suc zero) l = refl
    go (suc (suc k)) l = absurd (omega (arith, l))

pub same_place : (place a b c a' b' c' : ℕ) → a ≡ a' → b ≡ b' → c ≡ c' → min (place - a - b) c ≡ min (place - a' - b') c'
same_place place a b c a' b' c' p q r = omega arith
