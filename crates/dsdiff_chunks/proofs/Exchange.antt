-- `PROP` with another `CMPR`, as its parts.
use Rattle.std.proofs.Common.{◌≡◌, ℕ, ◌+◌, ◌-◌, ◌%◌, ◌≤◌, true, List, [], ◌∷◌, ◌++◌, length, take, drop, refl, sym, ap, ◌∙◌, arith, append_assoc}
use Rattle.std.specs.Prelude.{◌==◌, codes, if◌then◌else◌}
use Rattle.std.proofs.lemmas.Bool.{and_parts, eqb-true}
use Rattle.std.proofs.lemmas.List.{append-nil, length-append, length-drop, length-take, take_all}
use Rattle.byteorder.specs.Endian.{big_bytes}
use Rattle.dsdiff_spec.specs.Bytes.{between, number_at}
use Rattle.dsdiff_spec.specs.Chunks.{next_place}
use Rattle.dsdiff_spec.specs.Origin.{is_one_chunk}
use Rattle.dsdiff_spec.specs.Parts.{in_prop, local, cmpr_head}
use Rattle.dsdiff_spec.specs.Written.{prop_with}
use Rattle.dsdiff_spec.proofs.Sizes.{between-joined}
use Rattle.dsdiff_spec.proofs.Finding.{the_only}
use Rattle.dsdiff_chunks.specs.Lawful.{IsPropBody}
use Rattle.dsdiff_chunks.proofs.Accepted.{is_whole}
use Rattle.dsdiff_chunks.proofs.Chained.{are_chained, exchanged, is_even, IsExchanged, one_exchanged}

-- its `CMPR` chunk
pub its_cmpr : (prop : List ℕ) → IsPropBody prop → local "CMPR" prop ≡ cmpr_head prop ∷ []
its_cmpr prop h = the_only (local "CMPR" prop) (is_whole 0 prop h.rules).one

pub is_exchanged : (prop cmpr : List ℕ) → IsPropBody prop → IsExchanged prop cmpr 4 (cmpr_head prop) (exchanged prop cmpr (in_prop prop).heads)
is_exchanged prop cmpr h =
    let whole = is_whole 0 prop h.rules in
    one_exchanged prop cmpr 4 (cmpr_head prop) (in_prop prop).heads (are_chained prop (length prop) 65536 4 whole.short whole.found) (its_cmpr prop h)

pub is_even_prop : (prop : List ℕ) → IsPropBody prop → length prop % 2 ≡ 0
is_even_prop prop h =
    let whole = is_whole 0 prop h.rules in
    is_even (length prop) 4 (in_prop prop).heads (are_chained prop (length prop) 65536 4 whole.short whole.found) refl

pub is_even_chunk : (cmpr : List ℕ) → is_one_chunk "CMPR" cmpr ≡ true → length cmpr % 2 ≡ 0
is_even_chunk cmpr e =
    let size = number_at cmpr 4 8 in
    let long : length cmpr ≡ 12 + number_at cmpr 4 8 + number_at cmpr 4 8 % 2 = eqb-true _ _ ((and_parts _ _ e).1) in
    even (number_at cmpr 4 8) (length cmpr) long
  where
    even : (n k : ℕ) → k ≡ 12 + n + n % 2 → k % 2 ≡ 0
    even n k e = omega arith

-- the new body, and its length
abbrev pub body_with : List ℕ → List ℕ → List ℕ
body_with prop cmpr = take (cmpr_head prop).place prop ++ (cmpr ++ drop (next_place (cmpr_head prop)) prop)

abbrev pub size_with : List ℕ → List ℕ → ℕ
size_with prop cmpr = length prop - (next_place (cmpr_head prop) - (cmpr_head prop).place) + length cmpr

body_is : (prop cmpr : List ℕ) → IsPropBody prop → codes "SND " ++ exchanged prop cmpr (in_prop prop).heads ≡ body_with prop cmpr
body_is prop cmpr h =
    let x = is_exchanged prop cmpr h in
    let c = cmpr_head prop in
    let rest = cmpr ++ drop (next_place c) prop in
    let four : 0 ≤ 4 = omega arith in
    let all : c.place - 0 ≡ c.place = omega arith in
    ap (λ w. codes "SND " ++ w) x.whole
    ∙ sym (append_assoc (codes "SND ") (between prop 4 c.place) rest)
    ∙ ap (λ w. w ++ between prop 4 c.place ++ rest) (sym (is_whole 0 prop h.rules).type)
    ∙ ap (λ w. w ++ rest) (between-joined prop 0 4 c.place four x.from)
    ∙ ap (λ n. take n prop ++ rest) all

length_is : (prop cmpr : List ℕ) → IsPropBody prop → length (body_with prop cmpr) ≡ size_with prop cmpr
length_is prop cmpr h =
    let x = is_exchanged prop cmpr h in
    let c = cmpr_head prop in
    let from : 4 ≤ c.place = x.from in
    let inside : next_place c ≤ length prop = x.inside in
    let a = length-append (take c.place prop) (cmpr ++ drop (next_place c) prop) in
    let b = length-append cmpr (drop (next_place c) prop) in
    omega (arith, a, b, length-take c.place prop, length-drop (next_place c) prop)

even_size : (n place size cmpr : ℕ) → place + 12 + size + size % 2 ≤ n → n % 2 ≡ 0 → cmpr % 2 ≡ 0 →
    (n - (place + 12 + size + size % 2 - place) + cmpr) % 2 ≡ 0
even_size n place size cmpr inside p q = omega arith

abbrev padded : List ℕ → ℕ → List ℕ
padded body odd = codes "PROP" ++ big_bytes 8 (length body) ++ body ++ (if odd == 1 then 0 ∷ [] else [])

pub prop_with_is : (prop cmpr : List ℕ) → IsPropBody prop → is_one_chunk "CMPR" cmpr ≡ true →
    prop_with prop cmpr ≡ (codes "PROP" ++ big_bytes 8 (size_with prop cmpr)) ++ body_with prop cmpr
prop_with_is prop cmpr h one =
    let c = cmpr_head prop in
    let body = body_with prop cmpr in
    let even : length body % 2 ≡ 0 =
    ap (λ n. n % 2) (length_is prop cmpr h)
    ∙ even_size (length prop) c.place c.size (length cmpr) (is_exchanged prop cmpr h).inside (is_even_prop prop h) (is_even_chunk cmpr one) in
    ap (λ w. padded w (length w % 2)) (body_is prop cmpr h)
    ∙ ap (λ odd. padded body odd) even
    ∙ append-nil (codes "PROP" ++ big_bytes 8 (length body) ++ body)
    ∙ ap (λ n. codes "PROP" ++ big_bytes 8 n ++ body) (length_is prop cmpr h)

-- the pieces that are appended
pub pieces_are : (prop cmpr : List ℕ) (place end : ℕ) (head : List ℕ) → IsPropBody prop → is_one_chunk "CMPR" cmpr ≡ true →
    place ≡ (cmpr_head prop).place → end ≡ next_place (cmpr_head prop) →
    head ≡ codes "PROP" ++ big_bytes 8 (length prop - (end - place) + length cmpr) →
    head ++ (take place prop ++ (cmpr ++ (take (length prop - end) (drop end prop) ++ []))) ≡ prop_with prop cmpr
pieces_are prop cmpr place end head h one p q e =
    let whole : take (length prop - end) (drop end prop) ≡ drop end prop = take_all (length prop - end) (drop end prop) (omega (arith, length-drop end prop)) in
    ap (λ w. w ++ (take place prop ++ (cmpr ++ (take (length prop - end) (drop end prop) ++ [])))) e
    ∙ ap (λ w. (codes "PROP" ++ big_bytes 8 (length prop - (end - place) + length cmpr)) ++ (take place prop ++ (cmpr ++ w))) (append-nil _ ∙ whole)
    ∙ ap (λ n. (codes "PROP" ++ big_bytes 8 (length prop - (end - n) + length cmpr)) ++ (take n prop ++ (cmpr ++ drop end prop))) p
    ∙ ap (λ n. (codes "PROP" ++ big_bytes 8 (length prop - (n - (cmpr_head prop).place) + length cmpr)) ++
    (take (cmpr_head prop).place prop ++ (cmpr ++ drop n prop))) q
    ∙ sym (prop_with_is prop cmpr h one)
