-- Chunks before and behind one of them: the one that is chosen, and their heads by place.
use Rattle.std.proofs.Common.{◌≡◌, inl, ℕ, ◌+◌, ◌<◌, ◌≤◌, Bool, true, false, if◌then◌else◌, List, [], ◌∷◌, ◌++◌, length, filter, refl, sym, ap, ap₂}
use Rattle.std.proofs.Common.{◌∙◌, arith, length-append, append-nil}
use Rattle.std.specs.Prelude.{◌&&◌}
use Rattle.std.specs.List.{AllByRecursion}
use Rattle.std.proofs.lemmas.Bool.{le-ltb, lt-ltb}
use Rattle.std.proofs.lemmas.List.Elements.{filter-append}
use Rattle.dsdiff_spec.specs.Bytes.{◌below◌, ◌above◌}
use Rattle.dsdiff_spec.specs.Chunks.{Chunk, bytes_of_chunk, Head}
use Rattle.dsdiff_spec.proofs.Tiling.{heads_from, head_of}
use Rattle.dsdiff_laws.proofs.Composed.{AreChunks, first_ends, others_are, length_of_ending}
use Rattle.dsdiff_laws.proofs.Filed.{body_bytes}

-- ---- the one element that is chosen, and what stands around it
pub record OneOf {A : Type 0} (p : A → Bool) (xs : List A) (x : A) : Type 0 where
  pub before : List A
  pub behind : List A
  pub parts : xs ≡ before ++ x ∷ behind
  pub none_before : filter p before ≡ []
  pub none_behind : filter p behind ≡ []

pub one_among : {A : Type 0} (p : A → Bool) (xs : List A) (x : A) → filter p xs ≡ x ∷ [] → OneOf p xs x
one_among p [] x e = absurd cc
one_among p (y ∷ ys) x e = go (p y) refl e (λ k. one_among p ys x k)
  where
    go : (b : Bool) → p y ≡ b → (if b then (y ∷ filter p ys) else filter p ys) ≡ x ∷ [] → (filter p ys ≡ x ∷ [] → OneOf p ys x) → OneOf p (y ∷ ys) x
    go true q k later =
        let same : y ≡ x = cc in
        let none : filter p ys ≡ [] = cc in
        record { before = []; behind = ys; parts = ap (λ z. z ∷ ys) same; none_before = refl; none_behind = none }
    go false q k later =
        let o = later k in
        record { before = y ∷ o.before; behind = o.behind; parts = ap (λ zs. y ∷ zs) o.parts; none_before = rw q o.none_before; none_behind = o.none_behind }

pub chosen_is : {A : Type 0} (p : A → Bool) (xs : List A) (x : A) (o : OneOf p xs x) → filter p xs ≡ x ∷ [] → p x ≡ true
chosen_is p xs x o e = go (p x) refl (sym (filter_parts p o.before o.behind x o.none_before o.none_behind) ∙ ap (filter p) (sym o.parts) ∙ e)
  where
    filter_parts : {A : Type 0} (p : A → Bool) (ys zs : List A) (x : A) → filter p ys ≡ [] → filter p zs ≡ [] →
        filter p (ys ++ x ∷ zs) ≡ (if p x then x ∷ [] else [])
    filter_parts p ys zs x a b = filter-append p ys (x ∷ zs) ∙ ap (λ l. l ++ filter p (x ∷ zs)) a ∙ ap (λ l. if p x then x ∷ l else l) b

    go : (b : Bool) → p x ≡ b → (if p x then x ∷ [] else []) ≡ x ∷ [] → p x ≡ true
    go true q h = q
    go false q h = absurd (let none : [] ≡ x ∷ [] = sym (ap (λ b. if b then x ∷ [] else []) q) ∙ h in cc)

pub none_chosen : {A : Type 0} (p : A → Bool) (xs : List A) → filter p xs ≡ [] → AllByRecursion (λ x. p x ≡ false) xs
none_chosen p [] e = tt
none_chosen p (x ∷ xs) e = go (p x) refl e (λ k. none_chosen p xs k)
  where
    go : (b : Bool) → p x ≡ b → (if b then (x ∷ filter p xs) else filter p xs) ≡ [] → (filter p xs ≡ [] → AllByRecursion (λ y. p y ≡ false) xs) →
        (p x ≡ false) × AllByRecursion (λ y. p y ≡ false) xs
    go true q k later = absurd cc
    go false q k later = (q, later k)

pub chosen_none : {A : Type 0} (p : A → Bool) (xs : List A) → AllByRecursion (λ x. p x ≡ false) xs → filter p xs ≡ []
chosen_none p [] all = refl
chosen_none p (x ∷ xs) all = let here = all.0 in rw here (chosen_none p xs all.1)

pub chosen_all : {A : Type 0} (p : A → Bool) (xs : List A) → AllByRecursion (λ x. p x ≡ true) xs → filter p xs ≡ xs
chosen_all p [] all = refl
chosen_all p (x ∷ xs) all = let here = all.0 in rw here (ap (λ ys. x ∷ ys) (chosen_all p xs all.1))

-- ---- heads of chunks one after the other
pub heads-append : (place : ℕ) (cs ds : List Chunk) → heads_from place (cs ++ ds) ≡ heads_from place cs ++ heads_from (place + length (body_bytes cs)) ds
heads-append place [] ds = ap (λ n. heads_from n ds) (no_more place)
  where
    no_more : (n : ℕ) → n ≡ n + 0
    no_more n = omega arith
heads-append place (c ∷ cs) ds =
    let moved : place + length (bytes_of_chunk c) + length (body_bytes cs) ≡ place + length (body_bytes (c ∷ cs)) =
    omega (arith, length-append (bytes_of_chunk c) (body_bytes cs)) in
    ap (λ hs. head_of c.id place (length c.body) ∷ hs)
    (heads-append (place + length (bytes_of_chunk c)) cs ds ∙ ap (λ n. heads_from (place + length (bytes_of_chunk c)) cs ++ heads_from n ds) moved)

abbrev pub Lies : ℕ → ℕ → Head → Type 0
Lies least most h = (least ≤ h.place) × (h.place < most)

pub heads_lie : (m : List ℕ → Bool) (place least most : ℕ) (cs : List Chunk) → AreChunks m cs → least ≤ place → place + length (body_bytes cs) ≤ most →
    AllByRecursion (Lies least most) (heads_from place cs)
heads_lie m place least most [] all p q = tt
heads_lie m place least most (c ∷ cs) all p q =
    let long = length_of_ending m c (first_ends m c cs all) in
    let both = length-append (bytes_of_chunk c) (body_bytes cs) in (
      (p, omega (arith, q, both, long)),
      heads_lie m (place + length (bytes_of_chunk c)) least most cs (others_are m c cs all) (omega (arith, p))
          (omega (arith, q, both)),
    )

same_filter : {A : Type 0} (p q : A → Bool) (xs : List A) → AllByRecursion (λ x. p x ≡ q x) xs → filter p xs ≡ filter q xs
same_filter p q [] all = refl
same_filter p q (x ∷ xs) all = let here = all.0 in rw here (ap (λ ys. if q x then x ∷ ys else ys) (same_filter p q xs all.1))

pub each : {A : Type 0} (P Q : A → Type 0) (xs : List A) → ((x : A) → P x → Q x) → AllByRecursion P xs → AllByRecursion Q xs
each P Q [] f all = tt
each P Q (x ∷ xs) f all = (f x all.0, each P Q xs f all.1)

-- of chunks around one those that stand before it, and those that stand behind it
pub parts_are : (m : List ℕ → Bool) (pre post : List Chunk) (x : Chunk) → AreChunks m (pre ++ x ∷ post) → AreChunks m pre × AreChunks m (x ∷ post)
parts_are m [] post x all = (tt, all)
parts_are m (c ∷ []) post x all = (record { id = all.0.id; size = all.0.size; pad = inl all.0.pad }, all.1)
parts_are m (c ∷ d ∷ pre) post x all = let later = parts_are m (d ∷ pre) post x all.1 in ((all.0, later.0), later.1)

pub those_before : (m : List ℕ → Bool) (ok : Head → Bool) (n : ℕ) (pre post : List Chunk) (x : Chunk) → AreChunks m (pre ++ x ∷ post) →
    filter (λ h. h.place below n + length (body_bytes pre) && ok h) (heads_from n (pre ++ x ∷ post)) ≡ filter ok (heads_from n pre)
those_before m ok n pre post x all =
    let place = n + length (body_bytes pre) in
    let p : Head → Bool = λ h. h.place below place && ok h in
    let are = parts_are m pre post x all in
    let none : filter p (heads_from place (x ∷ post)) ≡ [] =
    chosen_none p (heads_from place (x ∷ post)) (each (Lies place (place + length (body_bytes (x ∷ post)))) (λ h. p h ≡ false) (heads_from place (x ∷ post))
    (λ h l. let not_below = le-ltb h.place place l.0 in rw not_below refl) (heads_lie m place place _ (x ∷ post) are.1 (omega arith) (omega arith))) in
    let some : filter p (heads_from n pre) ≡ filter ok (heads_from n pre) =
    same_filter p ok (heads_from n pre) (each (Lies n place) (λ h. p h ≡ ok h) (heads_from n pre)
    (λ h l. let is_below = lt-ltb h.place place l.1 in rw is_below refl) (heads_lie m n n place pre are.0 (omega arith) (omega arith))) in
    ap (filter p) (heads-append n pre (x ∷ post))
    ∙ filter-append p (heads_from n pre) (heads_from place (x ∷ post))
    ∙ ap₂ (λ (a b : List Head). a ++ b) some none
    ∙ append-nil (filter ok (heads_from n pre))

pub those_behind : (m : List ℕ → Bool) (ok : Head → Bool) (n : ℕ) (pre post : List Chunk) (x : Chunk) → AreChunks m (pre ++ x ∷ post) →
    filter (λ h. h.place above n + length (body_bytes pre) && ok h) (heads_from n (pre ++ x ∷ post))
    ≡ filter ok (heads_from (n + length (body_bytes pre) + length (bytes_of_chunk x)) post)
those_behind m ok n pre post x all =
    let place = n + length (body_bytes pre) in
    let next = place + length (bytes_of_chunk x) in
    let p : Head → Bool = λ h. h.place above place && ok h in
    let are = parts_are m pre post x all in
    let long = length_of_ending m x (first_ends m x post are.1) in
    let none : filter p (heads_from n pre) ≡ [] =
    chosen_none p (heads_from n pre) (each (Lies n place) (λ h. p h ≡ false) (heads_from n pre)
    (λ h l. let not_above = le-ltb place h.place (omega (arith, l.1)) in rw not_above refl) (heads_lie m n n place pre are.0 (omega arith) (omega arith))) in
    let here : (place above place) ≡ false = le-ltb place place (omega arith) in
    let some : filter p (heads_from next post) ≡ filter ok (heads_from next post) =
    same_filter p ok (heads_from next post) (each (Lies next (next + length (body_bytes post))) (λ h. p h ≡ ok h) (heads_from next post)
    (λ h l. let is_above = lt-ltb place h.place (omega (arith, l.0, long)) in rw is_above refl)
    (heads_lie m next next _ post (others_are m x post are.1) (omega arith) (omega arith))) in
    ap (filter p) (heads-append n pre (x ∷ post))
    ∙ filter-append p (heads_from n pre) (heads_from place (x ∷ post))
    ∙ ap (λ hs. hs ++ filter p (heads_from place (x ∷ post))) none
    ∙ rw here some
