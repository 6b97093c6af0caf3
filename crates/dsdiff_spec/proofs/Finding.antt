-- What is true of the chunks that are found in a part of a file.
use Rattle.std.proofs.Common.{◌≡◌, ◌⊎◌, ℕ, zero, suc, ◌+◌, ◌-◌, ◌*◌, ◌<◌, ◌≤◌, min, List, [], ◌∷◌, ◌++◌, length, take, drop, flat_map, Bool, true, false, Some}
use Rattle.std.proofs.Common.{None, refl, append-nil, sym, ap, ◌∙◌, subst, inl, inr, arith}
use Rattle.std.specs.Prelude.{⊤}
use Rattle.std.specs.List.{AllByRecursion}
use Rattle.std.proofs.lemmas.Bool.{cases_lt, cases_Bool}
use Rattle.std.proofs.lemmas.List.{drop-drop}
use Rattle.std.proofs.Math.Seq.{take-add}
use Rattle.dsdiff_spec.specs.declared.faults.FileFault.{FileFault}
use Rattle.dsdiff_spec.specs.declared.faults.FileFault.TheVariants.{Overrun, TooManyChunks}
use Rattle.dsdiff_spec.specs.Bytes.{between}
use Rattle.dsdiff_spec.specs.Chunks.{Head, Found, head_at, body_end, next_place, fits, chunks_from, the_first}
use Rattle.dsdiff_spec.proofs.Steps.{nothing, with_head, fits_body, found_at_end, found_at_limit, found_at_misfit, found_at_chunk}

-- ---- a property of what is found holds where it holds in each case at a place
module _ (m : List ℕ → Bool) (file : List ℕ) (end : ℕ) (P : ℕ → ℕ → Found → Type 0)
    (at_end : (most place : ℕ) → end ≤ place → P most place (nothing None))
    (at_limit : (place : ℕ) → place < end → P zero place (nothing (Some TooManyChunks)))
    (at_misfit : (most place : ℕ) → place < end → fits m end (head_at file place) ≡ false → P (suc most) place (nothing (Some (Overrun place))))
    (at_chunk : (most place : ℕ) (later : Found) → place < end → fits m end (head_at file place) ≡ true → P most (next_place (head_at file place)) later →
    P (suc most) place (with_head (head_at file place) later))
  where
    pub found_by : (most place : ℕ) → P most place (chunks_from m file end most place)
    found_by zero place = elim (cases_lt place end) [
      | inl l ↦ subst (P zero place) (sym (found_at_limit m file end place l)) (at_limit place l)
      | inr le ↦ subst (P zero place) (sym (found_at_end m file end zero place le)) (at_end zero place le)
    ]
    found_by (suc most) place = elim (cases_lt place end) [
      | inr le ↦ subst (P (suc most) place) (sym (found_at_end m file end (suc most) place le)) (at_end (suc most) place le)
      | inl l ↦ elim (cases_Bool (fits m end (head_at file place))) [
        | inr e ↦ subst (P (suc most) place) (sym (found_at_misfit m file end most place l e)) (at_misfit most place l e)
        | inl e ↦ subst (P (suc most) place) (sym (found_at_chunk m file end most place l e))
            (at_chunk most place _ l e (found_by most (next_place (head_at file place))))
      ]
    ]

-- ---- the chunks that are found stand one after the other from the place on
abbrev pub Follow : (List ℕ → Bool) → List ℕ → ℕ → ℕ → List Head → Type 0
Follow m file end place [] = ⊤
Follow m file end place (h ∷ hs) =
    (place < end) × (h ≡ head_at file place) × (fits m end h ≡ true) × Follow m file end (next_place h) hs

-- the place behind the last of them, with its pad byte
abbrev pub place_behind : ℕ → List Head → ℕ
place_behind place [] = place
place_behind place (h ∷ hs) = place_behind (next_place h) hs

pub found_follow : (m : List ℕ → Bool) (file : List ℕ) (end most place : ℕ) → Follow m file end place (chunks_from m file end most place).heads
found_follow m file end most place =
    found_by m file end (λ n i f. Follow m file end i f.heads) (λ n i le. tt) (λ i l. tt) (λ n i l e. tt)
    (λ n i later l e all. (l, refl, e, all)) most place

pub found_at_most : (m : List ℕ → Bool) (file : List ℕ) (end most place : ℕ) → length (chunks_from m file end most place).heads ≤ most
found_at_most m file end most place =
    found_by m file end (λ n i f. length f.heads ≤ n) (λ n i le. omega arith) (λ i l. omega arith) (λ n i l e. omega arith)
    (λ n i later l e le. omega (arith, le)) most place

-- without a fault they go up to the end
pub found_to_the_end : (m : List ℕ → Bool) (file : List ℕ) (end most place : ℕ) → (chunks_from m file end most place).fault ≡ None →
    end ≤ place_behind place (chunks_from m file end most place).heads
found_to_the_end m file end most place =
    found_by m file end (λ n i f. f.fault ≡ None → end ≤ place_behind i f.heads) (λ n i le p. le) (λ i l p. absurd cc) (λ n i l e p. absurd cc)
    (λ n i later l e all p. all p) most place

-- with a fault they end in front of it, at a chunk that doesn't fit, or at one chunk too many
abbrev pub StopsAt : (List ℕ → Bool) → List ℕ → ℕ → ℕ → ℕ → List Head → FileFault → Type 0
StopsAt m file end most place heads fault =
    ((fault ≡ TooManyChunks) × (length heads ≡ most))
    ⊎ ((fault ≡ Overrun (place_behind place heads)) × (fits m end (head_at file (place_behind place heads)) ≡ false))

pub found_to_a_fault : (m : List ℕ → Bool) (file : List ℕ) (end most place : ℕ) (fault : FileFault) → (chunks_from m file end most place).fault ≡ Some fault →
    (place_behind place (chunks_from m file end most place).heads < end) × StopsAt m file end most place (chunks_from m file end most place).heads fault
found_to_a_fault m file end most place fault =
    found_by m file end (λ n i f. f.fault ≡ Some fault → (place_behind i f.heads < end) × StopsAt m file end n i f.heads fault)
    (λ n i le p. absurd cc)
    (λ i l p. (l, inl (cc, refl)))
    (λ n i l e p. (l, inr (cc, e)))
    (λ n i later l e all p. let q = all p in (q.0, elim q.1 [ inl t ↦ inl (t.0, omega (arith, t.1)) | inr t ↦ inr t ]))
    most place

-- ---- where each of them stands: from the place on, with its body before the end
abbrev pub Stands : List ℕ → ℕ → ℕ → Head → Type 0
Stands file end place h = (h ≡ head_at file h.place) × (place ≤ h.place) × (body_end h ≤ end)

stand_from : (m : List ℕ → Bool) (file : List ℕ) (end start place : ℕ) (hs : List Head) → start ≤ place → Follow m file end place hs →
    AllByRecursion (Stands file end start) hs
stand_from m file end start place [] le all = tt
stand_from m file end start place (h ∷ hs) le (l, is_here, fit, all) =
    let same : h.place ≡ place = ap (λ i. i.place) is_here in (
      (is_here ∙ ap (head_at file) (sym same), omega (arith, le, same), fits_body m end h fit),
      stand_from m file end start (next_place h) hs (omega (arith, le, same)) all,
    )

pub found_stand : (m : List ℕ → Bool) (file : List ℕ) (end most place : ℕ) → AllByRecursion (Stands file end place) (chunks_from m file end most place).heads
found_stand m file end most place = stand_from m file end place place _ (omega arith) (found_follow m file end most place)

-- ---- without a fault they fill the part, byte for byte
abbrev pub part_of : List ℕ → ℕ → Head → List ℕ
part_of file end h = between file h.place (min (next_place h) end)

pub split_part : (file : List ℕ) (place next end : ℕ) → place ≤ next → place ≤ end →
    between file place end ≡ between file place (min next end) ++ between file next end
split_part file place next end p q = elim (cases_lt end next) [
  | inl l ↦
      let none : end - next ≡ 0 = omega (arith, l) in
      let whole : min next end ≡ end = omega (arith, l) in
      rw (none, whole) (sym (append-nil (between file place end)))
  | inr le ↦
      let a : end - place ≡ (next - place) + (end - next) = omega (arith, p, le) in
      let b : min next end ≡ next = omega (arith, le) in
      let c : place + (next - place) ≡ next = omega (arith, p) in
      rw b (ap (λ n. take n (drop place file)) a ∙ take-add (next - place) (end - next) (drop place file)
      ∙ ap (λ w. take (next - place) (drop place file) ++ take (end - next) w) (drop-drop (next - place) place file ∙ ap (λ n. drop n file) c))
]

filled : (m : List ℕ → Bool) (file : List ℕ) (end place : ℕ) (hs : List Head) → Follow m file end place hs → end ≤ place_behind place hs →
    between file place end ≡ flat_map (part_of file end) hs
filled m file end place [] all le = let none : end - place ≡ 0 = omega (arith, le) in rw none refl
filled m file end place (h ∷ hs) (l, is_here, fit, all) le =
    let same : h.place ≡ place = ap (λ i. i.place) is_here in
    rw (sym same) (split_part file h.place (next_place h) end (omega arith) (omega (arith, l, same))
    ∙ ap (λ w. part_of file end h ++ w) (filled m file end (next_place h) hs all le))

pub found_fill : (m : List ℕ → Bool) (file : List ℕ) (end most place : ℕ) → (chunks_from m file end most place).fault ≡ None →
    between file place end ≡ flat_map (part_of file end) (chunks_from m file end most place).heads
found_fill m file end most place p =
    filled m file end place _ (found_follow m file end most place) (found_to_the_end m file end most place p)

-- ---- a limit that the part has no room for is none: each chunk has at least twelve bytes
pub limit_is_free : (m : List ℕ → Bool) (file : List ℕ) (end a b place : ℕ) → end ≤ place + 12 * a → end ≤ place + 12 * b →
    chunks_from m file end a place ≡ chunks_from m file end b place
limit_is_free m file end zero b place p q = found_at_end m file end zero place (omega (arith, p)) ∙ sym (found_at_end m file end b place (omega (arith, p)))
limit_is_free m file end (suc a) zero place p q =
    found_at_end m file end (suc a) place (omega (arith, q)) ∙ sym (found_at_end m file end zero place (omega (arith, q)))
limit_is_free m file end (suc a) (suc b) place p q = elim (cases_lt place end) [
  | inr le ↦ found_at_end m file end (suc a) place le ∙ sym (found_at_end m file end (suc b) place le)
  | inl l ↦ elim (cases_Bool (fits m end (head_at file place))) [
    | inr e ↦ found_at_misfit m file end a place l e ∙ sym (found_at_misfit m file end b place l e)
    | inl e ↦
        found_at_chunk m file end a place l e
        ∙ ap (with_head (head_at file place)) (limit_is_free m file end a b (next_place (head_at file place)) (omega (arith, p)) (omega (arith, q)))
        ∙ sym (found_at_chunk m file end b place l e)
  ]
]

-- ---- what is the only one of a list
pub the_only : (hs : List Head) → length hs ≡ 1 → hs ≡ the_first hs ∷ []
the_only [] e = absurd cc
the_only (h ∷ []) e = refl
the_only (h ∷ i ∷ hs) e = absurd (omega (arith, e))
