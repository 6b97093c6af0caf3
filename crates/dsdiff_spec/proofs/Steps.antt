-- One chunk more: what `chunks_from` finds at a place, by cases.
use Rattle.std.proofs.Common.{◌≡◌, ℕ, zero, suc, ◌+◌, ◌<◌, ◌≤◌, List, [], ◌∷◌, Bool, true, false, Option, Some, None, refl, ap, ◌∙◌, arith}
use Rattle.std.specs.Prelude.{nat_lt, nat_le, if◌then◌else◌}
use Rattle.std.proofs.lemmas.Bool.{le-ltb, lt-ltb, le-leb, lt-leb, leb-true, and_parts, and_from, and_left, and_right}
use Rattle.dsdiff_spec.specs.declared.faults.FileFault.{FileFault}
use Rattle.dsdiff_spec.specs.declared.faults.FileFault.TheVariants.{Overrun, TooManyChunks}
use Rattle.dsdiff_spec.specs.Chunks.{Head, Found, head_at, body_end, next_place, fits, chunks_from}

-- no chunk, with a fault or without, and a chunk in front of what is found behind it
abbrev pub nothing : Option FileFault → Found
nothing fault = record { heads = []; fault = fault }

abbrev pub with_head : Head → Found → Found
with_head h later = record { heads = h ∷ later.heads; fault = later.fault }

abbrev pub at_fit : Bool → ℕ → Head → Found → Found
at_fit b place h later = elim b [ false ↦ nothing (Some (Overrun place)) | true ↦ with_head h later ]

abbrev pub at_head : Bool → (List ℕ → Bool) → List ℕ → ℕ → ℕ → ℕ → Head → Found
at_head b m file end most place h = elim b [
  | false ↦ nothing None
  | true ↦ at_fit (fits m end h) place h (chunks_from m file end most (next_place h))
]

pub opened : (m : List ℕ → Bool) (file : List ℕ) (end most place : ℕ) →
    chunks_from m file end (suc most) place ≡ at_head (nat_lt place end) m file end most place (head_at file place)
unfolding chunks_from
opened m file end most place = refl

pub none_is_asked : (m : List ℕ → Bool) (file : List ℕ) (end place : ℕ) →
    chunks_from m file end zero place ≡ nothing (if nat_lt place end then Some TooManyChunks else None)
unfolding chunks_from
none_is_asked m file end place = refl

-- ---- whether a chunk fits
-- it has its head and its body, and its pad byte where this may not be missing
either_end : (b : Bool) (x y end : ℕ) → x ≤ y → nat_le (if b then x else y) end ≡ true → x ≤ end
either_end true x y end le p = leb-true x end p
either_end false x y end le p = omega (arith, le, leb-true y end p)

pub fits_body : (m : List ℕ → Bool) (end : ℕ) (h : Head) → fits m end h ≡ true → body_end h ≤ end
fits_body m end h p = either_end (m h.id) (body_end h) (next_place h) end (omega arith) ((and_parts _ _ p).1)

chosen : (b : Bool) (x y end : ℕ) → b ≡ false → nat_le (if b then x else y) end ≡ true → y ≤ end
chosen true x y end e p = absurd cc
chosen false x y end e p = leb-true y end p

pub fits_pad : (m : List ℕ → Bool) (end : ℕ) (h : Head) → m h.id ≡ false → fits m end h ≡ true → next_place h ≤ end
fits_pad m end h e p = chosen (m h.id) (body_end h) (next_place h) end e ((and_parts _ _ p).1)

-- it fits with its pad byte, or without it where it may be missing
both_ends : (b : Bool) (x y end : ℕ) → x ≤ end → y ≤ end → nat_le (if b then x else y) end ≡ true
both_ends true x y end p q = le-leb x end p
both_ends false x y end p q = le-leb y end q

pub fits_whole : (m : List ℕ → Bool) (end : ℕ) (h : Head) → next_place h ≤ end → fits m end h ≡ true
fits_whole m end h le =
    and_from _ _ (le-leb (h.place + 12) end (omega (arith, le))) (both_ends (m h.id) (body_end h) (next_place h) end (omega (arith, le)) le)

first_end : (b : Bool) (x y end : ℕ) → b ≡ true → x ≤ end → nat_le (if b then x else y) end ≡ true
first_end true x y end e p = le-leb x end p
first_end false x y end e p = absurd cc

pub fits_without_pad : (m : List ℕ → Bool) (end : ℕ) (h : Head) → m h.id ≡ true → body_end h ≤ end → fits m end h ≡ true
fits_without_pad m end h e le =
    and_from _ _ (le-leb (h.place + 12) end (omega (arith, le))) (first_end (m h.id) (body_end h) (next_place h) end e le)

-- it doesn't fit where its head or its body passes the end, or its pad byte where this may not be missing
pub misfit_head : (m : List ℕ → Bool) (end : ℕ) (h : Head) → end < h.place + 12 → fits m end h ≡ false
misfit_head m end h l = and_left _ _ (lt-leb (h.place + 12) end l)

neither_end : (b : Bool) (x y end : ℕ) → end < x → end < y → nat_le (if b then x else y) end ≡ false
neither_end true x y end p q = lt-leb x end p
neither_end false x y end p q = lt-leb y end q

pub misfit_body : (m : List ℕ → Bool) (end : ℕ) (h : Head) → end < body_end h → fits m end h ≡ false
misfit_body m end h l = and_right _ _ (neither_end (m h.id) (body_end h) (next_place h) end l (omega (arith, l)))

second_end : (b : Bool) (x y end : ℕ) → b ≡ false → end < y → nat_le (if b then x else y) end ≡ false
second_end true x y end e p = absurd cc
second_end false x y end e p = lt-leb y end p

pub misfit_pad : (m : List ℕ → Bool) (end : ℕ) (h : Head) → m h.id ≡ false → end < next_place h → fits m end h ≡ false
misfit_pad m end h e l = and_right _ _ (second_end (m h.id) (body_end h) (next_place h) end e l)

-- ---- the cases at a place: at the end, at the limit, at a chunk that doesn't fit, at one that does
pub found_at_end : (m : List ℕ → Bool) (file : List ℕ) (end most place : ℕ) → end ≤ place → chunks_from m file end most place ≡ nothing None
found_at_end m file end zero place le =
    none_is_asked m file end place
    ∙ ap {A = Bool} {B = Found} (λ b. nothing (if b then Some TooManyChunks else None)) (le-ltb place end le)
found_at_end m file end (suc most) place le =
    opened m file end most place ∙ ap (λ b. at_head b m file end most place (head_at file place)) (le-ltb place end le)

pub found_at_limit : (m : List ℕ → Bool) (file : List ℕ) (end place : ℕ) → place < end →
    chunks_from m file end zero place ≡ nothing (Some TooManyChunks)
found_at_limit m file end place l =
    none_is_asked m file end place
    ∙ ap {A = Bool} {B = Found} (λ b. nothing (if b then Some TooManyChunks else None)) (lt-ltb place end l)

here : (m : List ℕ → Bool) (file : List ℕ) (end most place : ℕ) → place < end →
    chunks_from m file end (suc most) place
    ≡ at_fit (fits m end (head_at file place)) place (head_at file place) (chunks_from m file end most (next_place (head_at file place)))
here m file end most place l =
    opened m file end most place ∙ ap (λ b. at_head b m file end most place (head_at file place)) (lt-ltb place end l)

pub found_at_misfit : (m : List ℕ → Bool) (file : List ℕ) (end most place : ℕ) → place < end → fits m end (head_at file place) ≡ false →
    chunks_from m file end (suc most) place ≡ nothing (Some (Overrun place))
found_at_misfit m file end most place l p =
    here m file end most place l
    ∙ ap (λ b. at_fit b place (head_at file place) (chunks_from m file end most (next_place (head_at file place)))) p

pub found_at_chunk : (m : List ℕ → Bool) (file : List ℕ) (end most place : ℕ) → place < end → fits m end (head_at file place) ≡ true →
    chunks_from m file end (suc most) place
    ≡ with_head (head_at file place) (chunks_from m file end most (next_place (head_at file place)))
found_at_chunk m file end most place l p =
    here m file end most place l
    ∙ ap (λ b. at_fit b place (head_at file place) (chunks_from m file end most (next_place (head_at file place)))) p
