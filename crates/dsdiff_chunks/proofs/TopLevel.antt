-- The chunks of a form, one after the other.
use Rattle.std.proofs.Common.{◌≡◌, ℕ, zero, suc, ◌<◌, ◌≤◌, List, [], ◌∷◌, ◌++◌, Bool, true, false, Some, None, refl, sym, ap, ◌∙◌, arith, append_assoc}
use Rattle.std.specs.Prelude.{nat_le, if◌then◌else◌, not}
use Rattle.std.specs.List.{Contains}
use Rattle.std.proofs.lemmas.Bool.{le-ltb, lt-ltb, leb-true}
use Rattle.dsdiff_spec.specs.Bytes.{◌is◌}
use Rattle.dsdiff_spec.specs.Chunks.{Head, Found, chunks_from, head_at, body_end, next_place, fits}
use Rattle.dsdiff_spec.specs.Faults.{◌when◌}
use Rattle.dsdiff_spec.specs.declared.faults.FileFault.{FileFault}
use Rattle.dsdiff_spec.specs.declared.faults.FileFault.TheVariants.{Overrun, TooManyChunks}
use Rattle.dsdiff_spec.proofs.Steps.{at_fit, at_head, opened, none_is_asked}
use Rattle.dst_spec.proofs.Lists.{both_true}
use Rattle.dsdiff_chunks.specs.Lawful.{TileTo}
use Rattle.dsdiff_chunks.specs.Opening.{may_lack_pad}

-- chunks that were found, in front of those found from the next place on
abbrev pub in_front : List Head → Found → Found
in_front heads later = record { heads = heads ++ later.heads; fault = later.fault }

pub nothing_left : (m : List ℕ → Bool) (file : List ℕ) (end most place : ℕ) → end ≤ place →
    chunks_from m file end most place ≡ record { heads = []; fault = None }
nothing_left m file end zero place le =
    none_is_asked m file end place
    ∙ ap {A = Bool} {B = Found} (λ b. record { heads = []; fault = if b then Some TooManyChunks else None }) (le-ltb place end le)
nothing_left m file end (suc most) place le =
    opened m file end most place ∙ ap (λ b. at_head b m file end most place (head_at file place)) (le-ltb place end le)

pub too_many : (m : List ℕ → Bool) (file : List ℕ) (end place : ℕ) → place < end →
    chunks_from m file end zero place ≡ record { heads = []; fault = Some TooManyChunks }
too_many m file end place lt =
    none_is_asked m file end place
    ∙ ap {A = Bool} {B = Found} (λ b. record { heads = []; fault = if b then Some TooManyChunks else None }) (lt-ltb place end lt)

at_fit_of : (m : List ℕ → Bool) (file : List ℕ) (end most place : ℕ) (h : Head) (b : Bool) → place < end → head_at file place ≡ h → fits m end h ≡ b →
    chunks_from m file end (suc most) place ≡ at_fit b place h (chunks_from m file end most (next_place h))
at_fit_of m file end most place h b lt at fit =
    opened m file end most place
    ∙ ap (λ b. at_head b m file end most place (head_at file place)) (lt-ltb place end lt)
    ∙ ap (λ i. at_head true m file end most place i) at
    ∙ ap (λ b. at_fit b place h (chunks_from m file end most (next_place h))) fit

pub overruns : (m : List ℕ → Bool) (file : List ℕ) (end most place : ℕ) (h : Head) → place < end → head_at file place ≡ h → fits m end h ≡ false →
    chunks_from m file end (suc most) place ≡ record { heads = []; fault = Some (Overrun place) }
overruns m file end most place h lt at fit = at_fit_of m file end most place h false lt at fit

pub one_more : (m : List ℕ → Bool) (file : List ℕ) (end most place : ℕ) (h : Head) → place < end → head_at file place ≡ h → fits m end h ≡ true →
    chunks_from m file end (suc most) place ≡ in_front (h ∷ []) (chunks_from m file end most (next_place h))
one_more m file end most place h lt at fit = at_fit_of m file end most place h true lt at fit

pub in_front_twice : (a b : List Head) (later : Found) → in_front a (in_front b later) ≡ in_front (a ++ b) later
in_front_twice a b later =
    ap {A = List Head} {B = Found} (λ hs. record { heads = hs; fault = later.fault }) (sym (append_assoc a b later.heads))

pub in_front_of_none : (a : List Head) → in_front a (record { heads = []; fault = None }) ≡ record { heads = a; fault = None }
in_front_of_none a =
    ap {A = List Head} {B = Found} (λ hs. record { heads = hs; fault = None }) (append_nil a)
  where
    append_nil : (xs : List Head) → xs ++ [] ≡ xs
    append_nil [] = refl
    append_nil (x ∷ xs) = ap (λ ys. x ∷ ys) (append_nil xs)

-- a list of heads is longer by one
pub found_more : (m : List ℕ → Bool) (file : List ℕ) (end most place next : ℕ) (heads : List Head) (h : Head) (all : Found) {left : ℕ} → left ≡ suc most →
    all ≡ in_front heads (chunks_from m file end left place) → place < end → head_at file place ≡ h → fits m end h ≡ true →
    next_place h ≡ next → all ≡ in_front (heads ++ h ∷ []) (chunks_from m file end most next)
found_more m file end most place next heads h all few before lt at fit on =
    before
    ∙ ap (λ n. in_front heads (chunks_from m file end n place)) few
    ∙ ap (in_front heads) (one_more m file end most place h lt at fit)
    ∙ in_front_twice heads (h ∷ []) (chunks_from m file end most (next_place h))
    ∙ ap (λ i. in_front (heads ++ h ∷ []) (chunks_from m file end most i)) on

pub tiled_more : (end place next : ℕ) (heads : List Head) (h : Head) → h.place ≡ place → body_end h ≤ end → next_place h ≡ next →
    ((more : List Head) → TileTo end place more → TileTo end 16 (heads ++ more)) →
    (more : List Head) → TileTo end next more → TileTo end 16 ((heads ++ h ∷ []) ++ more)
tiled_more end place next heads h at within on before more tiled =
    rw append_assoc (before (h ∷ more) (at, within, rw on tiled))

-- a chunk that doesn't fit is the fault of them all
pub overrun_found : (m : List ℕ → Bool) (file : List ℕ) (end most place : ℕ) (heads : List Head) (all : Found) (f : FileFault) {left : ℕ} →
    left ≡ suc most → all ≡ in_front heads (chunks_from m file end left place) → place < end →
    (Overrun place when not (fits m end (head_at file place))) ≡ Some f → all.fault ≡ Some f
overrun_found m file end most place heads all f few before lt refused =
    ap (λ found. found.fault) (before ∙ ap (λ n. in_front heads (chunks_from m file end n place)) few) ∙ at (fits m end (head_at file place)) refl refused
  where
    at : (b : Bool) → fits m end (head_at file place) ≡ b → (Overrun place when not b) ≡ Some f →
        (chunks_from m file end (suc most) place).fault ≡ Some f
    at true fit e = absurd cc
    at false fit e = ap (λ found. found.fault) (overruns m file end most place (head_at file place) lt refl fit) ∙ e

-- where a chunk fits, its body lies before the end, and its pad byte at most one byte behind
pub body_fits : (end : ℕ) (h : Head) → fits may_lack_pad end h ≡ true → body_end h ≤ end
body_fits end h e = at (h.id is "DSD ") (both_true _ _ e).1
  where
    at : (b : Bool) → nat_le (if not b then body_end h else next_place h) end ≡ true → body_end h ≤ end
    at true e = let le : next_place h ≤ end = leb-true (next_place h) end e in omega arith
    at false e = leb-true (body_end h) end e

-- the body of a chunk of a form lies before its end
pub body_within : (end place : ℕ) (heads : List Head) (h : Head) → TileTo end place heads → Contains heads h → body_end h ≤ end
body_within end place [] h t c = absurd (let lt = c.1 in omega arith)
body_within end place (i ∷ more) h t (zero, lt, e) = let same : i ≡ h = e in rw (← same) t.1
body_within end place (i ∷ more) h t (suc k, lt, e) = body_within end (next_place i) more h t.2 (k, omega (arith, lt), e)
