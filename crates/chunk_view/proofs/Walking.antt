-- One step of finding chunks, each of which has its pad byte.
use Rattle.std.proofs.Common.{◌≡◌, ◌⊎◌, ℕ, zero, suc, ◌+◌, ◌*◌, ◌%◌, ◌<◌, ◌≤◌, Bool, true, false, List, [], ◌∷◌, length, Some, None, refl, sym, ap, ◌∙◌, arith}
use Rattle.std.proofs.Common.{inl, inr, subst}
use Rattle.std.specs.Prelude.{nat_lt, nat_le, if◌then◌else◌, ◌&&◌}
use Rattle.std.proofs.lemmas.Bool.{le-ltb, lt-ltb, le-leb, lt-leb, cases_lt}
use Rattle.dsdiff_spec.specs.declared.faults.FileFault.TheVariants.{Overrun, TooManyChunks}
use Rattle.dsdiff_spec.specs.Chunks.{Head, Found, head_at, fits, next_place, chunks_from}

-- the chunks from a place on, of which each has its pad byte
abbrev pub whole_from : List ℕ → ℕ → ℕ → ℕ → Found
whole_from = chunks_from (λ id. false)

abbrev pub nothing : Found
nothing = record { heads = []; fault = None }

abbrev pub overrun : ℕ → Found
overrun place = record { heads = []; fault = Some (Overrun place) }

abbrev pub with_head : Head → Found → Found
with_head h later = record { heads = h ∷ later.heads; fault = later.fault }

abbrev at_fit : Bool → ℕ → Head → Found → Found
at_fit b place h later = elim b [ false ↦ overrun place | true ↦ with_head h later ]

abbrev at_head : Bool → Bool → ℕ → Head → Found → Found
at_head b fit place h later = elim b [ false ↦ nothing | true ↦ at_fit fit place h later ]

opened : (file : List ℕ) (end most place : ℕ) →
    whole_from file end (suc most) place
    ≡ at_head (nat_lt place end) (fits (λ id. false) end (head_at file place)) place (head_at file place)
    (whole_from file end most (next_place (head_at file place)))
unfolding chunks_from
opened file end most place = refl

no_room : (file : List ℕ) (end place : ℕ) →
    whole_from file end zero place ≡ record { heads = []; fault = if nat_lt place end then Some TooManyChunks else None }
unfolding chunks_from
no_room file end place = refl

-- at the end
pub stops : (file : List ℕ) (end most place : ℕ) → end ≤ place → whole_from file end most place ≡ nothing
stops file end zero place le =
    no_room file end place ∙ ap {A = Bool} {B = Found} (λ b. record { heads = []; fault = if b then Some TooManyChunks else None }) (le-ltb place end le)
stops file end (suc most) place le =
    opened file end most place
    ∙ ap (λ b. at_head b (fits (λ id. false) end (head_at file place)) place (head_at file place) (whole_from file end most (next_place (head_at file place))))
    (le-ltb place end le)

both_false : (a b : Bool) → b ≡ false → (a && b) ≡ false
both_false true b e = e
both_false false b e = refl

both_true : (a b : Bool) → a ≡ true → b ≡ true → (a && b) ≡ true
both_true true b p q = q
both_true false b p q = absurd cc

inside : (file : List ℕ) (end most place : ℕ) (fit : Bool) → place < end → fits (λ id. false) end (head_at file place) ≡ fit →
    whole_from file end (suc most) place ≡ at_fit fit place (head_at file place) (whole_from file end most (next_place (head_at file place)))
inside file end most place fit lt e =
    let h = head_at file place in
    let later = whole_from file end most (next_place h) in
    opened file end most place
    ∙ ap (λ b. at_head b (fits (λ id. false) end h) place h later) (lt-ltb place end lt)
    ∙ ap (λ b. at_fit b place h later) e

-- at a chunk that passes the end
pub cuts : (file : List ℕ) (end most place : ℕ) → place < end → end < next_place (head_at file place) →
    whole_from file end (suc most) place ≡ overrun place
cuts file end most place lt past =
    inside file end most place false lt (both_false (nat_le (place + 12) end) (nat_le (next_place (head_at file place)) end)
    (lt-leb (next_place (head_at file place)) end past))

-- at a chunk
pub goes : (file : List ℕ) (end most place : ℕ) → next_place (head_at file place) ≤ end →
    whole_from file end (suc most) place ≡ with_head (head_at file place) (whole_from file end most (next_place (head_at file place)))
goes file end most place le =
    inside file end most place true (before end place (head_at file place).size le)
    (both_true (nat_le (place + 12) end) (nat_le (next_place (head_at file place)) end)
    (le-leb (place + 12) end (head_before end place (head_at file place).size le)) (le-leb (next_place (head_at file place)) end le))
  where
    before : (end place size : ℕ) → place + 12 + size + size % 2 ≤ end → place < end
    before end place size le = omega arith

    head_before : (end place size : ℕ) → place + 12 + size + size % 2 ≤ end → place + 12 ≤ end
    head_before end place size le = omega arith

-- one of the three stands at each place
pub three_ways : (end place next : ℕ) → (end ≤ place) ⊎ ((place < end) × (end < next) ⊎ (next ≤ end))
three_ways end place next = elim (cases_lt place end) [
  | inl lt ↦ inr (elim (cases_lt end next) [ inl past ↦ inl (lt, past) | inr le ↦ inr le ])
  | inr le ↦ inl le
]

-- room for one chunk fewer, behind it
pub room : (end place most size : ℕ) → end ≤ place + 12 * suc most → end ≤ place + 12 + size + size % 2 + 12 * most
room end place most size p = omega arith

-- enough room finds the same
pub same_found : (file : List ℕ) (end a b place : ℕ) → end ≤ place + 12 * a → end ≤ place + 12 * b →
    whole_from file end a place ≡ whole_from file end b place
same_found file end zero b place p q =
    stops file end zero place (omega arith) ∙ sym (stops file end b place (omega arith))
same_found file end (suc a) zero place p q =
    stops file end (suc a) place (omega arith) ∙ sym (stops file end zero place (omega arith))
same_found file end (suc a) (suc b) place p q =
    let next = next_place (head_at file place) in
    elim (three_ways end place next) [
      | inl le ↦ stops file end (suc a) place le ∙ sym (stops file end (suc b) place le)
      | inr w ↦ elim w [
        | inl cut ↦ cuts file end a place cut.0 cut.1 ∙ sym (cuts file end b place cut.0 cut.1)
        | inr le ↦
            goes file end a place le
            ∙ ap (with_head (head_at file place)) (same_found file end a b next (room end place a (head_at file place).size p)
            (room end place b (head_at file place).size q))
            ∙ sym (goes file end b place le)
      ]
    ]

-- ---- with room for as many chunks as there are bytes
abbrev pub all_from : List ℕ → ℕ → Found
all_from bytes place = whole_from bytes (length bytes) (length bytes) place

pub plenty : (n place : ℕ) → n ≤ place + 12 * n
plenty n place = omega arith

more_plenty : (n place : ℕ) → n ≤ place + 12 * suc n
more_plenty n place = omega arith

pub all_goes : (bytes : List ℕ) (place : ℕ) → next_place (head_at bytes place) ≤ length bytes →
    all_from bytes place ≡ with_head (head_at bytes place) (all_from bytes (next_place (head_at bytes place)))
all_goes bytes place le =
    same_found bytes (length bytes) (length bytes) (suc (length bytes)) place (plenty (length bytes) place) (more_plenty (length bytes) place)
    ∙ goes bytes (length bytes) (length bytes) place le

pub all_cuts : (bytes : List ℕ) (place : ℕ) → place < length bytes → length bytes < next_place (head_at bytes place) →
    all_from bytes place ≡ overrun place
all_cuts bytes place lt past =
    same_found bytes (length bytes) (length bytes) (suc (length bytes)) place (plenty (length bytes) place) (more_plenty (length bytes) place)
    ∙ cuts bytes (length bytes) (length bytes) place lt past

pub all_stops : (bytes : List ℕ) (place : ℕ) → length bytes ≤ place → all_from bytes place ≡ nothing
all_stops bytes place le = stops bytes (length bytes) (length bytes) place le

-- where all are whole chunks, the next one is
pub whole_goes : (bytes : List ℕ) (place : ℕ) → (all_from bytes place).fault ≡ None → place < length bytes →
    length bytes < next_place (head_at bytes place) → ⊥
whole_goes bytes place e lt past =
    let f : (all_from bytes place).fault ≡ Some (Overrun place) = ap (λ f. f.fault) (all_cuts bytes place lt past) in
    absurd cc

pub within : (next end : ℕ) (h : Head) → next ≡ next_place h → next ≤ end → next_place h ≤ end
within next end h is le = let P : ℕ → Type 0 = λ n. n ≤ end in subst P is le

pub whole_after : (bytes : List ℕ) (place next : ℕ) → (all_from bytes place).fault ≡ None → next ≡ next_place (head_at bytes place) →
    next ≤ length bytes → (all_from bytes next).fault ≡ None
whole_after bytes place next e is le =
    ap (λ n. (all_from bytes n).fault) is ∙ sym (ap (λ f. f.fault) (all_goes bytes place (within next (length bytes) (head_at bytes place) is le))) ∙ e
