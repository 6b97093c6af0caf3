-- Chunks one behind the other, and the bytes that they are where one of them is exchanged.
use Rattle.std.proofs.Common.{◌≡◌, ℕ, zero, suc, ◌+◌, ◌-◌, ◌%◌, ◌≤◌, Bool, true, false, cond, List, [], ◌∷◌, ◌++◌, length, take, drop, flat_map, Some, None}
use Rattle.std.proofs.Common.{refl, sym, ap, subst, inl, inr, ◌⊎◌, ◌∙◌, arith, append_assoc}
use Rattle.std.specs.Prelude.{nat_lt, nat_le, if◌then◌else◌}
use Rattle.std.proofs.lemmas.Bool.{and_parts, leb-true, ltb-false}
use Rattle.std.proofs.lemmas.List.{drop_all, drop-drop, take-append-drop}
use Rattle.dsdiff_spec.specs.declared.faults.FileFault.TheVariants.{Overrun, TooManyChunks}
use Rattle.dsdiff_spec.specs.Bytes.{between, ◌is◌}
use Rattle.dsdiff_spec.specs.Chunks.{Head, Found, head_at, fits, next_place, chunks_from, named}
use Rattle.dsdiff_spec.specs.Written.{part_of_prop}
use Rattle.dsdiff_spec.proofs.Sizes.{between-joined}

-- from a place on up to an end, each with its pad byte
abbrev pub Chain : ℕ → ℕ → List Head → Type 0
Chain end place [] = place ≡ end
Chain end place (h ∷ hs) = (h.place ≡ place) × (next_place h ≤ end) × Chain end (next_place h) hs

-- ---- the chunks that are found
abbrev no_lack : List ℕ → Bool
no_lack id = false

abbrev at_fit : Bool → ℕ → Head → Found → Found
at_fit b place h later = elim b [
  | false ↦ record { heads = []; fault = Some (Overrun place) }
  | true ↦ record { heads = h ∷ later.heads; fault = later.fault }
]

abbrev at_head : Bool → Bool → ℕ → Head → Found → Found
at_head b fit place h later = elim b [ false ↦ record { heads = []; fault = None } | true ↦ at_fit fit place h later ]

opened : (file : List ℕ) (end most place : ℕ) →
    chunks_from no_lack file end (suc most) place
    ≡ at_head (nat_lt place end) (fits no_lack end (head_at file place)) place (head_at file place)
    (chunks_from no_lack file end most (next_place (head_at file place)))
unfolding chunks_from
opened file end most place = refl

no_room : (file : List ℕ) (end place : ℕ) →
    chunks_from no_lack file end zero place ≡ record { heads = []; fault = if nat_lt place end then Some TooManyChunks else None }
unfolding chunks_from
no_room file end place = refl

abbrev IsChained : ℕ → ℕ → Found → Type 0
IsChained end place found = place ≤ end → found.fault ≡ None → Chain end place found.heads

at_no_room : (b : Bool) (end place : ℕ) → nat_lt place end ≡ b → IsChained end place (record { heads = []; fault = if b then Some TooManyChunks else None })
at_no_room true end place e le f = absurd cc
at_no_room false end place e le f = omega (arith, ltb-false place end e)

at_one : (b fit : Bool) (end place : ℕ) (h : Head) (later : Found) → nat_lt place end ≡ b → fits no_lack end h ≡ fit → h.place ≡ place →
    IsChained end (next_place h) later → IsChained end place (at_head b fit place h later)
at_one false fit end place h later e f p rest le none = omega (arith, ltb-false place end e)
at_one true false end place h later e f p rest le none = absurd cc
at_one true true end place h later e f p rest le none =
    let inside : next_place h ≤ end = leb-true (next_place h) end ((and_parts (nat_le (h.place + 12) end) (nat_le (next_place h) end) f).1) in
    (p, inside, rest inside none)

pub are_chained : (file : List ℕ) (end most place : ℕ) → IsChained end place (chunks_from no_lack file end most place)
are_chained file end zero place = rw no_room (at_no_room (nat_lt place end) end place refl)
are_chained file end (suc most) place =
    rw opened (at_one (nat_lt place end) (fits no_lack end (head_at file place)) end place (head_at file place)
    (chunks_from no_lack file end most (next_place (head_at file place))) refl refl refl
    (are_chained file end most (next_place (head_at file place))))

pub is_even : (end place : ℕ) (hs : List Head) → Chain end place hs → place % 2 ≡ 0 → end % 2 ≡ 0
is_even end place [] chain even = ap (λ n. n % 2) (sym chain) ∙ even
is_even end place (h ∷ hs) chain even =
    is_even end (next_place h) hs chain.2 (next_even h.place h.size (ap (λ n. n % 2) chain.0 ∙ even))
  where
    next_even : (place size : ℕ) → place % 2 ≡ 0 → (place + 12 + size + size % 2) % 2 ≡ 0
    next_even place size e = omega arith

-- ---- one of them exchanged
abbrev is_cmpr : Head → Bool
is_cmpr h = h.id is "CMPR"

abbrev pub exchanged : List ℕ → List ℕ → List Head → List ℕ
exchanged prop cmpr hs = flat_map (λ h. if h.id is "CMPR" then cmpr else part_of_prop prop h) hs

-- a part, and what is behind it
part_first : (prop : List ℕ) (from to : ℕ) → from ≤ to → between prop from to ++ drop to prop ≡ drop from prop
part_first prop from to le =
    let e : from + (to - from) ≡ to = omega arith in
    ap (λ w. between prop from to ++ w) (sym (drop-drop (to - from) from prop ∙ ap (λ n. drop n prop) e))
    ∙ take-append-drop (to - from) (drop from prop)

no_name : (b : Bool) (h : Head) (rest : List Head) → cond b (h ∷ rest) rest ≡ [] → (b ≡ false) × (rest ≡ [])
no_name true h rest e = absurd cc
no_name false h rest e = (refl, e)

one_name : (b : Bool) (h c : Head) (rest : List Head) → cond b (h ∷ rest) rest ≡ c ∷ [] →
    ((b ≡ true) × (h ≡ c) × (rest ≡ [])) ⊎ ((b ≡ false) × (rest ≡ c ∷ []))
one_name true h c rest e = inl (refl, cc, cc)
one_name false h c rest e = inr (refl, e)

none_exchanged : (prop cmpr : List ℕ) (place : ℕ) (hs : List Head) → Chain (length prop) place hs → named "CMPR" hs ≡ [] →
    exchanged prop cmpr hs ≡ drop place prop
none_exchanged prop cmpr place [] chain e = sym (drop_all place prop (omega arith))
none_exchanged prop cmpr place (h ∷ hs) chain e =
    let other = no_name (is_cmpr h) h (named "CMPR" hs) e in
    ap (λ b. (if b then cmpr else part_of_prop prop h) ++ exchanged prop cmpr hs) other.0
    ∙ ap (λ w. part_of_prop prop h ++ w) (none_exchanged prop cmpr (next_place h) hs chain.2 other.1)
    ∙ part_first prop h.place (next_place h) (omega arith)
    ∙ ap (λ n. drop n prop) chain.0

-- what stands before the chunk, the other one, and what stands behind it
pub record IsExchanged (prop cmpr : List ℕ) (place : ℕ) (c : Head) (bytes : List ℕ) : Type 0 where
  pub from : place ≤ c.place
  pub inside : next_place c ≤ length prop
  pub whole : bytes ≡ between prop place c.place ++ (cmpr ++ drop (next_place c) prop)

exchanged_here : (prop cmpr : List ℕ) (place : ℕ) (h c : Head) (bytes : List ℕ) → h ≡ c → h.place ≡ place → next_place h ≤ length prop →
    bytes ≡ cmpr ++ drop (next_place h) prop → IsExchanged prop cmpr place c bytes
exchanged_here prop cmpr place h c bytes same p inside e =
    subst (λ x. IsExchanged prop cmpr place x bytes) same (record {
      from = omega arith;
      inside = inside;
      whole =
          let none : h.place - place ≡ 0 = omega arith in
          e ∙ ap (λ k. take k (drop place prop) ++ (cmpr ++ drop (next_place h) prop)) (sym none);
    })

exchanged_later : (prop cmpr : List ℕ) (place : ℕ) (h c : Head) (bytes : List ℕ) → h.place ≡ place →
    IsExchanged prop cmpr (next_place h) c bytes → IsExchanged prop cmpr place c (part_of_prop prop h ++ bytes)
exchanged_later prop cmpr place h c bytes p later =
    let from : next_place h ≤ c.place = later.from in
    let to : h.place ≤ next_place h = omega arith in
    record {
      from = omega arith;
      inside = later.inside;
      whole =
          ap (λ w. part_of_prop prop h ++ w) later.whole
          ∙ sym (append_assoc (part_of_prop prop h) (between prop (next_place h) c.place) (cmpr ++ drop (next_place c) prop))
          ∙ ap (λ w. w ++ (cmpr ++ drop (next_place c) prop)) (between-joined prop h.place (next_place h) c.place to from)
          ∙ ap (λ n. between prop n c.place ++ (cmpr ++ drop (next_place c) prop)) p;
    }

pub one_exchanged : (prop cmpr : List ℕ) (place : ℕ) (c : Head) (hs : List Head) → Chain (length prop) place hs → named "CMPR" hs ≡ c ∷ [] →
    IsExchanged prop cmpr place c (exchanged prop cmpr hs)
one_exchanged prop cmpr place c [] chain e = absurd cc
one_exchanged prop cmpr place c (h ∷ hs) chain e = elim (one_name (is_cmpr h) h c (named "CMPR" hs) e) [
  | inl here ↦ exchanged_here prop cmpr place h c (exchanged prop cmpr (h ∷ hs)) here.1 chain.0 chain.1
      (ap (λ b. (if b then cmpr else part_of_prop prop h) ++ exchanged prop cmpr hs) here.0
      ∙ ap (λ w. cmpr ++ w) (none_exchanged prop cmpr (next_place h) hs chain.2 here.2))
  | inr later ↦ subst (λ w. IsExchanged prop cmpr place c w) (sym (ap (λ b. (if b then cmpr else part_of_prop prop h) ++ exchanged prop cmpr hs) later.0))
      (exchanged_later prop cmpr place h c (exchanged prop cmpr hs) chain.0 (one_exchanged prop cmpr (next_place h) c hs chain.2 later.1))
]
