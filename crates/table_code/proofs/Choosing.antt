-- The shortest spelling, found spelling by spelling.
use Rattle.std.proofs.Common.{◌≡◌, ℕ, zero, suc, ◌+◌, ◌<◌, ◌≤◌, nat_lt, Bool, true, false, cond, List, [], ◌∷◌, ◌++◌, length, map, flat_map, refl, ap}
use Rattle.std.proofs.Common.{ap₂, sym, ◌∙◌, arith, append-nil, add-one, ℤ, lt-ltb, le-ltb}
use Rattle.std.proofs.lemmas.List.FromFn.{map-range_with_len_more}
use Rattle.std.proofs.lemmas.Grind.{flat_map-append}
use Rattle.std.proofs.lemmas.List.Sums.{fold_push, fold-append}
use Rattle.std.specs.List.{AllByRecursion, fold, range_with_len}
use Rattle.dst_spec.specs.Table.{Kind, is_alone, Spelling, plain, coded, Suits, table_bits}
use Rattle.dst_spec.specs.Spell.{coded_spellings, suits, shortest}
use Rattle.dst_spec.proofs.Lists.{all_map, all_flat_map, all_range}
use Rattle.table_code.specs.declared.spelling.Spelling.{Spelling as Chosen}
use Rattle.table_code.specs.declared.spelling.Spelling.TheVariants.{Coded}
use Rattle.table_code.specs.Spellings.{spelled}
use Rattle.table_code.specs.Choices.{shorter, of_method, IsChoice}

pub suits_coded : (K : Kind) (vs : List ℤ) (method m : ℕ) → is_alone K (length vs) ≡ false → method < length vs → suits K vs (coded method m) ≡ true
suits_coded K vs method m together h = rw (together, lt-ltb method (length vs) h) refl

-- one spelling more
pub chosen : (K : Kind) (vs : List ℤ) (best r : Chosen × ℕ) (method m n : ℕ) → is_alone K (length vs) ≡ false → method < 3 → m < 8 → method < length vs →
    IsChoice K vs (spelled best.0) best.1 → n ≡ length (table_bits K vs (coded method m)) → r ≡ cond (nat_lt n best.1) (Coded method m, n) best →
    IsChoice K vs (spelled r.0) r.1 × (spelled r.0 ≡ shorter K vs (spelled best.0) (coded method m))
chosen K vs best r method m n together h k enough choice long e = go (nat_lt n best.1) refl e
  where
    go : (t : Bool) → nat_lt n best.1 ≡ t → r ≡ cond t (Coded method m, n) best →
        IsChoice K vs (spelled r.0) r.1 × (spelled r.0 ≡ shorter K vs (spelled best.0) (coded method m))
    go true test is =
        let suited : Suits K vs (coded method m) = (together, h, omega arith, k) in
        let taken = sym (ap₂ nat_lt long choice.long) ∙ test in
        (rw is (record { suited = suited; long = long }), rw (is, suits_coded K vs method m together enough, taken) refl)
    go false test is =
        let stays = sym (ap₂ nat_lt long choice.long) ∙ test in
        (rw is choice, rw (is, suits_coded K vs method m together enough, stays) refl)

pub of_method-more : (K : Kind) (vs : List ℤ) (method m : ℕ) (best s : Spelling) → s ≡ fold (shorter K vs) best (of_method method m) →
    shorter K vs s (coded method m) ≡ fold (shorter K vs) best (of_method method (m + 1))
of_method-more K vs method m best s e =
    ap (λ t. shorter K vs t (coded method m)) e
    ∙ sym (fold_push (shorter K vs) best (of_method method m) (coded method m))
    ∙ ap (fold (shorter K vs) best) (sym (map-range_with_len_more (λ i. coded method i) 0 m m (omega arith)))

-- spellings that don't suit the table are passed over
none_suits : (K : Kind) (vs : List ℤ) (best : Spelling) (list : List Spelling) → AllByRecursion (λ s. suits K vs s ≡ false) list →
    fold (shorter K vs) best list ≡ best
none_suits K vs best [] h = refl
none_suits K vs best (s ∷ list) h =
    let stays : shorter K vs best s ≡ best = rw h.0 refl in
    ap (λ b. fold (shorter K vs) b list) stays ∙ none_suits K vs best list h.1

too_short : (K : Kind) (vs : List ℤ) (method m : ℕ) → length vs ≤ method → suits K vs (coded method m) ≡ false
too_short K vs method m h = go (is_alone K (length vs))
  where
    go : (b : Bool) → cond b false (nat_lt method (length vs)) ≡ false
    go true = refl
    go false = le-ltb method (length vs) h

pub none_of_method : (K : Kind) (vs : List ℤ) (method : ℕ) (best : Spelling) → length vs ≤ method → fold (shorter K vs) best (of_method method 8) ≡ best
none_of_method K vs method best h =
    none_suits K vs best (of_method method 8)
    (all_map (λ s. suits K vs s ≡ false) (λ m. coded method m) (range_with_len 0 8)
    (all_range (λ m. suits K vs (coded method m) ≡ false) 0 8 (λ m k. too_short K vs method m h)))

pub plain_alone : (K : Kind) (vs : List ℤ) → is_alone K (length vs) ≡ true → shortest K vs ≡ plain
unfolding shortest
plain_alone K vs alone =
    none_suits K vs plain coded_spellings
    (all_flat_map (λ s. suits K vs s ≡ false) (λ method. map (λ m. coded method m) (range_with_len 0 8)) (range_with_len 0 3)
    (all_range (λ method. AllByRecursion (λ s. suits K vs s ≡ false) (map (λ m. coded method m) (range_with_len 0 8))) 0 3
    (λ method h. all_map (λ s. suits K vs s ≡ false) (λ m. coded method m) (range_with_len 0 8)
    (all_range (λ m. suits K vs (coded method m) ≡ false) 0 8 (λ m k. rw alone refl)))))

range-more : (a n : ℕ) → range_with_len a (suc n) ≡ range_with_len a n ++ (a + n) ∷ []
range-more a zero = ap (λ i. i ∷ []) (omega arith)
range-more a (suc n) =
    let place : a + 1 + n ≡ a + suc n = omega arith in
    ap (λ is. a ∷ is) (range-more (a + 1) n ∙ ap (λ i. range_with_len (a + 1) n ++ i ∷ []) place)

-- the spellings by the first so many methods
abbrev pub by_methods : ℕ → List Spelling
by_methods count = flat_map (λ method. of_method method 8) (range_with_len 0 count)

pub by_methods-more : (K : Kind) (vs : List ℤ) (method : ℕ) (best s : Spelling) → s ≡ fold (shorter K vs) best (by_methods method) →
    fold (shorter K vs) s (of_method method 8) ≡ fold (shorter K vs) best (by_methods (method + 1))
by_methods-more K vs method best s e =
    let f : ℕ → List Spelling = λ i. of_method i 8 in
    let more : range_with_len 0 (method + 1) ≡ range_with_len 0 method ++ method ∷ [] =
    ap (range_with_len 0) (add-one method) ∙ range-more 0 method ∙ ap (λ i. range_with_len 0 method ++ i ∷ []) (omega arith) in
    let parts : by_methods (method + 1) ≡ by_methods method ++ of_method method 8 =
    ap (flat_map f) more ∙ flat_map-append f (range_with_len 0 method) (method ∷ []) ∙ ap (λ ss. by_methods method ++ ss) (append-nil (of_method method 8)) in
    ap (λ t. fold (shorter K vs) t (of_method method 8)) e
    ∙ sym (fold-append (shorter K vs) best (by_methods method) (of_method method 8))
    ∙ ap (fold (shorter K vs) best) (sym parts)

pub all_methods : (K : Kind) (vs : List ℤ) → fold (shorter K vs) plain (by_methods 3) ≡ shortest K vs
unfolding shortest
all_methods K vs = refl
