-- The header that is spelled is one of the parameters.
use Rattle.std.proofs.Common.{◌≡◌, inl, inr, ℕ, ◌<◌, ◌≤◌, ◌==◌, ◌&&◌, nat_lt, Bool, true, false, cond, if◌then◌else◌, List, [], ◌∷◌, ◌++◌, length}
use Rattle.std.proofs.Common.{map, flat_map, fold, replicate, refl, ap, ap₂, sym, subst, arith, ℤ, pos, eqb-true, ltb-true}
use Rattle.std.specs.List.{AllByRecursion, range_with_len, list_all}
use Rattle.dst_spec.specs.Table.{Kind, filter_kind, prob_kind, IsTable, is_alone, Spelling, plain, coded, Suits, table_bits, HasTable}
use Rattle.dst_spec.specs.Map.{Numbers, IsMap, map_numbers, HasMap}
use Rattle.dst_spec.specs.Header.{Params, IsParams, HasMaps, HasTables, HasHeader}
use Rattle.dst_spec.specs.Spell.{coded_spellings, suits, shortest, map_spelling, same_numbers, maps_spelling, header_spelling}
use Rattle.dst_spec.proofs.Lists.{all_map, all_flat_map, all_range, both_true}

-- ---- the shortest spelling of a table is one of its spellings
abbrev IsCandidate : Spelling → Type 0
IsCandidate plain = Unit {0}
IsCandidate (coded method m) = (method < 3) × (m < 8)

candidates : AllByRecursion IsCandidate coded_spellings
candidates =
    all_flat_map IsCandidate (λ method. map (λ m. coded method m) (range_with_len 0 8)) (range_with_len 0 3)
    (all_range (λ method. AllByRecursion IsCandidate (map (λ m. coded method m) (range_with_len 0 8))) 0 3
    (λ method h. all_map IsCandidate (λ m. coded method m) (range_with_len 0 8) (all_range (λ m. (method < 3) × (m < 8)) 0 8 (λ m k. (h, k)))))

Suits-suits : (K : Kind) (values : List ℤ) (s : Spelling) → IsCandidate s → suits K values s ≡ true → Suits K values s
Suits-suits K values plain c h = tt
Suits-suits K values (coded method m) c h = go (is_alone K (length values)) (nat_lt method (length values)) refl refl h
  where
    go : (a b : Bool) → is_alone K (length values) ≡ a → nat_lt method (length values) ≡ b → cond a false b ≡ true → Suits K values (coded method m)
    go true b p q r = absurd cc
    go false true p q r =
        let lt : method < length values = ltb-true method (length values) q in
        (p, c.0, omega arith, c.1)
    go false false p q r = absurd cc

better : (K : Kind) (values : List ℤ) (best s : Spelling) (b : Bool) → Suits K values best → IsCandidate s →
    Suits K values (cond (suits K values s && b) s best)
better K values best s b h c = go (suits K values s) b refl
  where
    go : (t b : Bool) → suits K values s ≡ t → Suits K values (cond (t && b) s best)
    go true true e = Suits-suits K values s c e
    go true false e = h
    go false b e = h

suits_fold : (K : Kind) (values : List ℤ) (best : Spelling) (list : List Spelling) → Suits K values best → AllByRecursion IsCandidate list →
    Suits K values (fold (λ best s. if suits K values s && nat_lt (length (table_bits K values s)) (length (table_bits K values best)) then s else best)
    best list)
suits_fold K values best [] h c = h
suits_fold K values best (s ∷ list) h c =
    suits_fold K values (if suits K values s && nat_lt (length (table_bits K values s)) (length (table_bits K values best)) then s else best) list
    (better K values best s (nat_lt (length (table_bits K values s)) (length (table_bits K values best))) h c.0) c.1

pub HasTable-shortest : (K : Kind) (values : List ℤ) → IsTable K values → HasTable K values (table_bits K values (shortest K values))
unfolding shortest
HasTable-shortest K values t = record {
  table = t;
  spelling = shortest K values;
  suits = suits_fold K values plain coded_spellings tt candidates;
  spelled = refl;
}

HasTables-shortest : (K : Kind) (tables : List (List ℤ)) → AllByRecursion (IsTable K) tables →
    HasTables K tables (flat_map (λ t. table_bits K t (shortest K t)) tables)
unfolding HasTables
HasTables-shortest K [] h = refl
HasTables-shortest K (t ∷ tables) h =
    (table_bits K t (shortest K t), flat_map (λ u. table_bits K u (shortest K u)) tables, HasTable-shortest K t h.0, HasTables-shortest K tables h.1, refl)

-- ---- maps
all_zeros : (m : List ℕ) → list_all (λ e. e == 0) m ≡ true → m ≡ replicate (length m) 0
all_zeros [] h = refl
all_zeros (e ∷ es) h =
    let p = both_true (e == 0) (list_all (λ x. x == 0) es) h in
    ap₂ (λ x xs. x ∷ xs) (eqb-true e 0 p.0) (all_zeros es p.1)

HasMap-spelling : (channels : ℕ) (m : List ℕ) → 1 ≤ channels → IsMap channels m → HasMap m (map_spelling m)
unfolding Numbers
HasMap-spelling channels [] h k = absurd (omega (arith, k.0))
HasMap-spelling channels (e ∷ es) h k = go (list_all (λ x. x == 0) (e ∷ es)) refl
  where
    first : e ≡ 0
    first = omega (arith, k.1.0)

    go : (b : Bool) → list_all (λ x. x == 0) (e ∷ es) ≡ b → HasMap (e ∷ es) (cond b (1 ∷ []) (0 ∷ map_numbers 1 es))
    go true p = inl (all_zeros (e ∷ es) p, refl)
    go false p = inr (es, ap (λ x. x ∷ es) first, refl)

same_lists : (a b : List ℕ) → same_numbers a b ≡ true → a ≡ b
same_lists [] [] h = refl
same_lists [] (y ∷ ys) h = absurd cc
same_lists (x ∷ xs) [] h = absurd cc
same_lists (x ∷ xs) (y ∷ ys) h =
    let p = both_true (x == y) (same_numbers xs ys) h in
    ap₂ (λ z zs. z ∷ zs) (eqb-true x y p.0) (same_lists xs ys p.1)

HasMaps-spelling : (channels : ℕ) (P : Params) → 1 ≤ channels → IsParams channels P → HasMaps P.filter_map P.prob_map (maps_spelling P)
HasMaps-spelling channels P h p = go (same_numbers P.filter_map P.prob_map) refl
  where
    go : (b : Bool) → same_numbers P.filter_map P.prob_map ≡ b →
        HasMaps P.filter_map P.prob_map (cond b (1 ∷ map_spelling P.filter_map) (0 ∷ map_spelling P.filter_map ++ map_spelling P.prob_map))
    go true e = inl (map_spelling P.filter_map, HasMap-spelling channels P.filter_map h p.filter_map, sym (same_lists P.filter_map P.prob_map e), refl)
    go false e = inr (
      map_spelling P.filter_map,
      map_spelling P.prob_map,
      HasMap-spelling channels P.filter_map h p.filter_map,
      HasMap-spelling channels P.prob_map h p.prob_map,
      refl,
    )

-- ---- the header that is written is one
probs_as_tables : (probs : List (List ℕ)) → AllByRecursion (λ entries. IsTable prob_kind (map pos entries)) probs →
    AllByRecursion (IsTable prob_kind) (map (λ entries. map pos entries) probs)
probs_as_tables [] h = tt
probs_as_tables (t ∷ probs) h = (h.0, probs_as_tables probs h.1)

flat_map-map : (probs : List (List ℕ)) → flat_map (λ t. table_bits prob_kind t (shortest prob_kind t)) (map (λ entries. map pos entries) probs) ≡ flat_map
    (λ t. table_bits prob_kind (map pos t) (shortest prob_kind (map pos t))) probs
flat_map-map [] = refl
flat_map-map (t ∷ probs) = ap (λ zs. table_bits prob_kind (map pos t) (shortest prob_kind (map pos t)) ++ zs) (flat_map-map probs)

pub HasHeader-spelling : (channels : ℕ) (P : Params) → 1 ≤ channels → IsParams channels P → HasHeader channels P (header_spelling P)
unfolding header_spelling
HasHeader-spelling channels P h p = record {
  params = p;
  segments = 1 ∷ 1 ∷ 1 ∷ [];
  maps = maps_spelling P;
  filters = flat_map (λ t. table_bits filter_kind t (shortest filter_kind t)) P.filters;
  probs = flat_map (λ t. table_bits prob_kind (map pos t) (shortest prob_kind (map pos t))) P.probs;
  has_segments = inl (1 ∷ 1 ∷ [], inl refl, refl);
  has_maps = HasMaps-spelling channels P h p;
  has_filters = HasTables-shortest filter_kind P.filters p.filters;
  has_probs = subst (HasTables prob_kind (map (λ entries. map pos entries) P.probs)) (flat_map-map P.probs)
      (HasTables-shortest prob_kind (map (λ entries. map pos entries) P.probs) (probs_as_tables P.probs p.probs));
  spelled = refl;
}
