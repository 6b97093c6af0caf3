-- The fields of a header that were read are a header, with the parameters that they gave.
use Rattle.std.proofs.Common.{◌≡◌, ℕ, zero, suc, ◌/◌, ◌%◌, ◌^◌, ◌<◌, ◌==◌, List, [], ◌∷◌, ◌++◌, length, map, refl, ap, ap₂, sym, subst, ◌∙◌, arith}
use Rattle.std.proofs.Common.{append_assoc, ℤ, pos, negsuc, nat_abs}
use Rattle.std.proofs.lemmas.Int.{ints}
use Rattle.std.proofs.lemmas.List.{length-map}
use Rattle.std.specs.List.{AllByRecursion}
use Rattle.dst_spec.specs.Bits.{low_bits, AreBits}
use Rattle.dst_spec.specs.Table.{filter_kind, prob_kind, InRange, IsTable}
use Rattle.dst_spec.specs.Map.{IsMap, element_count}
use Rattle.dst_spec.specs.Header.{Params, IsParams, bit_of, HasSegments, HasMaps, HasTables, HasHeader}
use Rattle.dst_spec.specs.Fields.{Fields, gives, ◌>>=◌, number}
use Rattle.dst_spec.specs.Offends.{times, both_segments, both_maps, table_fields, header_fields}
use Rattle.dst_spec.proofs.Taking.{Takes, Takes-bind, Takes-number, Takes-last, Takes-weaker}
use Rattle.dst_spec.proofs.Tables.{filters_are_kind, probs_are_kind}
use Rattle.dst_spec.proofs.TakingMaps.{EachIs, Takes-times, Takes-both_segments, Takes-both_maps}
use Rattle.dst_spec.proofs.TakingTables.{each_is_table, Takes-tables}

-- half bits
halves_are : (w xs : List ℕ) → EachIs (λ w v. (v < 2) × (w ≡ v ∷ [])) w xs → AreBits xs × (w ≡ xs)
halves_are w [] h = (tt, h)
halves_are w (x ∷ xs) h =
    let rest = halves_are h.1 xs h.3 in
    ((h.2.0, rest.0), h.4 ∙ ap₂ (λ s t. s ++ t) h.2.1 rest.1)

Takes-halves : (n : ℕ) → Takes (times n (number 1)) (λ w xs. (length xs ≡ n) × AreBits xs × (w ≡ xs))
unfolding low_bits
Takes-halves n =
    let one : Takes (number 1) (λ w v. (v < 2) × (w ≡ v ∷ [])) =
    Takes-weaker (number 1) (λ w v. (v < 2 ^ 1) × (w ≡ low_bits 1 v)) (λ w v. (v < 2) × (w ≡ v ∷ [])) (Takes-number 1)
    (λ w v h. (h.0, h.1 ∙ ap (λ z. z ∷ []) (low_bit v h.0))) in
    Takes-weaker (times n (number 1)) (λ w xs. (length xs ≡ n) × EachIs (λ w v. (v < 2) × (w ≡ v ∷ [])) w xs) (λ w xs. (length xs ≡ n) × AreBits xs × (w ≡ xs))
    (Takes-times n (number 1) (λ w v. (v < 2) × (w ≡ v ∷ [])) one) (λ w xs h. (h.0, (halves_are w xs h.1).0, (halves_are w xs h.1).1))
  where
    low_bit : (v : ℕ) → v < 2 → v / 1 % 2 ≡ v
    low_bit v h = omega arith

bits_again : (xs : List ℕ) → AreBits xs → map bit_of (map (λ b. b == 1) xs) ≡ xs
bits_again [] h = refl
bits_again (zero ∷ xs) h = ap (λ zs. 0 ∷ zs) (bits_again xs h.1)
bits_again (suc zero ∷ xs) h = ap (λ zs. 1 ∷ zs) (bits_again xs h.1)
bits_again (suc (suc x) ∷ xs) h = absurd (omega (arith, h.0))

-- the values of probabilities as numbers
probs_again : (vs : List ℤ) → AllByRecursion (InRange prob_kind) vs → map pos (map nat_abs vs) ≡ vs
probs_again [] h = refl
probs_again (pos n ∷ vs) h = ap (λ zs. pos n ∷ zs) (probs_again vs h.1)
probs_again (negsuc n ∷ vs) h = absurd (omega (arith, ints, h.0.0))

tables_again : (tables : List (List ℤ)) → AllByRecursion (IsTable prob_kind) tables →
    map (λ entries. map pos entries) (map (λ entries. map nat_abs entries) tables) ≡ tables
tables_again [] h = refl
tables_again (t ∷ tables) h = ap₂ (λ x xs. x ∷ xs) (probs_again t h.0.each) (tables_again tables h.1)

probs_are : (tables : List (List ℤ)) → AllByRecursion (IsTable prob_kind) tables →
    AllByRecursion (λ entries. IsTable prob_kind (map pos entries)) (map (λ entries. map nat_abs entries) tables)
probs_are [] h = tt
probs_are (t ∷ tables) h = (subst (IsTable prob_kind) (sym (probs_again t h.0.each)) h.0, probs_are tables h.1)

-- ---- a header, from its last part to its first
abbrev pub made : List ℕ × List ℕ → List ℕ → List (List ℤ) → List (List ℤ) → Params
made maps half_prob filters probs =
    record {
      filter_map = maps.0;
      prob_map = maps.1;
      half_prob = map (λ b. b == 1) half_prob;
      filters = filters;
      probs = map (λ entries. map nat_abs entries) probs;
    }

abbrev pub prob_part : List ℕ × List ℕ → List ℕ → List (List ℤ) → Fields Params
prob_part maps half_prob filters = times (element_count maps.1) (table_fields prob_kind) >>= (λ probs. gives (made maps half_prob filters probs))

abbrev filter_part : List ℕ × List ℕ → List ℕ → Fields Params
filter_part maps half_prob = times (element_count maps.0) (table_fields filter_kind) >>= (λ filters. prob_part maps half_prob filters)

abbrev half_part : ℕ → List ℕ × List ℕ → Fields Params
half_part channels maps = times channels (number 1) >>= (λ half_prob. filter_part maps half_prob)

abbrev map_part : ℕ → Fields Params
map_part channels = both_maps channels >>= (λ maps. half_part channels maps)

record IsProbPart (maps : List ℕ × List ℕ) (half_prob : List ℕ) (filters : List (List ℤ)) (w : List ℕ) (P : Params) : Type 0 where
  probs : List (List ℤ)
  count : length probs ≡ element_count maps.1
  has : HasTables prob_kind probs w
  whole : P ≡ made maps half_prob filters probs

Takes-prob_part : (maps : List ℕ × List ℕ) (half_prob : List ℕ) (filters : List (List ℤ)) →
    Takes (prob_part maps half_prob filters) (IsProbPart maps half_prob filters)
Takes-prob_part maps half_prob filters =
    Takes-last (times (element_count maps.1) (table_fields prob_kind)) (λ probs. made maps half_prob filters probs)
    (λ w ts. (length ts ≡ element_count maps.1) × HasTables prob_kind ts w) (IsProbPart maps half_prob filters)
    (Takes-tables prob_kind (element_count maps.1) probs_are_kind (omega (arith, ints), omega (arith, ints)))
    (λ w probs a. record { probs = probs; count = a.0; has = a.1; whole = refl })

record IsFilterPart (maps : List ℕ × List ℕ) (half_prob : List ℕ) (w : List ℕ) (P : Params) : Type 0 where
  filters : List (List ℤ)
  front : List ℕ
  rest : List ℕ
  count : length filters ≡ element_count maps.0
  has : HasTables filter_kind filters front
  behind : IsProbPart maps half_prob filters rest P
  spelled : w ≡ front ++ rest

Takes-filter_part : (maps : List ℕ × List ℕ) (half_prob : List ℕ) → Takes (filter_part maps half_prob) (IsFilterPart maps half_prob)
Takes-filter_part maps half_prob =
    Takes-bind (times (element_count maps.0) (table_fields filter_kind)) (λ filters. prob_part maps half_prob filters)
    (λ w ts. (length ts ≡ element_count maps.0) × HasTables filter_kind ts w)
    (IsProbPart maps half_prob) (IsFilterPart maps half_prob)
    (Takes-tables filter_kind (element_count maps.0) filters_are_kind (omega (arith, ints), omega (arith, ints))) (Takes-prob_part maps half_prob)
    (λ u v filters P a b. record { filters = filters; front = u; rest = v; count = a.0; has = a.1; behind = b; spelled = refl })

record IsHalfPart (channels : ℕ) (maps : List ℕ × List ℕ) (w : List ℕ) (P : Params) : Type 0 where
  half_prob : List ℕ
  rest : List ℕ
  count : length half_prob ≡ channels
  bits : AreBits half_prob
  behind : IsFilterPart maps half_prob rest P
  spelled : w ≡ half_prob ++ rest

Takes-half_part : (channels : ℕ) (maps : List ℕ × List ℕ) → Takes (half_part channels maps) (IsHalfPart channels maps)
Takes-half_part channels maps =
    Takes-bind (times channels (number 1)) (λ half_prob. filter_part maps half_prob) (λ w xs. (length xs ≡ channels) × AreBits xs × (w ≡ xs))
    (IsFilterPart maps) (IsHalfPart channels maps)
    (Takes-halves channels) (Takes-filter_part maps)
    (λ u v half_prob P a b. record { half_prob = half_prob; rest = v; count = a.0; bits = a.1; behind = b; spelled = ap (λ zs. zs ++ v) a.2 })

record IsMapPart (channels : ℕ) (w : List ℕ) (P : Params) : Type 0 where
  maps : List ℕ × List ℕ
  front : List ℕ
  rest : List ℕ
  filter_map : IsMap channels maps.0
  prob_map : IsMap channels maps.1
  has : HasMaps maps.0 maps.1 front
  behind : IsHalfPart channels maps rest P
  spelled : w ≡ front ++ rest

Takes-map_part : (n : ℕ) → Takes (map_part (suc n)) (IsMapPart (suc n))
Takes-map_part n =
    Takes-bind (both_maps (suc n)) (λ maps. half_part (suc n) maps) (λ w p. IsMap (suc n) p.0 × IsMap (suc n) p.1 × HasMaps p.0 p.1 w) (IsHalfPart (suc n))
    (IsMapPart (suc n))
    (Takes-both_maps n) (Takes-half_part (suc n))
    (λ u v maps P a b. record { maps = maps; front = u; rest = v; filter_map = a.0; prob_map = a.1; has = a.2; behind = b; spelled = refl })

header_of_parts : (channels : ℕ) (segments w : List ℕ) (P : Params) → HasSegments channels segments → IsMapPart channels w P →
    HasHeader channels P (1 ∷ segments ++ w)
header_of_parts channels segments w P s m =
    let h = m.behind in
    let f = h.behind in
    let p = f.behind in
    let probs = each_is_table prob_kind f.rest p.probs p.has in
    let whole = p.whole in
    let Q = made m.maps h.half_prob f.filters p.probs in
    let again = tables_again p.probs probs in
    let params : IsParams channels Q = record {
      filter_map = m.filter_map;
      prob_map = m.prob_map;
      half_prob = length-map h.half_prob (λ b. b == 1) ∙ h.count;
      filter_count = f.count;
      prob_count = length-map p.probs (λ entries. map nat_abs entries) ∙ p.count;
      filters = each_is_table filter_kind f.front f.filters f.has;
      probs = probs_are p.probs probs;
    } in
    let spelled : 1 ∷ segments ++ w ≡ 1 ∷ segments ++ m.front ++ map bit_of Q.half_prob ++ f.front ++ f.rest =
    rw (bits_again h.half_prob h.bits, m.spelled, h.spelled, f.spelled) (ap (λ zs. 1 ∷ zs) (five segments m.front h.half_prob f.front f.rest)) in
    let header : HasHeader channels Q (1 ∷ segments ++ w) = record {
      params = params;
      segments = segments;
      maps = m.front;
      filters = f.front;
      probs = f.rest;
      has_segments = s;
      has_maps = m.has;
      has_filters = f.has;
      has_probs = subst (λ ts. HasTables prob_kind ts f.rest) (sym again) p.has;
      spelled = spelled;
    } in
    subst (λ R. HasHeader channels R (1 ∷ segments ++ w)) (sym whole) header
  where
    five : (a b c d e : List ℕ) → a ++ (b ++ (c ++ (d ++ e))) ≡ a ++ b ++ c ++ d ++ e
    five a b c d e = simp append_assoc

-- the bits that a header's fields were read from are a header, with the bit 1 in front of them
pub Takes-header : (n : ℕ) → Takes (header_fields (suc n)) (λ w P. HasHeader (suc n) P (1 ∷ w))
unfolding header_fields
Takes-header n =
    Takes-bind (both_segments (suc n)) (λ s. map_part (suc n)) (λ w x. HasSegments (suc n) w) (λ s w P. IsMapPart (suc n) w P)
    (λ w P. HasHeader (suc n) P (1 ∷ w))
    (Takes-both_segments (suc n)) (λ s. Takes-map_part n) (λ u v s P a b. header_of_parts (suc n) u v P a b)
