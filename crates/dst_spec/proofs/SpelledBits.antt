-- What is spelled are bits.
use Rattle.std.proofs.Common.{ℕ, zero, suc, ◌+◌, ◌-◌, ◌/◌, ◌^◌, ◌<◌, ◌==◌, max, Bool, true, false, cond, if◌then◌else◌, List, [], ◌∷◌, ◌++◌, length}
use Rattle.std.proofs.Common.{map, flat_map, take, drop, reverse, replicate, arith, ℤ, pos, negsuc, ◌+ℤ◌, ◌-ℤ◌, nat_abs}
use Rattle.std.specs.List.{list_all}
use Rattle.dst_spec.specs.Bits.{low_bits, signed_bits, AreBits}
use Rattle.dst_spec.specs.Rice.{rice, sign_bits}
use Rattle.std.specs.Int.{is_negative}
use Rattle.dst_spec.specs.Table.{Kind, filter_kind, prob_kind, is_alone, plain_value, plain_values, eighth, later_values, body, Spelling, plain}
use Rattle.dst_spec.specs.Table.{coded, table_bits}
use Rattle.dst_spec.specs.Map.{map_bits, map_numbers}
use Rattle.dst_spec.specs.Header.{Params, bit_of}
use Rattle.dst_spec.specs.Spell.{shortest, map_spelling, same_numbers, maps_spelling, header_spelling}
use Rattle.dst_spec.proofs.Numbers.{AreBits-low_bits, AreBits-append}
use Rattle.dst_spec.proofs.Probabilities.{AreBits-signed_bits}

AreBits-replicate : (n b : ℕ) → b < 2 → AreBits (replicate n b)
AreBits-replicate zero b h = tt
AreBits-replicate (suc n) b h = (h, AreBits-replicate n b h)

AreBits-sign_bits : (r : ℤ) → AreBits (sign_bits r)
AreBits-sign_bits (pos zero) = tt
AreBits-sign_bits (pos (suc n)) = (omega arith, tt)
AreBits-sign_bits (negsuc n) = (omega arith, tt)

AreBits-rice : (r : ℤ) (m : ℕ) → AreBits (rice r m)
AreBits-rice r m =
    AreBits-append (replicate (nat_abs r / 2 ^ m) 0 ++ 1 ∷ low_bits m (nat_abs r)) (sign_bits r)
    (AreBits-append (replicate (nat_abs r / 2 ^ m) 0) (1 ∷ low_bits m (nat_abs r)) (AreBits-replicate (nat_abs r / 2 ^ m) 0 (omega arith)) (
      omega arith,
      AreBits-low_bits m (nat_abs r),
    ))
    (AreBits-sign_bits r)

AreBits-plain_value : (K : Kind) (v : ℤ) → AreBits (plain_value K v)
AreBits-plain_value K v = go (is_negative K.least)
  where
    go : (b : Bool) → AreBits (cond b (signed_bits K.value_bits v) (low_bits K.value_bits (nat_abs (v -ℤ K.least))))
    go true = AreBits-signed_bits K.value_bits v
    go false = AreBits-low_bits K.value_bits (nat_abs (v -ℤ K.least))

AreBits-plain_values : (K : Kind) (vs : List ℤ) → AreBits (plain_values K vs)
unfolding plain_values
AreBits-plain_values K [] = tt
AreBits-plain_values K (v ∷ vs) = AreBits-append (plain_value K v) (plain_values K vs) (AreBits-plain_value K v) (AreBits-plain_values K vs)

AreBits-later : (weights : List ℤ) (m : ℕ) (earlier vs : List ℤ) → AreBits (later_values weights m earlier vs)
unfolding later_values
AreBits-later weights m earlier [] = tt
AreBits-later weights m earlier (v ∷ vs) = AreBits-append (rice (v +ℤ eighth weights earlier) m) (later_values weights m (v ∷ earlier) vs)
    (AreBits-rice (v +ℤ eighth weights earlier) m) (AreBits-later weights m (v ∷ earlier) vs)

AreBits-body : (K : Kind) (vs : List ℤ) (s : Spelling) → AreBits (body K vs s)
AreBits-body K vs plain = (omega arith, AreBits-plain_values K vs)
AreBits-body K vs (coded method m) =
    let first = take (method + 1) vs in
    let later = later_values (K.weights method) m (reverse first) (drop (method + 1) vs) in
    AreBits-append (1 ∷ low_bits 2 method ++ plain_values K first ++ low_bits 3 m) later
    (AreBits-append (1 ∷ low_bits 2 method ++ plain_values K first) (low_bits 3 m)
    (AreBits-append (1 ∷ low_bits 2 method) (plain_values K first) (omega arith, AreBits-low_bits 2 method) (AreBits-plain_values K first))
    (AreBits-low_bits 3 m))
    (AreBits-later (K.weights method) m (reverse first) (drop (method + 1) vs))

AreBits-table_bits : (K : Kind) (vs : List ℤ) (s : Spelling) → AreBits (table_bits K vs s)
unfolding table_bits
AreBits-table_bits K vs s =
    AreBits-append (low_bits K.length_bits (length vs - 1)) (if is_alone K (length vs) then [] else body K vs s)
    (AreBits-low_bits K.length_bits (length vs - 1)) (go (is_alone K (length vs)))
  where
    go : (b : Bool) → AreBits (cond b [] (body K vs s))
    go true = tt
    go false = AreBits-body K vs s

AreBits-map_numbers : (count : ℕ) (es : List ℕ) → AreBits (map_numbers count es)
unfolding map_numbers
AreBits-map_numbers count [] = tt
AreBits-map_numbers count (e ∷ es) = AreBits-append (low_bits (map_bits count) e) (map_numbers (max count (e + 1)) es) (AreBits-low_bits (map_bits count) e)
    (AreBits-map_numbers (max count (e + 1)) es)

AreBits-map_spelling : (m : List ℕ) → AreBits (map_spelling m)
AreBits-map_spelling m = go (list_all (λ e. e == 0) m)
  where
    go : (b : Bool) → AreBits (cond b (1 ∷ []) (0 ∷ map_numbers 1 (drop 1 m)))
    go true = (omega arith, tt)
    go false = (omega arith, AreBits-map_numbers 1 (drop 1 m))

AreBits-maps_spelling : (P : Params) → AreBits (maps_spelling P)
AreBits-maps_spelling P = go (same_numbers P.filter_map P.prob_map)
  where
    go : (b : Bool) → AreBits (cond b (1 ∷ map_spelling P.filter_map) (0 ∷ map_spelling P.filter_map ++ map_spelling P.prob_map))
    go true = (omega arith, AreBits-map_spelling P.filter_map)
    go false = (
      omega arith,
      AreBits-append (map_spelling P.filter_map) (map_spelling P.prob_map) (AreBits-map_spelling P.filter_map)
          (AreBits-map_spelling P.prob_map),
    )

AreBits-halves : (half_prob : List Bool) → AreBits (map bit_of half_prob)
AreBits-halves [] = tt
AreBits-halves (true ∷ half_prob) = (omega arith, AreBits-halves half_prob)
AreBits-halves (false ∷ half_prob) = (omega arith, AreBits-halves half_prob)

AreBits-filters : (tables : List (List ℤ)) → AreBits (flat_map (λ t. table_bits filter_kind t (shortest filter_kind t)) tables)
AreBits-filters [] = tt
AreBits-filters (t ∷ tables) = AreBits-append (table_bits filter_kind t (shortest filter_kind t))
    (flat_map (λ u. table_bits filter_kind u (shortest filter_kind u)) tables) (AreBits-table_bits filter_kind t (shortest filter_kind t))
    (AreBits-filters tables)

AreBits-probs : (tables : List (List ℕ)) → AreBits (flat_map (λ t. table_bits prob_kind (map pos t) (shortest prob_kind (map pos t))) tables)
AreBits-probs [] = tt
AreBits-probs (t ∷ tables) = AreBits-append (table_bits prob_kind (map pos t) (shortest prob_kind (map pos t)))
    (flat_map (λ u. table_bits prob_kind (map pos u) (shortest prob_kind (map pos u))) tables)
    (AreBits-table_bits prob_kind (map pos t) (shortest prob_kind (map pos t))) (AreBits-probs tables)

pub AreBits-header : (P : Params) → AreBits (header_spelling P)
unfolding header_spelling
AreBits-header P =
    let filters = flat_map (λ t. table_bits filter_kind t (shortest filter_kind t)) P.filters in
    let probs = flat_map (λ t. table_bits prob_kind (map pos t) (shortest prob_kind (map pos t))) P.probs in
    AreBits-append (1 ∷ 1 ∷ 1 ∷ 1 ∷ maps_spelling P ++ map bit_of P.half_prob ++ filters) probs
    (AreBits-append (1 ∷ 1 ∷ 1 ∷ 1 ∷ maps_spelling P ++ map bit_of P.half_prob) filters
    (AreBits-append (1 ∷ 1 ∷ 1 ∷ 1 ∷ maps_spelling P) (map bit_of P.half_prob) (
      omega arith,
      (omega arith, (omega arith, (omega arith, AreBits-maps_spelling P))),
    ) (AreBits-halves P.half_prob)) (AreBits-filters P.filters)) (AreBits-probs P.probs)
