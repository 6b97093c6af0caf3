-- The laws of both kinds of tables.
use Rattle.std.proofs.Common.{◌≡◌, ℕ, zero, suc, ◌-◌, ◌<◌, ◌≤◌, Bool, true, false, nat_lt, cond, ℤ, pos, negsuc, ◌-ℤ◌, List, [], ◌∷◌, map, refl, ap₂}
use Rattle.std.proofs.Common.{arith, ltb-true, ltb-false, lt-ltb, le-ltb}
use Rattle.std.proofs.lemmas.Int.{ints}
use Rattle.dst_spec.specs.Table.{filter_kind, prob_kind, InRange}
use Rattle.dst_spec.specs.Offends.{value_of}
use Rattle.table_code.specs.Kinds.{IsSmall, HasPlainValues, HasWeights}

pub filter_small : IsSmall filter_kind
filter_small = record {
  some_length = omega arith;
  most_length = omega arith;
  some_value = omega arith;
  most_value = omega arith;
  least = omega (arith, ints);
  greatest = omega (arith, ints);
}

pub prob_small : IsSmall prob_kind
prob_small = record {
  some_length = omega arith;
  most_length = omega arith;
  some_value = omega arith;
  most_value = omega arith;
  least = omega (arith, ints);
  greatest = omega (arith, ints);
}

pub filter_plain : HasPlainValues filter_kind
filter_plain = (λ x h. within x (nat_lt x 256) refl h, spelled)
  where
    within : (x : ℕ) (b : Bool) → nat_lt x 256 ≡ b → x < 512 → InRange filter_kind (cond b (pos x) (pos x -ℤ pos 512))
    within x true e h =
        let lt : x < 256 = omega (arith, ltb-true) in
        (omega (arith, ints), omega (arith, ints))
    within x false e h =
        let le : 256 ≤ x = omega (arith, ltb-false) in
        (omega (arith, ints), omega (arith, ints))

    spelled : (v : ℤ) → InRange filter_kind v → (x : ℕ) × (x < 512) × (value_of filter_kind x ≡ v)
    spelled (pos n) h =
        let most : n ≤ 255 = omega (arith, ints, h.1) in
        (n, omega arith, rw (lt-ltb n 256 (omega arith)) refl)
    spelled (negsuc n) h =
        let most : n ≤ 255 = omega (arith, ints, h.0) in
        (511 - n, omega arith, rw (le-ltb (511 - n) 256 (omega arith)) (omega (arith, ints)))

pub prob_plain : HasPlainValues prob_kind
prob_plain = (λ x h. (omega (arith, ints), omega (arith, ints)), spelled)
  where
    spelled : (v : ℤ) → InRange prob_kind v → (x : ℕ) × (x < 128) × (value_of prob_kind x ≡ v)
    spelled (pos n) h =
        let least : 1 ≤ n = omega (arith, ints, h.0) in
        let most : n ≤ 128 = omega (arith, ints, h.1) in
        (n - 1, omega arith, omega (arith, ints))
    spelled (negsuc n) h = absurd (omega (arith, ints, h.0))

pub filter_weights : HasWeights filter_kind
filter_weights zero h = (refl, omega arith)
filter_weights (suc zero) h = (refl, omega arith)
filter_weights (suc (suc zero)) h = (refl, omega arith)
filter_weights (suc (suc (suc n))) h = absurd (omega arith)

pub prob_weights : HasWeights prob_kind
prob_weights zero h = (refl, omega arith)
prob_weights (suc zero) h = (refl, omega arith)
prob_weights (suc (suc zero)) h = (refl, omega arith)
prob_weights (suc (suc (suc n))) h = absurd (omega arith)

pub prob_same : (xs ys : List ℕ) → map pos xs ≡ map pos ys → xs ≡ ys
prob_same [] [] e = refl
prob_same [] (y ∷ ys) e = absurd cc
prob_same (x ∷ xs) [] e = absurd cc
prob_same (x ∷ xs) (y ∷ ys) e =
    let front : x ≡ y = cc in
    ap₂ (λ z zs. z ∷ zs) front (prob_same xs ys cc)
