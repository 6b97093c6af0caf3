-- How many bits ahead a lane holds.
use Rattle.std.proofs.Common.{◌≡◌, ℕ, ◌+◌, ◌-◌, ◌*◌, ◌/◌, ◌%◌, ◌^◌, ◌<◌, ◌≤◌, Bool, true, false, nat_lt, nat_eq, ◌||◌, ltb-true, ltb-false, List}
use Rattle.std.proofs.Common.{get_or, bit_or}
use Rattle.std.proofs.Common.{refl, ap, ◌∙◌, arith, below_more, ◌⊎◌, inl, inr}
use Rattle.std.proofs.lemmas.Bool.{eqb-true, eqb-false, or_parts}
use Rattle.std.proofs.lemmas.Nat.{pow-add, shl-shr, le_or_l, le_or_r}
use Rattle.std.proofs.lemmas.Nat.Bits.{bit_at_cat_low, bit_at-zero}
use Rattle.dst_spec.specs.Bits.{bits, number_from}
use Rattle.arith_decoder.specs.Registers.{IsValue}
use Rattle.arith_decoder.proofs.Registers.{value_odd}
use Rattle.arith_lanes.specs.Lanes.{registers_at, value_of, used_at, first_at, ahead_at, IsLane}
use Rattle.arith_lanes.specs.declared.lanes.ArithLanes.{ArithLanes}
use Rattle.arith_lanes.proofs.Taking.{lane_zeros}

pub many_zeros : (xs : List ℕ) (start place offset value : ℕ) → (v : IsValue xs start place offset value) → value % 68719476736 ≡ 0 → 36 ≤ v.zeros
many_zeros xs start place offset value v h = go (nat_lt v.zeros 36) refl
  where
    go : (b : Bool) → nat_lt v.zeros 36 ≡ b → 36 ≤ v.zeros
    go false e = ltb-false v.zeros 36 e
    go true e =
        let n = number_from xs start v.ahead in
        let lt : v.zeros < 36 = ltb-true v.zeros 36 e in
        let odd = v.is ∙ value_odd offset n v.ahead v.zeros v.full in
        let whole : value ≡ value / 68719476736 * 2 ^ 36 + 0 = omega arith in
        let none = ap (λ x. x / 2 ^ v.zeros % 2) whole ∙ bit_at_cat_low (value / 68719476736) 36 0 v.zeros lt ∙ bit_at-zero v.zeros in
        let one : value / 2 ^ v.zeros % 2 ≡ 1 = ap (λ x. x / 2 ^ v.zeros % 2) odd ∙ ap (λ x. x % 2) (shl-shr (2 * (offset * 2 ^ v.ahead + n) + 1) v.zeros)
        ∙ omega arith in
        absurd (omega arith)

pub few_zeros : (xs : List ℕ) (start place offset value : ℕ) → (v : IsValue xs start place offset value) → (value % 68719476736 ≡ 0 → ⊥) → v.zeros < 36
few_zeros xs start place offset value v h = go (nat_lt v.zeros 36) refl
  where
    go : (b : Bool) → nat_lt v.zeros 36 ≡ b → v.zeros < 36
    go true e = ltb-true v.zeros 36 e
    go false e =
        let le : 36 ≤ v.zeros = ltb-false v.zeros 36 e in
        let z = v.zeros - 36 in
        let c = 2 * (offset * 2 ^ v.ahead + number_from xs start v.ahead) + 1 in
        let odd = v.is ∙ value_odd offset (number_from xs start v.ahead) v.ahead v.zeros v.full in
        let split : v.zeros ≡ z + 36 = omega arith in
        let power : 2 ^ v.zeros ≡ 2 ^ z * 68719476736 = ap (λ k. 2 ^ k) split ∙ pow-add 2 z 36 in
        let whole : value ≡ c * 2 ^ z * 68719476736 = odd ∙ ap (λ x. c * x) power ∙ omega arith in
        absurd (h (rw whole (omega arith)))

-- a lane whose lowest 32 bits aren't all 0 has many bits ahead, and few otherwise
pub many_ahead : (s : ArithLanes) (n : ℕ) (bytes : List ℕ) → IsLane s n bytes → get_or s.middle n 0 < 65536 → get_or s.low n 0 < 65536 →
    nat_eq (bit_or (get_or s.middle n 0) (get_or s.low n 0)) 0 ≡ false → 16 ≤ ahead_at s n
many_ahead s n bytes lane m l e =
    let v = lane.registers.holds in
    let some = eqb-false (bit_or (get_or s.middle n 0) (get_or s.low n 0)) 0 e in
    let odd : value_of (registers_at s n) % 68719476736 ≡ 0 → ⊥ = λ none. some (none_of (get_or s.middle n 0) (get_or s.low n 0) (omega arith) (omega arith)) in
    let few = few_zeros (bits bytes) (first_at s n + used_at s n) (get_or s.place n 0) (value_of (registers_at s n) / 2 ^ 52)
    (value_of (registers_at s n)) v odd in
    let held = lane_zeros s n bytes lane in
    let full = v.full in
    omega arith
  where
    none_of : (a b : ℕ) → a ≡ 0 → b ≡ 0 → bit_or a b ≡ 0
    none_of a b e f = rw (e, f) refl

pub few_ahead : (s : ArithLanes) (n : ℕ) (bytes : List ℕ) → IsLane s n bytes →
    nat_eq (bit_or (get_or s.middle n 0) (get_or s.low n 0)) 0 ≡ true → ahead_at s n < 16
few_ahead s n bytes lane e =
    let v = lane.registers.holds in
    let none = eqb-true (bit_or (get_or s.middle n 0) (get_or s.low n 0)) 0 e in
    let a = le_or_l (get_or s.middle n 0) (get_or s.low n 0) in
    let b = le_or_r (get_or s.middle n 0) (get_or s.low n 0) in
    let low : value_of (registers_at s n) % 68719476736 ≡ 0 = omega arith in
    let many = many_zeros (bits bytes) (first_at s n + used_at s n) (get_or s.place n 0) (value_of (registers_at s n) / 2 ^ 52)
    (value_of (registers_at s n)) v low in
    let held = lane_zeros s n bytes lane in
    let full = v.full in
    omega arith

-- what a disjunction says
pub either : (a b : Bool) → (a || b) ≡ true → (a ≡ true) ⊎ (b ≡ true)
either true b e = inl refl
either false b e = inr e

-- one lane more is tested
pub longer : (s : ArithLanes) (i : ℕ) (short : Bool) → (short ≡ false → (m : ℕ) (bytes : List ℕ) → m < i → IsLane s m bytes → 16 ≤ ahead_at s m) →
    get_or s.middle i 0 < 65536 → get_or s.low i 0 < 65536 →
    (short || nat_eq (bit_or (get_or s.middle i 0) (get_or s.low i 0)) 0) ≡ false → (m : ℕ) (bytes : List ℕ) → m < i + 1 → IsLane s m bytes → 16 ≤ ahead_at s m
longer s i short before a b e m bytes h lane =
    let both = or_parts short (nat_eq (bit_or (get_or s.middle i 0) (get_or s.low i 0)) 0) e in
    let P : ℕ → Type 0 = λ k. (bytes : List ℕ) → IsLane s k bytes → 16 ≤ ahead_at s k in
    below_more P i (λ k h bytes lane. before both.0 k bytes h lane) (λ bytes lane. many_ahead s i bytes lane a b both.1) m h bytes lane

pub shorter : (s : ArithLanes) (i : ℕ) (short : Bool) → i < 8 →
    (short ≡ true → (m : ℕ) × (m < 8) × ((bytes : List ℕ) → IsLane s m bytes → ahead_at s m < 16)) →
    (short || nat_eq (bit_or (get_or s.middle i 0) (get_or s.low i 0)) 0) ≡ true →
    (m : ℕ) × (m < 8) × ((bytes : List ℕ) → IsLane s m bytes → ahead_at s m < 16)
shorter s i short h before e = go (either short (nat_eq (bit_or (get_or s.middle i 0) (get_or s.low i 0)) 0) e)
  where
    go : (short ≡ true) ⊎ (nat_eq (bit_or (get_or s.middle i 0) (get_or s.low i 0)) 0 ≡ true) →
        (m : ℕ) × (m < 8) × ((bytes : List ℕ) → IsLane s m bytes → ahead_at s m < 16)
    go (inl was) = before was
    go (inr is) = (i, h, λ bytes lane. few_ahead s i bytes lane is)
