-- The value's offset and the bits behind it.
use Rattle.std.proofs.Common.{◌≡◌, ℕ, ◌+◌, ◌-◌, ◌*◌, ◌/◌, ◌%◌, ◌^◌, ◌<◌, ◌≤◌, List, refl, ap, sym, ◌∙◌, arith, Bool, true, false, nat_lt, ltb-true, ltb-false}
use Rattle.std.proofs.lemmas.Nat.{pow-add, pow_pos, shl-shr, shr_high, one_shl, shl_whole, mul-le}
use Rattle.std.proofs.lemmas.Nat.Bits.{bit_at-trailing_zeros, bit_at_cat_low, bit_at-zero}
use Rattle.std.specs.Int.{trailing_zeros, w64}
use Rattle.dst_spec.specs.Bits.{number_from, AreBits}
use Rattle.dst_spec.proofs.Numbers.{number_from-below, number_from-add}
use Rattle.arith_decoder.specs.Registers.{IsValue}

pub pow_full : (a z : ℕ) → a + z ≡ 51 → 2 ^ a * 2 ^ z ≡ 2251799813685248
pow_full a z e = sym (pow-add 2 a z) ∙ ap (λ k. 2 ^ k) e

-- the lowest bit that is 1
pub odd_zeros : (n c t : ℕ) → t < 64 → n < 2 ^ 64 → n ≡ (2 * c + 1) * 2 ^ t → trailing_zeros w64 n ≡ t
odd_zeros n c t h fits e =
    let p = pow_pos t in
    let some : 0 < n = rw e (grind arith) in
    let z = bit_at-trailing_zeros w64 n some fits in
    let at : n / 2 ^ t % 2 ≡ 1 = rw (e, shl-shr (2 * c + 1) t) (omega arith) in
    go (nat_lt (trailing_zeros w64 n) t) refl z.1 (λ lt. z.2 t lt) at
  where
    below : (i : ℕ) → i < t → n / 2 ^ i % 2 ≡ 0
    below i lt =
        let q = bit_at_cat_low (2 * c + 1) t 0 i lt in
        let same : (2 * c + 1) * 2 ^ t + 0 ≡ n = omega (arith, e) in
        ap (λ m. m / 2 ^ i % 2) (sym same) ∙ q ∙ bit_at-zero i

    go : (b : Bool) → nat_lt (trailing_zeros w64 n) t ≡ b → n / 2 ^ trailing_zeros w64 n % 2 ≡ 1 → (t < trailing_zeros w64 n → n / 2 ^ t % 2 ≡ 0) →
        n / 2 ^ t % 2 ≡ 1 → trailing_zeros w64 n ≡ t
    go true is one above at =
        let lt : trailing_zeros w64 n < t = omega (arith, ltb-true) in
        let none = below (trailing_zeros w64 n) lt in
        absurd (omega arith)
    go false is one above at =
        let le : t ≤ trailing_zeros w64 n = omega (arith, ltb-false) in
        let not_above : t < trailing_zeros w64 n → ⊥ = λ lt. let none = above lt in omega arith in
        omega arith

-- a value is an odd number times a power of 2
pub value_odd : (offset n a z : ℕ) → a + z ≡ 51 → offset * 2 ^ 52 + (2 * n + 1) * 2 ^ z ≡ (2 * (offset * 2 ^ a + n) + 1) * 2 ^ z
value_odd offset n a z e =
    let p = pow_full a z e in
    grind arith

pub low_below : (n a z : ℕ) → a + z ≡ 51 → n < 2 ^ a → (2 * n + 1) * 2 ^ z < 4503599627370496
low_below n a z e h =
    let p = pow_full a z e in
    let q = pow_pos z in
    let more : (n + 1) * 2 ^ z ≤ 2 ^ a * 2 ^ z = grind arith in
    grind arith

pub value-offset : (offset n a z : ℕ) → a + z ≡ 51 → n < 2 ^ a → (offset * 2 ^ 52 + (2 * n + 1) * 2 ^ z) / 2 ^ 52 ≡ offset
value-offset offset n a z e h =
    let below = low_below n a z e h in
    shr_high offset 52 ((2 * n + 1) * 2 ^ z) below

-- what the numbers of a value are
pub offset_of : (xs : List ℕ) (start place offset value : ℕ) → AreBits xs → IsValue xs start place offset value → value / 2 ^ 52 ≡ offset
offset_of xs start place offset value bits v =
    rw v.is (value-offset offset (number_from xs start v.ahead) v.ahead v.zeros v.full (number_from-below xs start v.ahead bits))

pub zeros_of : (xs : List ℕ) (start place offset value : ℕ) → value < 2 ^ 64 → (v : IsValue xs start place offset value) → trailing_zeros w64 value ≡ v.zeros
zeros_of xs start place offset value fits v =
    let n = number_from xs start v.ahead in
    odd_zeros value (offset * 2 ^ v.ahead + n) v.zeros (omega (arith, v.full)) fits (v.is ∙ value_odd offset n v.ahead v.zeros v.full)

-- a value doubled some times, behind the low end of its part
pub value-doubled : (xs : List ℕ) (start place offset value low d : ℕ) → low ≤ offset → (v : IsValue xs start place offset value) → d ≤ v.ahead →
    IsValue xs (start + d) place ((offset - low) * 2 ^ d + number_from xs start d) ((value - low * 2 ^ 52) * 2 ^ d)
value-doubled xs start place offset value low d le v h =
    let b = v.ahead - d in
    let split : v.ahead ≡ d + b = omega arith in
    let full : b + (v.zeros + d) ≡ 51 = omega (arith, v.full) in
    let number : number_from xs start v.ahead ≡ number_from xs start d * 2 ^ b + number_from xs (start + d) b = ap (number_from xs start) split
    ∙ number_from-add xs start d b in
    record {
      ahead = b;
      zeros = v.zeros + d;
      full = full;
      reach = omega (arith, v.reach);
      is = rw (v.is, number, pow-add 2 v.zeros d) (spread (number_from xs start d) (number_from xs (start + d) b) b v.zeros full);
    }
  where
    spread : (m n b z : ℕ) → b + (z + d) ≡ 51 → (offset * 2 ^ 52 + (2 * (m * 2 ^ b + n) + 1) * 2 ^ z - low * 2 ^ 52) * 2 ^ d
        ≡ ((offset - low) * 2 ^ d + m) * 2 ^ 52 + (2 * n + 1) * (2 ^ z * 2 ^ d)
    spread m n b z e =
        let p = pow_full b (z + d) e in
        let q = pow-add 2 z d in
        let r : offset ≡ (offset - low) + low = omega arith in
        let k = offset - low in
        let s : offset * 4503599627370496 + (2 * (m * 2 ^ b + n) + 1) * 2 ^ z - low * 4503599627370496 ≡ k * 4503599627370496 +
        (2 * (m * 2 ^ b + n) + 1) * 2 ^ z = omega arith in
        rw s (grind arith)

-- 32 more bits in place of the lowest 32 zeros
pub value-refilled : (xs : List ℕ) (start place offset value : ℕ) → (v : IsValue xs start place offset value) → 32 ≤ v.zeros →
    IsValue xs start (place + 32) offset (value - 2 ^ v.zeros + (2 * number_from xs place 32 + 1) * 2 ^ (v.zeros - 32))
value-refilled xs start place offset value v h =
    let z = v.zeros - 32 in
    let split : v.zeros ≡ z + 32 = omega arith in
    let n = number_from xs start v.ahead in
    let w = number_from xs place 32 in
    let at : start + v.ahead ≡ place = v.reach in
    let number : number_from xs start (v.ahead + 32) ≡ n * 2 ^ 32 + w = number_from-add xs start v.ahead 32 ∙ ap (λ k. n * 2 ^ 32 + number_from xs k 32) at in
    let power : 2 ^ v.zeros ≡ 2 ^ z * 4294967296 = ap (λ k. 2 ^ k) split ∙ pow-add 2 z 32 in
    record {
      ahead = v.ahead + 32;
      zeros = z;
      full = omega (arith, v.full);
      reach = omega arith;
      is = rw (v.is, number, power) (grind arith);
    }

-- what fits in a register
pub value_fits : (xs : List ℕ) (start place offset value : ℕ) → AreBits xs → offset < 4096 → IsValue xs start place offset value → value < 18446744073709551616
value_fits xs start place offset value bits h v =
    let below = low_below (number_from xs start v.ahead) v.ahead v.zeros v.full (number_from-below xs start v.ahead bits) in
    rw v.is (omega (arith, h, below))

-- no bits are left below where the lowest 32 are zeros
pub many_zeros : (xs : List ℕ) (start place offset value : ℕ) → (v : IsValue xs start place offset value) → value % 4294967296 ≡ 0 → 32 ≤ v.zeros
many_zeros xs start place offset value v h = go (nat_lt v.zeros 32) refl
  where
    go : (b : Bool) → nat_lt v.zeros 32 ≡ b → 32 ≤ v.zeros
    go false e = ltb-false v.zeros 32 e
    go true e =
        let n = number_from xs start v.ahead in
        let lt : v.zeros < 32 = ltb-true v.zeros 32 e in
        let odd = v.is ∙ value_odd offset n v.ahead v.zeros v.full in
        let whole : value ≡ value / 4294967296 * 2 ^ 32 + 0 = omega arith in
        let none = ap (λ x. x / 2 ^ v.zeros % 2) whole ∙ bit_at_cat_low (value / 4294967296) 32 0 v.zeros lt ∙ bit_at-zero v.zeros in
        let one : value / 2 ^ v.zeros % 2 ≡ 1 = ap (λ x. x / 2 ^ v.zeros % 2) odd ∙ ap (λ x. x % 2) (shl-shr (2 * (offset * 2 ^ v.ahead + n) + 1) v.zeros)
        ∙ omega arith in
        absurd (omega arith)

pub few_zeros : (xs : List ℕ) (start place offset value : ℕ) → (v : IsValue xs start place offset value) → (value % 4294967296 ≡ 0 → ⊥) → v.zeros < 32
few_zeros xs start place offset value v h = go (nat_lt v.zeros 32) refl
  where
    go : (b : Bool) → nat_lt v.zeros 32 ≡ b → v.zeros < 32
    go true e = ltb-true v.zeros 32 e
    go false e =
        let le : 32 ≤ v.zeros = ltb-false v.zeros 32 e in
        let z = v.zeros - 32 in
        let c = 2 * (offset * 2 ^ v.ahead + number_from xs start v.ahead) + 1 in
        let odd = v.is ∙ value_odd offset (number_from xs start v.ahead) v.ahead v.zeros v.full in
        let split : v.zeros ≡ z + 32 = omega arith in
        let power : 2 ^ v.zeros ≡ 2 ^ z * 4294967296 = ap (λ k. 2 ^ k) split ∙ pow-add 2 z 32 in
        let whole : value ≡ c * 2 ^ z * 4294967296 = odd ∙ ap (λ x. c * x) power ∙ omega arith in
        absurd (h (rw whole (omega arith)))

-- The value refilled, as it is computed.
pub refilled : (xs : List ℕ) (start place offset value more : ℕ) → AreBits xs → offset < 4096 → (v : IsValue xs start place offset value) →
    value < 18446744073709551616 → value % 4294967296 ≡ 0 → more < 4294967296 →
    (1 * 2 ^ trailing_zeros w64 value % 18446744073709551616 ≤ value) × (32 ≤ trailing_zeros w64 value)
    × (value - 1 * 2 ^ trailing_zeros w64 value % 18446744073709551616 + (2 * more + 1) * 2 ^
    (trailing_zeros w64 value - 32) % 18446744073709551616 < 18446744073709551616)
    × (more ≡ number_from xs place 32 → IsValue xs start (place + 32) offset
    (value - 1 * 2 ^ trailing_zeros w64 value % 18446744073709551616 + (2 * more + 1) * 2 ^ (trailing_zeros w64 value - 32) % 18446744073709551616))
refilled xs start place offset value more bits twelve v fits low few =
    let zeros = zeros_of xs start place offset value fits v in
    let many = many_zeros xs start place offset value v low in
    let full = v.full in
    let one = one_shl v.zeros 64 (omega arith) in
    let below : 2 * more + 1 < 2 ^ 33 = omega arith in
    let whole = shl_whole (2 * more + 1) 33 (v.zeros - 32) 64 below (omega arith) in
    let c = offset * 2 ^ v.ahead + number_from xs start v.ahead in
    let odd = v.is ∙ value_odd offset (number_from xs start v.ahead) v.ahead v.zeros v.full in
    let enough : 2 ^ v.zeros ≤ value = rw odd (at_least c (2 ^ v.zeros)) in
    let split : v.zeros ≡ v.zeros - 32 + 32 = omega arith in
    let power : 2 ^ v.zeros ≡ 2 ^ (v.zeros - 32) * 4294967296 = ap (λ k. 2 ^ k) split ∙ pow-add 2 (v.zeros - 32) 32 in
    let n = number_from xs start v.ahead in
    let room = room_above n (2 ^ v.ahead) (2 ^ v.zeros) (number_from-below xs start v.ahead bits) (pow_full v.ahead v.zeros v.full) in
    let new = new_below more (2 ^ (v.zeros - 32)) few (pow_pos (v.zeros - 32)) in
    let is = v.is in
    rw (zeros, one, whole) (enough, many, omega arith, λ number. rw number (value-refilled xs start place offset value v many))
  where
    at_least : (a b : ℕ) → b ≤ (2 * a + 1) * b
    at_least a b = omega arith

    room_above : (n a z : ℕ) → n < a → a * z ≡ 2251799813685248 → (2 * n + 1) * z + z ≤ 4503599627370496
    room_above n a z h e = omega (arith, mul-le (n + 1) z a z (omega arith) (omega arith))

    new_below : (m z : ℕ) → m < 4294967296 → 0 < z → (2 * m + 1) * z < 2 * (z * 4294967296)
    new_below m z h k = omega (arith, mul-le (m + 1) z 4294967296 z (omega arith) (omega arith))
