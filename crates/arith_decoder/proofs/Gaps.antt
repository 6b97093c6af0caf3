-- A gap, and the value that it belongs to.
use Rattle.std.proofs.Common.{◌≡◌, ℕ, ◌+◌, ◌-◌, ◌*◌, ◌%◌, ◌^◌, ◌<◌, ◌≤◌, List, refl, ap, sym, ◌∙◌, arith, Bool, true, false, nat_lt, if◌then◌else◌}
use Rattle.std.proofs.Common.{ltb-true, ltb-false}
use Rattle.std.proofs.lemmas.Nat.{pow-add, pow_pos, one_shl, shl_whole, mul-le}
use Rattle.std.specs.Int.{trailing_zeros, w64}
use Rattle.dst_spec.specs.Bits.{number_from, AreBits}
use Rattle.dst_spec.proofs.Numbers.{number_from-below}
use Rattle.arith_decoder.specs.Registers.{IsValue, due, value_below}
use Rattle.arith_decoder.proofs.Registers.{pow_full, odd_zeros, value_odd, zeros_of, low_below, value-refilled, many_zeros}

-- the two doubled together
pub value_below-due : (range gap : ℕ) → value_below (due range range) (due range gap) ≡ due range (value_below range gap)
value_below-due range gap = go (nat_lt range 2048)
  where
    go : (e : Bool) → value_below (if e then (2 * range) else range) (if e then (2 * gap) else gap) ≡
        (if e then (2 * value_below range gap) else value_below range gap)
    go true = omega arith
    go false = refl

pub within-due : (range gap : ℕ) → gap ≤ range * 2 ^ 52 → due range gap ≤ due range range * 2 ^ 52
within-due range gap h = go (nat_lt range 2048)
  where
    go : (e : Bool) → (if e then (2 * gap) else gap) ≤ (if e then (2 * range) else range) * 2 ^ 52
    go true = omega arith
    go false = h

pub due-fits : (range gap : ℕ) → due range range ≤ 4095 → gap ≤ range * 2 ^ 52 → due range gap < 18446744073709551616
due-fits range gap most h = let w = within-due range gap h in omega arith

-- neither has only zeros below the twelve highest bits
pub some_low : (xs : List ℕ) (start place range offset gap : ℕ) → AreBits xs → gap ≤ range * 2 ^ 52 →
    IsValue xs start place offset (value_below range gap) → 0 < gap % 2 ^ 52
some_low xs start place range offset gap bits within v =
    let n = number_from xs start v.ahead in
    let below = low_below n v.ahead v.zeros v.full (number_from-below xs start v.ahead bits) in
    let some = odd_some n (2 ^ v.zeros) (pow_pos v.zeros) in
    go ((2 * n + 1) * 2 ^ v.zeros) below some v.is
  where
    odd_some : (n z : ℕ) → 0 < z → 0 < (2 * n + 1) * z
    odd_some n z h = omega arith

    go : (low : ℕ) → low < 4503599627370496 → 0 < low → value_below range gap ≡ offset * 2 ^ 52 + low → 0 < gap % 2 ^ 52
    go low below some is = omega arith

-- The gap is an odd number times the same power of 2 as the value.
pub record IsOdd (gap zeros : ℕ) : Type 0 where
  pub half : ℕ
  pub is : gap ≡ (2 * half + 1) * 2 ^ zeros

pub gap_odd : (xs : List ℕ) (start place range offset gap : ℕ) → gap ≤ range * 2 ^ 52 → (v : IsValue xs start place offset (value_below range gap)) →
    IsOdd gap v.zeros
gap_odd xs start place range offset gap within v =
    let c = offset * 2 ^ v.ahead + number_from xs start v.ahead in
    let odd = v.is ∙ value_odd offset (number_from xs start v.ahead) v.ahead v.zeros v.full in
    let a = range * 2 ^ v.ahead in
    let z = 2 ^ v.zeros in
    let sum : gap + (2 * c + 1) * z ≡ 2 * (a * z) = total c z odd (whole range (2 ^ v.ahead) z (pow_full v.ahead v.zeros v.full)) in
    record { half = a - c - 1; is = split a c z gap (room a c z gap (pow_pos v.zeros) sum) sum }
  where
    whole : (range a z : ℕ) → a * z ≡ 2251799813685248 → range * 4503599627370496 ≡ 2 * (range * a * z)
    whole range a z e =
        let by : range * a * z ≡ range * 2251799813685248 = omega arith ∙ ap (λ x. range * x) e in
        omega arith

    room : (a c z gap : ℕ) → 0 < z → gap + (2 * c + 1) * z ≡ 2 * (a * z) → c < a
    room a c z gap some e = go-room (nat_lt c a) refl
      where
        go-room : (b : Bool) → nat_lt c a ≡ b → c < a
        go-room true is = ltb-true c a is
        go-room false is =
            let le : a ≤ c = ltb-false c a is in
            let by = mul-le a z c z (omega arith) (omega arith) in
            absurd (omega arith)

    split : (a c z gap : ℕ) → c < a → gap + (2 * c + 1) * z ≡ 2 * (a * z) → gap ≡ (2 * (a - c - 1) + 1) * z
    split a c z gap h e =
        let m = a - c - 1 in
        let is : a ≡ m + c + 1 = omega arith in
        let sum : gap + (2 * c + 1) * z ≡ 2 * ((m + c + 1) * z) = e ∙ ap (λ x. 2 * (x * z)) is in
        omega arith

    total : (c z : ℕ) → value_below range gap ≡ (2 * c + 1) * z → range * 4503599627370496 ≡ 2 * (range * 2 ^ v.ahead * z) →
        gap + (2 * c + 1) * z ≡ 2 * (range * 2 ^ v.ahead * z)
    total c z odd whole = omega (arith, within)

pub gap_zeros : (xs : List ℕ) (start place range offset gap : ℕ) → gap < 2 ^ 64 → gap ≤ range * 2 ^ 52 →
    (v : IsValue xs start place offset (value_below range gap)) → trailing_zeros w64 gap ≡ v.zeros
gap_zeros xs start place range offset gap fits within v =
    let o = gap_odd xs start place range offset gap within v in
    odd_zeros gap o.half v.zeros (omega (arith, v.full)) fits o.is

-- both have as many zeros
pub zeros_alike : (xs : List ℕ) (start place range offset gap : ℕ) → due range range ≤ 4095 → gap ≤ range * 2 ^ 52 →
    IsValue xs start place offset (due range (value_below range gap)) →
    trailing_zeros w64 (due range gap) ≡ trailing_zeros w64 (due range (value_below range gap))
zeros_alike xs start place range offset gap most within v =
    let same = value_below-due range gap in
    let v2 : IsValue xs start place offset (value_below (due range range) (due range gap)) = rw same v in
    let w = within-due range gap within in
    let value_fits : value_below (due range range) (due range gap) < 18446744073709551616 = omega arith in
    let of_gap = gap_zeros xs start place (due range range) offset (due range gap) (due-fits range gap most within) w v2 in
    let of_value = zeros_of xs start place offset (value_below (due range range) (due range gap)) value_fits v2 in
    of_gap ∙ sym of_value ∙ ap (trailing_zeros w64) same

-- the lowest 32 bits of both are zeros, or of neither
pub low_value : (range gap : ℕ) → gap ≤ range * 2 ^ 52 → gap % 2 ^ 32 ≡ 0 → value_below range gap % 2 ^ 32 ≡ 0
low_value range gap within low = omega arith

pub low_gap : (range gap : ℕ) → gap ≤ range * 2 ^ 52 → value_below range gap % 2 ^ 32 ≡ 0 → gap % 2 ^ 32 ≡ 0
low_gap range gap within low = omega arith

-- The gap of a refilled value: a bit 1 goes, and new bits come.
pub record IsRefilled (xs : List ℕ) (start place range offset gap more zeros one new : ℕ) : Type 0 where
  pub fits : gap + one < 18446744073709551616
  pub many : 32 ≤ zeros
  pub enough : new ≤ gap + one
  pub within : gap + one - new ≤ range * 2 ^ 52
  pub holds : more ≡ number_from xs place 32 → IsValue xs start (place + 32) offset (value_below range (gap + one - new))

-- as it is computed
pub refilled : (xs : List ℕ) (start place range offset gap more : ℕ) → range ≤ 4095 → gap < 18446744073709551616 → gap ≤ range * 2 ^ 52 →
    IsValue xs start place offset (value_below range gap) →
    gap % 4294967296 ≡ 0 → more < 4294967296 →
    IsRefilled xs start place range offset gap more (trailing_zeros w64 gap) (1 * 2 ^ trailing_zeros w64 gap % 18446744073709551616)
    ((2 * more + 1) * 2 ^ (trailing_zeros w64 gap - 32) % 18446744073709551616)
refilled xs start place range offset gap more most fits within v low few =
    let many = many_zeros xs start place offset (value_below range gap) v (low_value range gap within low) in
    let full = v.full in
    let zeros = gap_zeros xs start place range offset gap fits within v in
    let one = one_shl v.zeros 64 (omega arith) in
    let below : 2 * more + 1 < 2 ^ 33 = omega arith in
    let whole = shl_whole (2 * more + 1) 33 (v.zeros - 32) 64 below (omega arith) in
    let split : v.zeros ≡ v.zeros - 32 + 32 = omega arith in
    let power : 2 ^ v.zeros ≡ 2 ^ (v.zeros - 32) * 4294967296 = ap (λ k. 2 ^ k) split ∙ pow-add 2 (v.zeros - 32) 32 in
    let odd = v.is ∙ value_odd offset (number_from xs start v.ahead) v.ahead v.zeros v.full in
    let o = gap_odd xs start place range offset gap within v in
    let new = new_below more (2 ^ (v.zeros - 32)) few (pow_pos (v.zeros - 32)) in
    let value_least : 2 ^ v.zeros ≤ value_below range gap = rw odd (at_least (offset * 2 ^ v.ahead + number_from xs start v.ahead) (2 ^ v.zeros)) in
    let gap_least : 2 ^ v.zeros ≤ gap = rw o.is (at_least o.half (2 ^ v.zeros)) in
    rw (zeros, one, whole) (record {
      fits = omega arith;
      many = many;
      enough = omega arith;
      within = omega arith;
      holds = λ number. rw (moved (2 ^ v.zeros) ((2 * more + 1) * 2 ^ (v.zeros - 32)) (omega arith) value_least gap_least)
          (rw number (value-refilled xs start place offset (value_below range gap) v many));
    })
  where
    at_least : (a b : ℕ) → b ≤ (2 * a + 1) * b
    at_least a b = omega arith

    new_below : (m z : ℕ) → m < 4294967296 → 0 < z → (2 * m + 1) * z < 2 * (z * 4294967296)
    new_below m z h k = omega (arith, mul-le (m + 1) z 4294967296 z (omega arith) (omega arith))

    moved : (one new : ℕ) → new < 2 * one → one ≤ value_below range gap → one ≤ gap → value_below range (gap + one - new) ≡ value_below range gap - one + new
    moved one new h k l = omega (arith, within)
