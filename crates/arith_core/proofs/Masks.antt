-- Choices by masks, the scale by shifts, and the size of a symbol 1.
use Rattle.std.proofs.Common.{◌≡◌, ℕ, ◌+◌, ◌-◌, ◌*◌, ◌/◌, ◌%◌, ◌^◌, ◌<◌, ◌≤◌, Bool, true, false, bit_and, bit_or, if◌then◌else◌, refl, ◌∙◌, arith, mod-eq_of_lt}
use Rattle.std.specs.Int.Bits.{bit_xor, xor_self, xor_zero_l, xor_zero_r, xor_assoc, or_add_and}
use Rattle.std.proofs.lemmas.Nat.{and_mask, xor_lt}
use Rattle.dst_spec.specs.Interval.{scale}
use mir.Val.{bool_byte}

pub chosen_by_mask : (b : Bool) (x y one : ℕ) → x < 2 ^ 64 → y < 2 ^ 64 → one ≡ bool_byte b →
    bit_xor y (bit_and (bit_xor y x) ((0 + (18446744073709551616 - one)) % 18446744073709551616)) ≡ if b then x else y
chosen_by_mask true x y one h k e =
    let mask : (0 + (18446744073709551616 - one)) % 18446744073709551616 ≡ 2 ^ 64 - 1 = rw e refl in
    let low = and_mask (bit_xor y x) 64 in
    let fits = xor_lt 64 y x k h in
    rw (mask, low, mod-eq_of_lt fits, ← xor_assoc y y x, xor_self y) (xor_zero_l x)
chosen_by_mask false x y one h k e =
    let mask : (0 + (18446744073709551616 - one)) % 18446744073709551616 ≡ 2 ^ 0 - 1 = rw e refl in
    let low : bit_and (bit_xor y x) (2 ^ 0 - 1) ≡ 0 = and_mask (bit_xor y x) 0 ∙ omega arith in
    rw (mask, low) (xor_zero_r y)

pub scale_shifted : (range : ℕ) → bit_or (range / 256) (bit_and (range / 128) 1) ≡ scale range
scale_shifted range = rw (and_mask (range / 128) 1) refl

-- a symbol 1 has at least half of what a range has at least
pub high_least : (range p : ℕ) → 2048 ≤ range → p ≤ 128 → scale range * p + 1024 ≤ range
high_least range p h k =
    let s = scale range in
    let or = or_add_and (range / 256) (range / 128 % 2) in
    let most : s ≤ range / 256 + range / 128 % 2 = omega arith in
    let by : s * p ≤ s * 128 = grind arith in
    omega arith
