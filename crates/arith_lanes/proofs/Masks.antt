-- Choices by masks of sixteen bits.
use Rattle.std.proofs.Common.{◌≡◌, ℕ, ◌-◌, ◌^◌, ◌<◌, Bool, true, false, bit_and, if◌then◌else◌, ◌∙◌, arith, mod-eq_of_lt}
use Rattle.std.specs.Int.Bits.{bit_xor, xor_self, xor_zero_l, xor_zero_r, xor_assoc}
use Rattle.std.proofs.lemmas.Nat.{and_mask, xor_lt}

pub chosen_by_mask : (test : Bool) (x y mask : ℕ) → x < 2 ^ 16 → y < 2 ^ 16 → mask ≡ (if test then 65535 else 0) →
    bit_xor y (bit_and (bit_xor y x) mask) ≡ if test then x else y
chosen_by_mask true x y mask h k e =
    let is : mask ≡ 2 ^ 16 - 1 = e in
    let low = and_mask (bit_xor y x) 16 in
    let fits = xor_lt 16 y x k h in
    rw (is, low, mod-eq_of_lt fits, ← xor_assoc y y x, xor_self y) (xor_zero_l x)
chosen_by_mask false x y mask h k e =
    let is : mask ≡ 2 ^ 0 - 1 = e in
    let low : bit_and (bit_xor y x) (2 ^ 0 - 1) ≡ 0 = and_mask (bit_xor y x) 0 ∙ omega arith in
    rw (is, low) (xor_zero_r y)
