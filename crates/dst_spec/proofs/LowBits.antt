-- The low bits of numbers, in parts.
use Rattle.std.proofs.Common.{◌≡◌, ℕ, zero, suc, ◌+◌, ◌*◌, ◌/◌, ◌%◌, ◌^◌, ◌<◌, ◌++◌, replicate, refl, ap, sym, ◌∙◌, arith}
use Rattle.std.proofs.lemmas.Nat.{shr-shr, shr_high, shr_split}
use Rattle.std.proofs.Math.Nat.{zero-div}
use Rattle.dst_spec.specs.Bits.{low_bits}
use Rattle.dst_spec.proofs.Numbers.{low_bits-high}

-- m bits and n bits behind them
pub low_bits-split : (m n x : ℕ) → low_bits (m + n) x ≡ low_bits m (x / 2 ^ n) ++ low_bits n x
unfolding low_bits
low_bits-split zero n x =
    let none : zero + n ≡ n = omega arith in
    rw none refl
low_bits-split (suc m) n x =
    let more : suc m + n ≡ suc (m + n) = omega arith in
    let order : m + n ≡ n + m = omega arith in
    let top : x / 2 ^ (m + n) ≡ x / 2 ^ n / 2 ^ m = rw order (sym (shr-shr x n m)) in
    let rest = low_bits-split m n x in
    rw (more, top, rest) refl

pub low_bits-join : (m n a b : ℕ) → b < 2 ^ n → low_bits (m + n) (a * 2 ^ n + b) ≡ low_bits m a ++ low_bits n b
low_bits-join m n a b h =
    low_bits-split m n (a * 2 ^ n + b) ∙ rw (shr_high a n b h, low_bits-high n n a b (omega arith)) refl

pub low_bits-mod : (n x : ℕ) → low_bits n (x % 2 ^ n) ≡ low_bits n x
low_bits-mod n x =
    sym (low_bits-high n n (x / 2 ^ n) (x % 2 ^ n) (omega arith)) ∙ ap (low_bits n) (shr_split x n)

-- the low bits of 0
pub low_bits-zero : (n : ℕ) → low_bits n 0 ≡ replicate n 0
unfolding low_bits
low_bits-zero zero = refl
low_bits-zero (suc n) =
    let top : 0 / 2 ^ n % 2 ≡ 0 = omega (arith, zero-div (2 ^ n)) in
    rw (top, low_bits-zero n) refl
