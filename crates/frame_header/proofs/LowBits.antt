-- Numbers of bits behind each other.
use Rattle.std.proofs.Common.{◌≡◌, ℕ, ◌+◌, ◌*◌, ◌/◌, ◌^◌, ◌<◌, ◌≤◌, arith, add-one}
use Rattle.std.proofs.lemmas.Nat.{pow-add, pow_pos}
use Rattle.std.proofs.Math.Nat.{suc-mul, mul-le-mul_right, div-lt_iff_lt-mul}

-- a number of m bits and one of n bits behind it are one of all these bits
pub below-behind : (m n a b : ℕ) → a < 2 ^ m → b < 2 ^ n → a * 2 ^ n + b < 2 ^ (m + n)
below-behind m n a b h k = rw (pow-add 2 m n) (go (2 ^ m) (2 ^ n) a b h k)
  where
    go : (p q a b : ℕ) → a < p → b < q → a * q + b < p * q
    go p q a b h k =
        let more : (a + 1) * q ≤ p * q = mul-le-mul_right q (omega arith) in
        let one : (a + 1) * q ≡ a * q + q = rw add-one (suc-mul a q) in
        omega (arith, more, one, k)

-- what stands above n bits has the other bits
pub below-above : (m n x : ℕ) → x < 2 ^ (m + n) → x / 2 ^ n < 2 ^ m
below-above m n x h = (div-lt_iff_lt-mul {k = 2 ^ n} {x = x} {y = 2 ^ m} (pow_pos n)).1 (rw (← pow-add 2 m n) h)
