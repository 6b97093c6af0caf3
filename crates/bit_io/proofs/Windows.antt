-- Numbers of bytes, and of the bits within them.
use Rattle.std.proofs.Common.{◌≡◌, ℕ, zero, suc, ◌+◌, ◌*◌, ◌/◌, ◌%◌, ◌^◌, ◌<◌, List, [], ◌∷◌, length, get_or, drop, refl, ap, ◌∙◌, arith}
use Rattle.std.specs.Int.{w64, from_be_bytes}
use Rattle.std.proofs.lemmas.Nat.{shr_high, mod_low}
use Rattle.dst_spec.specs.Bits.{low_bits, bits, number_from}
use Rattle.dst_spec.proofs.Numbers.{length-low_bits, AreBits-bits, number_from-below, number_from-add, number_from-append_left}
use Rattle.dst_spec.proofs.Numbers.{number_from-append_right, number_from-past, number_from-low_bits, number_from-drop}

-- the number of a byte's bits is the byte
pub number_of_byte : (bytes : List ℕ) (i : ℕ) → number_from (bits bytes) (8 * i) 8 ≡ get_or bytes i 0 % 256
unfolding bits
number_of_byte [] i = number_from-past [] (8 * i) 8 (omega arith)
number_of_byte (byte ∷ bytes) zero =
    number_from-append_left (low_bits 8 byte) (bits bytes) 0 8 (omega (arith, length-low_bits 8 byte)) ∙ number_from-low_bits 8 byte
number_of_byte (byte ∷ bytes) (suc i) =
    let place : 8 * suc i ≡ length (low_bits 8 byte) + 8 * i = omega (arith, length-low_bits 8 byte) in
    rw place (number_from-append_right (low_bits 8 byte) (bits bytes) (8 * i) 8 ∙ number_of_byte bytes i)

-- one byte more
pub number_of_bytes-more : (bytes : List ℕ) (i k : ℕ) → number_from (bits bytes) (8 * i) (8 * k + 8) ≡ number_from (bits bytes) (8 * i)
    (8 * k) * 256 + get_or bytes (i + k) 0 % 256
number_of_bytes-more bytes i k =
    let place : 8 * i + 8 * k ≡ 8 * (i + k) = omega arith in
    let all = number_from-add (bits bytes) (8 * i) (8 * k) 8 in
    let last = number_of_byte bytes (i + k) in
    all ∙ rw (place, last) refl

number_of_none : (bytes : List ℕ) (i : ℕ) → number_from (bits bytes) (8 * i) 0 ≡ 0
unfolding number_from
number_of_none bytes i = refl

-- the number of eight bytes
pub number_of_eight : (bytes : List ℕ) (i : ℕ) → ((j : ℕ) → get_or bytes j 0 < 256) →
    number_from (bits bytes) (8 * i) 64 ≡ from_be_bytes w64
    (get_or bytes i 0 ∷ get_or bytes (i + 1) 0 ∷ get_or bytes (i + 2) 0 ∷ get_or bytes (i + 3) 0 ∷ get_or bytes (i + 4) 0 ∷ get_or bytes (i + 5) 0
    ∷ get_or bytes (i + 6) 0 ∷ get_or bytes (i + 7) 0 ∷ [])
number_of_eight bytes i small =
    let first : i + 0 ≡ i = omega arith in
    let one = number_of_bytes-more bytes i 0 in
    let n1 = rw first at one in
    let n2 = number_of_bytes-more bytes i 1 in
    let n3 = number_of_bytes-more bytes i 2 in
    let n4 = number_of_bytes-more bytes i 3 in
    let n5 = number_of_bytes-more bytes i 4 in
    let n6 = number_of_bytes-more bytes i 5 in
    let n7 = number_of_bytes-more bytes i 6 in
    let n8 = number_of_bytes-more bytes i 7 in
    let none = number_of_none bytes i in
    omega (
      arith,
      n1,
      n2,
      n3,
      n4,
      n5,
      n6,
      n7,
      n8,
      none,
      small i,
      small (i + 1),
      small (i + 2),
      small (i + 3),
      small (i + 4),
      small (i + 5),
      small (i + 6),
      small (i + 7),
    )

-- the number of the first bits that are left
pub number_left : (xs : List ℕ) (place n : ℕ) → number_from (drop place xs) 0 n ≡ number_from xs place n
number_left xs place n =
    let same : place + 0 ≡ place = omega arith in
    number_from-drop xs place 0 n ∙ ap (λ p. number_from xs p n) same

-- n bits within the number of m more in front of them and k more behind them
pub number_within : (bytes : List ℕ) (i m n k : ℕ) → number_from (bits bytes) i (m + n + k) / 2 ^ k % 2 ^ n ≡ number_from (bits bytes) (i + m) n
number_within bytes i m n k =
    let xs = bits bytes in
    let ends = number_from-below xs (i + (m + n)) k (AreBits-bits bytes) in
    let low = number_from-below xs (i + m) n (AreBits-bits bytes) in
    let front = shr_high (number_from xs i (m + n)) k (number_from xs (i + (m + n)) k) ends in
    let behind = mod_low (number_from xs i m) n (number_from xs (i + m) n) low in
    rw (number_from-add xs i (m + n) k, front, number_from-add xs i m n, behind) refl
