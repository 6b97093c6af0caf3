-- Bytes that were read as a number are the bytes of that number.
use Rattle.std.proofs.Common.{◌≡◌, ℕ, zero, suc, ◌+◌, ◌*◌, ◌/◌, ◌%◌, ◌^◌, ◌<◌, ◌≤◌, List, [], ◌∷◌, length, take, refl, sym, ap, ap₂, ◌∙◌, arith}
use Rattle.std.proofs.Math.Nat.{one-le-pow, pow-suc, mul_assoc, mul_comm, mul-add-div_right, mod-eq_of_lt, div-one, mul-add-mod_self_right}
use Rattle.std.proofs.lemmas.Nat.{div-mul-add}
use Rattle.std.specs.Prelude.{slice_index}
use Rattle.std.specs.Int.{byte_at}
use Rattle.byteorder.specs.Endian.{big_from, big_bytes}
use Rattle.byteorder.specs.Numbers.{big_from-cons, big_from-lt}
use Rattle.dst_spec.specs.Bits.{AreBytes}

some : (n : ℕ) → 0 < 256 ^ n
some n = let h = one-le-pow n 256 (omega arith) in omega arith

byte_at-place : (n x : ℕ) → byte_at n x ≡ x / 256 ^ n % 256
byte_at-place zero x = ap (λ (y : ℕ). y % 256) (sym (div-one x))
byte_at-place (suc n) x = refl

-- the byte at a place of a number that ends with so many bytes
byte_behind : (m n r : ℕ) → byte_at n (m * 256 ^ n + r) ≡ (m + r / 256 ^ n) % 256
byte_behind m n r = byte_at-place n (m * 256 ^ n + r) ∙ ap (λ (y : ℕ). y % 256) (mul-add-div_right (some n) m r)

bytes_of_low : (n m r : ℕ) → big_bytes n (m * 256 ^ n + r) ≡ big_bytes n r
bytes_of_low zero m r = refl
bytes_of_low (suc n) m r =
    let moved : m * 256 ^ suc n + r ≡ (m * 256) * 256 ^ n + r = ap (λ (x : ℕ). m * x + r) (pow-suc 256 n) ∙ ap (λ (x : ℕ). x + r) (regroup m (256 ^ n)) in
    let first : byte_at n (m * 256 ^ suc n + r) ≡ byte_at n r =
    ap (byte_at n) moved ∙ byte_behind (m * 256) n r ∙ mul-add-mod_self_right m 256 (r / 256 ^ n) ∙ sym (byte_at-place n r) in
    let later : big_bytes n (m * 256 ^ suc n + r) ≡ big_bytes n r = ap (big_bytes n) moved ∙ bytes_of_low n (m * 256) r in
    rw (first, later) refl
  where
    regroup : (m p : ℕ) → m * (p * 256) ≡ (m * 256) * p
    regroup m p = ap (λ (x : ℕ). m * x) (mul_comm p 256) ∙ sym (mul_assoc m 256 p)

pub byte_below : (xs : List ℕ) → AreBytes xs → (k : ℕ) → slice_index xs k < 256
byte_below [] h k = omega arith
byte_below (x ∷ xs) h zero = h.0
byte_below (x ∷ xs) h (suc k) = byte_below xs h.1 k

pub bytes_again : (n : ℕ) (xs : List ℕ) → AreBytes xs → n ≤ length xs → big_bytes n (big_from 0 n xs) ≡ take n xs
bytes_again zero xs h l = refl
bytes_again (suc n) [] h l = absurd (omega arith)
bytes_again (suc n) (x ∷ xs) h l =
    let r = big_from 0 n xs in
    let is : big_from 0 (suc n) (x ∷ xs) ≡ x * 256 ^ n + r = ap (λ (s : ℕ). x * 256 ^ n + s) (big_from-cons 0 n x xs) in
    let small = big_from-lt 0 n xs (byte_below xs h.1) in
    let first : byte_at n (x * 256 ^ n + r) ≡ x =
    byte_at-place n (x * 256 ^ n + r) ∙ ap (λ (y : ℕ). y % 256) (div-mul-add x (256 ^ n) r small) ∙ mod-eq_of_lt h.0 in
    let later : big_bytes n (x * 256 ^ n + r) ≡ take n xs = bytes_of_low n x r ∙ bytes_again n xs h.1 (omega (arith, l)) in
    ap (big_bytes (suc n)) is ∙ ap₂ (λ (a : ℕ) (w : List ℕ). a ∷ w) first later
