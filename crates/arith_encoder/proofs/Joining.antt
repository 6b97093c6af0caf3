-- Numbers in bits, one behind the other.
use Rattle.std.proofs.Common.{◌≡◌, ℕ, ◌+◌, ◌-◌, ◌*◌, ◌^◌, ◌<◌, ◌≤◌, List, ◌++◌, length, take, drop, ap, ap₂, sym, ◌∙◌, arith, length-append, mod-eq_of_lt}
use Rattle.std.proofs.lemmas.List.{take-append-drop, length-drop}
use Rattle.dst_spec.specs.Bits.{low_bits, number_from, AreBits}
use Rattle.dst_spec.proofs.Numbers.{length-low_bits, number_from-add, number_from-append_left, number_from-append_right, number_from-low_bits}
use Rattle.dst_spec.proofs.Numbers.{number_from-drop, low_bits-number_from}
use Rattle.arith_encoder.specs.Leaving.{written}
use Rattle.dst_spec.proofs.LowBits.{low_bits-join}

-- the bits of two numbers are those of one
pub joined : (m n a b : ℕ) → b < 2 ^ n → low_bits m a ++ low_bits n b ≡ low_bits (m + n) (a * 2 ^ n + b)
joined m n a b h = sym (low_bits-join m n a b h)

-- a number written behind what has left
pub written-append : (xs : List ℕ) (first n x : ℕ) → first ≤ length xs → x < 2 ^ n → written (xs ++ low_bits n x) first ≡ written xs first * 2 ^ n + x
written-append xs first n x h k =
    let ys = low_bits n x in
    let long : length (xs ++ ys) - first ≡ length xs - first + n = omega (arith, length-append xs ys, length-low_bits n x) in
    let front = number_from-append_left xs ys first (length xs - first) (omega arith) in
    let place : first + (length xs - first) ≡ length xs + 0 = omega arith in
    let behind = number_from-append_right xs ys 0 n ∙ number_from-low_bits n x ∙ mod-eq_of_lt k in
    ap (number_from (xs ++ ys) first) long ∙ number_from-add (xs ++ ys) first (length xs - first) n
    ∙ ap (λ a. a * 2 ^ n + number_from (xs ++ ys) (first + (length xs - first)) n) front
    ∙ ap (λ b. written xs first * 2 ^ n + number_from (xs ++ ys) b n) place
    ∙ ap (λ b. written xs first * 2 ^ n + b) behind

-- what has left is its number's bits
pub written-bits : (xs : List ℕ) (first : ℕ) → first ≤ length xs → AreBits (drop first xs) →
    xs ≡ take first xs ++ low_bits (length xs - first) (written xs first)
written-bits xs first h bits =
    let rest = drop first xs in
    let long : length rest ≡ length xs - first = length-drop first xs in
    let place : first + 0 ≡ first = omega arith in
    let number : number_from rest 0 (length rest) ≡ written xs first =
    ap (number_from rest 0) long ∙ number_from-drop xs first 0 (length xs - first) ∙ ap (λ k. number_from xs k (length xs - first)) place in
    sym (take-append-drop first xs) ∙ ap (λ ys. take first xs ++ ys) (sym (low_bits-number_from rest bits) ∙ ap₂ low_bits long number)
