-- A code let go whole.
use Rattle.std.proofs.Common.{◌≡◌, ℕ, suc, ◌+◌, ◌-◌, ◌*◌, ◌/◌, ◌%◌, ◌^◌, ◌<◌, Bool, true, false, if◌then◌else◌, nat_eq, List, ◌∷◌, ◌++◌, length, take}
use Rattle.std.proofs.Common.{refl, ap, ap₂, sym, ◌∙◌, arith, append_assoc}
use Rattle.std.proofs.lemmas.Bool.{eqb-true, eqb-false}
use Rattle.std.proofs.lemmas.Nat.{pow-add, pow_pos, mul-le, shr_split, mod_below, mod-pow-add, div_below}
use Rattle.dst_spec.specs.Bits.{low_bits}
use Rattle.dst_spec.specs.Interval.{interval}
use Rattle.dst_spec.specs.Spell.{code_spelling}
use Rattle.arith_encoder.specs.Leaving.{written, with_held, IsHeld}
use Rattle.arith_encoder.proofs.Joining.{joined, written-bits}
use Rattle.arith_encoder.proofs.Carrying.{turned, turned-below}

-- the highest bit of a number that has one bit more than another power
pub carry_is : (x n : ℕ) → x < 2 * 2 ^ n → x ≡ (if nat_eq (x / 2 ^ n) 1 then 1 else 0) * 2 ^ n + x % 2 ^ n
carry_is x n h = go (nat_eq (x / 2 ^ n) 1) refl
  where
    parts : x / 2 ^ n * 2 ^ n + x % 2 ^ n ≡ x
    parts = shr_split x n

    go : (b : Bool) → nat_eq (x / 2 ^ n) 1 ≡ b → x ≡ (if b then 1 else 0) * 2 ^ n + x % 2 ^ n
    go true e =
        let one : x / 2 ^ n ≡ 1 = eqb-true (x / 2 ^ n) 1 e in
        sym (rw one at parts)
    go false e =
        let other : x / 2 ^ n ≡ 1 → ⊥ = eqb-false (x / 2 ^ n) 1 e in
        let below = div_below x (2 ^ n) 2 (pow_pos n) h in
        let none : x / 2 ^ n ≡ 0 = omega arith in
        sym (rw none at parts)

-- a number behind which a block is turned over or not
turned-held : (w width block run : ℕ) (carry : Bool) → w * 2 ^ (width + 32 * run) + turned carry block run ≡ with_held w width block run +
    (if carry then 1 else 0)
turned-held w width block run carry =
    let power = pow-add 2 width (32 * run) in
    rw power (go w (2 ^ width) (2 ^ (32 * run)) carry (pow_pos (32 * run)))
  where
    go : (w p n : ℕ) (c : Bool) → 0 < n → w * (p * n) + ((block + 1) * n - (if c then 0 else 1)) ≡ (w * p + block + 1) * n - 1 + (if c then 1 else 0)
    go w p n true h =
        let some = mul-le 1 n (block + 1) n (omega arith) (omega arith) in
        omega arith
    go w p n false h =
        let some = mul-le 1 n (block + 1) n (omega arith) (omega arith) in
        omega arith

-- the bits of what is held, turned over or not, and then those behind them
pub all_let_go : (xs : List ℕ) (room first block width run m x : ℕ) → IsHeld xs room first block width run → x < 2 * 2 ^ (12 + m) →
    xs ++ low_bits (width + 32 * run) (turned (nat_eq (x / 2 ^ (12 + m)) 1) block run) ++ low_bits m (x / 4096 % 2 ^ m) ++ low_bits 12 (x % 4096)
    ≡ take first xs ++ low_bits (length xs - first + (width + 32 * run) + (12 + m)) (with_held (written xs first) width block run * 2 ^ (12 + m) + x)
all_let_go xs room first block width run m x h below =
    let c = length xs - first in
    let k = width + 32 * run in
    let carry = nat_eq (x / 2 ^ (12 + m)) 1 in
    let w = written xs first in
    let y = turned carry block run in
    let high = x / 4096 % 2 ^ m in
    let low = x % 4096 in
    let front = take first xs in
    let high_fits : high < 2 ^ m = mod_below (x / 4096) (2 ^ m) (pow_pos m) in
    let low_fits : low < 2 ^ 12 = omega arith in
    let one : xs ++ low_bits k y ≡ front ++ low_bits (c + k) (w * 2 ^ k + y) =
    ap (λ ys. ys ++ low_bits k y) (written-bits xs first h.within h.are_bits) ∙ append_assoc front (low_bits c w) (low_bits k y)
    ∙ ap (λ ys. front ++ ys) (joined c k w y (turned-below carry block width run h.free)) in
    let two : xs ++ low_bits k y ++ low_bits m high ≡ front ++ low_bits (c + k + m) ((w * 2 ^ k + y) * 2 ^ m + high) =
    ap (λ ys. ys ++ low_bits m high) one ∙ append_assoc front (low_bits (c + k) (w * 2 ^ k + y)) (low_bits m high)
    ∙ ap (λ ys. front ++ ys) (joined (c + k) m (w * 2 ^ k + y) high high_fits) in
    let three : xs ++ low_bits k y ++ low_bits m high ++ low_bits 12 low ≡ front ++ low_bits (c + k + m + 12)
    (((w * 2 ^ k + y) * 2 ^ m + high) * 2 ^ 12 + low) =
    ap (λ ys. ys ++ low_bits 12 low) two ∙ append_assoc front (low_bits (c + k + m) ((w * 2 ^ k + y) * 2 ^ m + high)) (low_bits 12 low)
    ∙ ap (λ ys. front ++ ys) (joined (c + k + m) 12 ((w * 2 ^ k + y) * 2 ^ m + high) low low_fits) in
    let long : c + k + m + 12 ≡ c + k + (12 + m) = omega arith in
    let number : ((w * 2 ^ k + y) * 2 ^ m + high) * 2 ^ 12 + low ≡ with_held w width block run * 2 ^ (12 + m) + x = numbers w y carry refl in
    three ∙ ap₂ (λ n z. front ++ low_bits n z) long number
  where
    joined_number : (t b p u v a q x r : ℕ) → a ≡ t + b → q ≡ p * 4096 → r ≡ u * 4096 + v → x ≡ b * q + r → (a * p + u) * 4096 + v ≡ t * q + x
    joined_number t b p u v a q x r e f g h = rw (h, g, f, e) (omega arith)

    numbers : (w y : ℕ) (carry : Bool) → nat_eq (x / 2 ^ (12 + m)) 1 ≡ carry →
        ((w * 2 ^ (width + 32 * run) + turned carry block run) * 2 ^ m + x / 4096 % 2 ^ m) * 2 ^ 12 + x % 4096 ≡ with_held w width block run * 2 ^ (12 + m) + x
    numbers w y carry is =
        let order : 12 + m ≡ m + 12 = omega arith in
        let power : 2 ^ (12 + m) ≡ 2 ^ m * 4096 = ap (λ n. 2 ^ n) order ∙ pow-add 2 m 12 in
        let rest : x % 2 ^ (12 + m) ≡ x / 4096 % 2 ^ m * 4096 + x % 4096 = ap (λ n. x % 2 ^ n) order ∙ mod-pow-add x m 12 in
        let top = carry_is x (12 + m) below in
        let top_is : x ≡ (if carry then 1 else 0) * 2 ^ (12 + m) + x % 2 ^ (12 + m) = top
        ∙ ap (λ b. (if b then 1 else 0) * 2 ^ (12 + m) + x % 2 ^ (12 + m)) is in
        joined_number (with_held w width block run) (if carry then 1 else 0) (2 ^ m) (x / 4096 % 2 ^ m) (x % 4096)
        (w * 2 ^ (width + 32 * run) + turned carry block run) (2 ^ (12 + m)) x (x % 2 ^ (12 + m))
        (turned-held w width block run carry) power rest top_is

-- a code of so many bits begins with 0
pub spelled : (pairs : List (Bool × ℕ)) (n : ℕ) → (interval pairs).low < 2 ^ (12 + (interval pairs).doublings) → n ≡ suc (12 + (interval pairs).doublings) →
    low_bits n (interval pairs).low ≡ code_spelling pairs
unfolding low_bits code_spelling
spelled pairs n h e =
    let i = interval pairs in
    let k = 12 + i.doublings in
    let below : i.low / 2 ^ k < 1 = div_below i.low (2 ^ k) 1 (pow_pos k) (omega arith) in
    let top : i.low / 2 ^ k % 2 ≡ 0 = omega arith in
    ap (λ m. low_bits m i.low) e ∙ ap (λ b. b ∷ low_bits k i.low) top
