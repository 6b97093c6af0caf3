-- Zeros in front of the first one, by a number of some of the bits.
use Rattle.std.proofs.Common.{◌≡◌, ◌≢◌, ℕ, zero, suc, ◌+◌, ◌-◌, ◌*◌, ◌^◌, ◌<◌, ◌≤◌, min, List, [], ◌∷◌, length, length-drop, drop, refl, ap, sym}
use Rattle.std.proofs.Common.{subst, ◌∙◌, arith}
use Rattle.std.proofs.Math.Pow.{pow_mono}
use Rattle.std.proofs.lemmas.Nat.{pow_pos, leading_top, mul-le}
use lib.Count.{count_leading_zeros}
use Rattle.dst_spec.specs.Bits.{number_from, AreBits}
use Rattle.dst_spec.specs.Fields.{zero_run}
use Rattle.dst_spec.proofs.Numbers.{number_from-cons, number_from-past, number_from-below}
use Rattle.dst_spec.proofs.Lists.{AreBits-drop}

-- bits whose number is 0 are all 0
pub run_past_zeros : (xs : List ℕ) (n : ℕ) → number_from xs 0 n ≡ 0 → zero_run xs ≡ min n (length xs) + zero_run (drop n xs)
run_past_zeros xs zero e = omega arith
run_past_zeros [] (suc n) e = omega arith
run_past_zeros (suc x ∷ xs) (suc n) e =
    let p = number_from-cons (suc x) xs n in
    let some : 1 * 2 ^ n ≤ suc x * 2 ^ n = mul-le 1 (2 ^ n) (suc x) (2 ^ n) (omega arith) (omega arith) in
    absurd (omega (arith, pow_pos n))
run_past_zeros (zero ∷ xs) (suc n) e =
    let p = number_from-cons 0 xs n in
    let rest = run_past_zeros xs n (omega arith) in
    omega arith

-- the place of the first one by the place of the highest digit
pub run_by_top : (xs : List ℕ) (n z j : ℕ) → AreBits xs → z + suc j ≡ n → 2 ^ j ≤ number_from xs 0 n → number_from xs 0 n < 2 ^ suc j →
    (zero_run xs ≡ z) × (z < length xs)
run_by_top [] n z j bits e h k = absurd (omega (arith, number_from-past [] 0 n (omega arith), pow_pos j))
run_by_top (x ∷ xs) zero z j bits e h k = absurd (omega arith)
run_by_top (zero ∷ xs) (suc n) zero j bits e h k =
    let p = number_from-cons 0 xs n in
    let below = number_from-below xs 0 n bits.1 in
    let same : j ≡ n = omega arith in
    let q : 2 ^ j ≡ 2 ^ n = ap (λ i. 2 ^ i) same in
    absurd (omega arith)
run_by_top (zero ∷ xs) (suc n) (suc z) j bits e h k =
    let p = number_from-cons 0 xs n in
    let rest = run_by_top xs n z j bits.1 (omega arith) (omega arith) (omega arith) in
    (omega arith, omega arith)
run_by_top (suc zero ∷ xs) (suc n) zero j bits e h k = (refl, omega arith)
run_by_top (suc zero ∷ xs) (suc n) (suc z) j bits e h k =
    let p = number_from-cons 1 xs n in
    let q : 2 ^ suc j ≤ 2 ^ n = pow_mono (omega arith) in
    absurd (omega arith)
run_by_top (suc (suc x) ∷ xs) n z j bits e h k = absurd (omega (arith, bits.0))

-- 32 bits behind those that are passed have a one: its place
pub one_found : (xs ys : List ℕ) (passed window : ℕ) → AreBits xs → ys ≡ drop passed xs → zero_run xs ≡ min passed (length xs) + zero_run ys →
    window ≡ number_from ys 0 32 → window ≢ 0 → window < 2 ^ 32 →
    (passed + count_leading_zeros 32 window ≡ zero_run xs) × (passed + count_leading_zeros 32 window < length xs)
one_found xs ys passed window bits behind run value some fits =
    let top = leading_top 32 window (omega arith) fits in
    let each : AreBits ys = subst AreBits (sym behind) (AreBits-drop passed xs bits) in
    let low : 2 ^ top.0 ≤ number_from ys 0 32 = omega (arith, top.2) in
    let high : number_from ys 0 32 < 2 ^ suc top.0 = omega (arith, top.3) in
    let p = run_by_top ys 32 (count_leading_zeros 32 window) top.0 each top.1 low high in
    let long : length ys ≡ length xs - passed = ap length behind ∙ length-drop passed xs in
    (omega (arith, p.0, p.1), omega (arith, p.1))

-- they have none
pub none_found : (xs ys : List ℕ) (passed : ℕ) → ys ≡ drop passed xs → zero_run xs ≡ min passed (length xs) + zero_run ys → number_from ys 0 32 ≡ 0 →
    zero_run xs ≡ min (passed + 32) (length xs) + zero_run (drop 32 ys)
none_found xs ys passed behind run none =
    let p = run_past_zeros ys 32 none in
    let long : length ys ≡ length xs - passed = ap length behind ∙ length-drop passed xs in
    omega arith
