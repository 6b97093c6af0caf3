-- Bits of stretches that are moved and joined.
use Rattle.std.proofs.Common.{◌≡◌, ℕ, ◌+◌, ◌-◌, ◌*◌, ◌/◌, ◌%◌, ◌^◌, ◌<◌, ◌≤◌, bit_or, inl, inr, ap, sym, ◌∙◌, arith}
use Rattle.std.proofs.lemmas.Bool.{cases_lt}
use Rattle.std.proofs.lemmas.Nat.{shr-shr, shl-shr, mod-pow-add, shr_split, or_shifted, shl_whole, mod_low}
use Rattle.std.proofs.lemmas.Nat.Bits.{bit_at_or, bit_at_above, bit_at_cat_low, bit_at_cat_high, bit_at-zero}

-- what a stretch leaves at the top of the next one
pushed-over : (before lag : ℕ) → lag ≤ 64 → (before * 2 ^ (64 - lag)) % 2 ^ 64 ≡ (before % 2 ^ lag) * 2 ^ (64 - lag) + 0
pushed-over before lag h =
    let k = 64 - lag in
    let n = before * 2 ^ k in
    let e : 64 ≡ lag + k = omega arith in
    let none : n % 2 ^ k ≡ 0 = ap (λ m. m % 2 ^ k) (let z : before * 2 ^ k ≡ before * 2 ^ k + 0 = omega arith in z)
    ∙ mod_low before k 0 (Rattle.std.proofs.lemmas.Nat.pow_pos k) in
    ap (λ w. n % 2 ^ w) e ∙ mod-pow-add n lag k ∙ ap (λ q. q % 2 ^ lag * 2 ^ k + n % 2 ^ k) (shl-shr before k) ∙ ap (λ r. before % 2 ^ lag * 2 ^ k + r) none

low-bit : (n lag i : ℕ) → i < lag → (n % 2 ^ lag) / 2 ^ i % 2 ≡ n / 2 ^ i % 2
low-bit n lag i h = sym (bit_at_cat_low (n / 2 ^ lag) lag (n % 2 ^ lag) i h) ∙ ap (λ m. m / 2 ^ i % 2) (shr_split n lag)

pub moved-near : (stretch before lag i : ℕ) → 1 ≤ lag → lag < 64 → lag ≤ i → i < 64 →
    bit_or (stretch / 2 ^ lag) ((before * 2 ^ (64 - lag)) % 2 ^ 64) / 2 ^ (63 - i) % 2 ≡ stretch / 2 ^ (63 - (i - lag)) % 2
moved-near stretch before lag i least most near inside =
    let high = shr-shr stretch lag (63 - i) in
    let e : lag + (63 - i) ≡ 63 - (i - lag) = omega arith in
    let low : (before * 2 ^ (64 - lag)) % 2 ^ 64 / 2 ^ (63 - i) % 2 ≡ 0 =
    ap (λ m. m / 2 ^ (63 - i) % 2) (pushed-over before lag (omega arith)) ∙ bit_at_cat_low (before % 2 ^ lag) (64 - lag) 0 (63 - i) (omega arith)
    ∙ bit_at-zero (63 - i) in
    let both = bit_at_or (stretch / 2 ^ lag) ((before * 2 ^ (64 - lag)) % 2 ^ 64) (63 - i) in
    let is : stretch / 2 ^ lag / 2 ^ (63 - i) % 2 ≡ stretch / 2 ^ (63 - (i - lag)) % 2 = ap (λ q. q % 2) high ∙ ap (λ k. stretch / 2 ^ k % 2) e in
    omega arith

pub moved-far : (stretch before lag i : ℕ) → stretch < 2 ^ 64 → lag < 64 → i < lag →
    bit_or (stretch / 2 ^ lag) ((before * 2 ^ (64 - lag)) % 2 ^ 64) / 2 ^ (63 - i) % 2 ≡ before / 2 ^ (lag - 1 - i) % 2
moved-far stretch before lag i fits most far =
    let high : stretch / 2 ^ lag / 2 ^ (63 - i) % 2 ≡ 0 = ap (λ q. q % 2) (shr-shr stretch lag (63 - i))
    ∙ bit_at_above stretch 64 (lag + (63 - i)) fits (omega arith) in
    let e : 63 - i - (64 - lag) ≡ lag - 1 - i = omega arith in
    let low : (before * 2 ^ (64 - lag)) % 2 ^ 64 / 2 ^ (63 - i) % 2 ≡ before / 2 ^ (lag - 1 - i) % 2 =
    ap (λ m. m / 2 ^ (63 - i) % 2) (pushed-over before lag (omega arith))
    ∙ bit_at_cat_high (before % 2 ^ lag) (64 - lag) 0 (63 - i) (Rattle.std.proofs.lemmas.Nat.pow_pos (64 - lag)) (omega arith)
    ∙ ap (λ k. before % 2 ^ lag / 2 ^ k % 2) e
    ∙ low-bit before lag (lag - 1 - i) (omega arith) in
    let both = bit_at_or (stretch / 2 ^ lag) ((before * 2 ^ (64 - lag)) % 2 ^ 64) (63 - i) in
    omega arith

-- eight more samples below a stretch of n
pub joined : (stretch samples n : ℕ) → stretch < 2 ^ n → n + 8 ≤ 64 → samples < 256 → bit_or ((stretch * 2 ^ 8) % 2 ^ 64) samples ≡ stretch * 2 ^ 8 + samples
joined stretch samples n fits room small = ap (λ w. bit_or w samples) (shl_whole stretch n 8 64 fits room) ∙ or_shifted stretch 8 samples small

-- a stretch of n samples, the byte's eight behind them
pub byte-behind : (stretch samples n : ℕ) → stretch < 2 ^ n → samples < 256 → stretch * 2 ^ 8 + samples < 2 ^ (n + 8)
byte-behind stretch samples n fits small =
    let e : 2 ^ (n + 8) ≡ 2 ^ n * 2 ^ 8 = Rattle.std.proofs.lemmas.Nat.pow-add 2 n 8 in
    omega arith

pub byte-bits : (stretch samples n i : ℕ) (F : ℕ → ℕ) → samples < 256 → ((j : ℕ) → j < n → stretch / 2 ^ (n - 1 - j) % 2 ≡ F j)
    → ((j : ℕ) → j < 8 → samples / 2 ^ (7 - j) % 2 ≡ F (n + j)) → i < n + 8 → (stretch * 2 ^ 8 + samples) / 2 ^ (n + 8 - 1 - i) % 2 ≡ F i
byte-bits stretch samples n i F small first later inside =
    elim (cases_lt i n) [
      | inl h ↦
          let e : n + 8 - 1 - i - 8 ≡ n - 1 - i = omega arith in
          bit_at_cat_high stretch 8 samples (n + 8 - 1 - i) small (omega arith) ∙ ap (λ k. stretch / 2 ^ k % 2) e ∙ first i h
      | inr h ↦
          let e : n + 8 - 1 - i ≡ 7 - (i - n) = omega arith in
          let f : n + (i - n) ≡ i = omega arith in
          bit_at_cat_low stretch 8 samples (n + 8 - 1 - i) (omega arith) ∙ ap (λ k. samples / 2 ^ k % 2) e ∙ later (i - n) (omega arith) ∙ ap F f
    ]
