-- How many samples of a channel differ from earlier ones, counted by bits of stretches.
use Rattle.std.proofs.Common.{◌≡◌, ℕ, zero, suc, ◌+◌, ◌-◌, ◌*◌, ◌/◌, ◌%◌, ◌^◌, ◌<◌, ◌≤◌, bit_xor, count_ones, cond, List, get_or}
use Rattle.std.proofs.Common.{inl, inr, refl, ap, sym, ◌∙◌, arith}
use Rattle.std.proofs.lemmas.Nat.{ones_cat, shr-shr, shr_split, xor_lt}
use Rattle.std.proofs.lemmas.Nat.Bits.{bit_at_xor, bit_at-zero}
use Rattle.std.proofs.lemmas.Bool.{cases_lt}
use lib.Count.{ones}
use Rattle.filter_refiner.proofs.Lengths.{test-true, test-false}
use Rattle.filter_analyser.specs.Stretches.{bit_of, late, passed, tally}
use Rattle.filter_analyser.proofs.Tallies.{tally-same, tally-moved}

one_bit : (r : ℕ) → r < 2 → count_ones r ≡ r
unfolding ones
one_bit zero h = refl
one_bit (suc zero) h = refl
one_bit (suc (suc r)) h = absurd (omega arith)

no_bit : (x : ℕ) → x < 2 ^ 0 → count_ones x ≡ 0
unfolding ones
no_bit zero h = refl
no_bit (suc x) h = absurd (omega arith)

-- the ones of a number below 2 ^ n, bit for bit from the most significant one
pub ones-bits : (n x : ℕ) → x < 2 ^ n → count_ones x ≡ tally (λ i. x / 2 ^ (n - 1 - i) % 2) 0 n
unfolding tally
ones-bits zero x h = no_bit x h
ones-bits (suc n) x h =
    let half : x / 2 ^ 1 < 2 ^ n = omega (arith, Rattle.std.proofs.Math.Nat.pow-suc 2 n) in
    let split : x / 2 ^ 1 * 2 ^ 1 + x % 2 ^ 1 ≡ x = shr_split x 1 in
    let parts : count_ones (x / 2 ^ 1 * 2 ^ 1 + x % 2 ^ 1) ≡ count_ones (x / 2 ^ 1) + count_ones (x % 2 ^ 1) =
    ones_cat 1 (x / 2 ^ 1) (x % 2 ^ 1) (omega arith) in
    let last : count_ones (x % 2 ^ 1) ≡ x % 2 = one_bit (x % 2 ^ 1) (omega arith) in
    let rest : count_ones (x / 2 ^ 1) ≡ tally (λ i. x / 2 ^ 1 / 2 ^ (n - 1 - i) % 2) 0 n = ones-bits n (x / 2 ^ 1) half in
    let same : tally (λ i. x / 2 ^ 1 / 2 ^ (n - 1 - i) % 2) 0 n ≡ tally (λ i. x / 2 ^ (suc n - 1 - i) % 2) 0 n =
    tally-same (λ i. x / 2 ^ 1 / 2 ^ (n - 1 - i) % 2) (λ i. x / 2 ^ (suc n - 1 - i) % 2) 0 n (λ i least most.
    let e : 1 + (n - 1 - i) ≡ suc n - 1 - i = omega arith in
    ap (λ q. q % 2) (shr-shr x 1 (n - 1 - i)) ∙ ap (λ k. x / 2 ^ k % 2) e) in
    let lowest : x / 2 ^ (suc n - 1 - (0 + n)) % 2 ≡ x % 2 = let e : suc n - 1 - (0 + n) ≡ 0 = omega arith in ap (λ k. x / 2 ^ k % 2) e ∙ omega arith in
    let is : count_ones x ≡ count_ones (x / 2 ^ 1 * 2 ^ 1 + x % 2 ^ 1) = ap (λ y. count_ones y) (sym split) in
    omega arith

-- of two stretches that differ
pub ones-differing : (a b : ℕ) (F : ℕ → ℕ) → a < 2 ^ 64 → b < 2 ^ 64 → ((i : ℕ) → i < 64 → b / 2 ^ (63 - i) % 2 ≡ F i) →
    count_ones (bit_xor a b) ≡ tally (λ i. (a / 2 ^ (63 - i) % 2 + F i) % 2) 0 64
ones-differing a b F h k bits =
    ones-bits 64 (bit_xor a b) (xor_lt 64 a b h k)
    ∙ tally-same (λ i. bit_xor a b / 2 ^ (64 - 1 - i) % 2) (λ i. (a / 2 ^ (63 - i) % 2 + F i) % 2) 0 64 (λ i least most.
    let e : 64 - 1 - i ≡ 63 - i = omega arith in
    ap (λ k. bit_xor a b / 2 ^ k % 2) e ∙ bit_at_xor a b (63 - i) ∙ ap (λ m. (a / 2 ^ (63 - i) % 2 + m) % 2) (bits i most))

-- sample i of stretch w
pub bit_of-stretch : (stretches : List ℕ) (w i : ℕ) → i < 64 → bit_of stretches (64 * w + i) ≡ get_or stretches w 0 / 2 ^ (63 - i) % 2
bit_of-stretch stretches w i h =
    let row : (64 * w + i) / 64 ≡ w = omega arith in
    let place : 63 - (64 * w + i) % 64 ≡ 63 - i = omega arith in
    ap (λ q. get_or stretches q 0 / 2 ^ (63 - (64 * w + i) % 64) % 2) row ∙ ap (λ k. get_or stretches w 0 / 2 ^ k % 2) place

-- what stands before a stretch: the stretch before it, and zeros before the first one
pub record IsBefore (stretches : List ℕ) (w before : ℕ) : Type 0 where
  pub none : w ≡ 0 → before ≡ 0
  pub some : 0 < w → before ≡ get_or stretches (w - 1) 0

late-here : (stretches : List ℕ) (w before lag i : ℕ) → lag ≤ i → i < 64 → passed (get_or stretches w 0) before lag i ≡ late stretches lag (64 * w + i)
late-here stretches w before lag i near inside =
    let e : 64 * w + i - lag ≡ 64 * w + (i - lag) = omega arith in
    ap (λ b. cond b (before / 2 ^ (lag - 1 - i) % 2) (get_or stretches w 0 / 2 ^ (63 - (i - lag)) % 2)) (test-false i lag near)
    ∙ sym (bit_of-stretch stretches w (i - lag) (omega arith))
    ∙ ap (bit_of stretches) (sym e)
    ∙ sym (ap (λ b. cond b 0 (bit_of stretches (64 * w + i - lag))) (test-false (64 * w + i) lag (omega arith)))

late-first : (stretches : List ℕ) (before lag i : ℕ) → before ≡ 0 → i < lag → passed (get_or stretches 0 0) before lag i ≡ late stretches lag (64 * 0 + i)
late-first stretches before lag i none far =
    ap (λ b. cond b (before / 2 ^ (lag - 1 - i) % 2) (get_or stretches 0 0 / 2 ^ (63 - (i - lag)) % 2)) (test-true i lag far)
    ∙ ap (λ x. x / 2 ^ (lag - 1 - i) % 2) none
    ∙ bit_at-zero (lag - 1 - i)
    ∙ sym (ap (λ b. cond b 0 (bit_of stretches (64 * 0 + i - lag))) (test-true (64 * 0 + i) lag (omega arith)))

late-behind : (stretches : List ℕ) (w before lag i : ℕ) → before ≡ get_or stretches w 0 → lag < 64 → i < lag →
    passed (get_or stretches (suc w) 0) before lag i ≡ late stretches lag (64 * suc w + i)
late-behind stretches w before lag i there most far =
    let e : 64 * suc w + i - lag ≡ 64 * w + (64 + i - lag) = omega arith in
    let place : lag - 1 - i ≡ 63 - (64 + i - lag) = omega arith in
    ap (λ b. cond b (before / 2 ^ (lag - 1 - i) % 2) (get_or stretches (suc w) 0 / 2 ^ (63 - (i - lag)) % 2)) (test-true i lag far)
    ∙ ap (λ x. x / 2 ^ (lag - 1 - i) % 2) there
    ∙ ap (λ k. get_or stretches w 0 / 2 ^ k % 2) place
    ∙ sym (bit_of-stretch stretches w (64 + i - lag) (omega arith))
    ∙ ap (bit_of stretches) (sym e)
    ∙ sym (ap (λ b. cond b 0 (bit_of stretches (64 * suc w + i - lag))) (test-false (64 * suc w + i) lag (omega arith)))

pub passed-late : (stretches : List ℕ) (w before lag i : ℕ) → IsBefore stretches w before → lag < 64 → i < 64 →
    passed (get_or stretches w 0) before lag i ≡ late stretches lag (64 * w + i)
passed-late stretches zero before lag i h most inside =
    elim (cases_lt i lag) [ inl far ↦ late-first stretches before lag i (h.none refl) far | inr near ↦ late-here stretches zero before lag i near inside ]
passed-late stretches (suc w) before lag i h most inside =
    let e : suc w - 1 ≡ w = omega arith in
    elim (cases_lt i lag) [
      | inl far ↦ late-behind stretches w before lag i (h.some (omega arith) ∙ ap (λ k. get_or stretches k 0) e) most far
      | inr near ↦ late-here stretches (suc w) before lag i near inside
    ]

-- the stretch's part of a tally
pub tally-stretch : (stretches others : List ℕ) (w before lag : ℕ) → IsBefore others w before → lag < 64 →
    tally (λ i. (get_or stretches w 0 / 2 ^ (63 - i) % 2 + passed (get_or others w 0) before lag i) % 2) 0 64 ≡ tally
    (λ t. (bit_of stretches t + late others lag t) % 2) (64 * w) 64
tally-stretch stretches others w before lag h most =
    tally-same (λ i. (get_or stretches w 0 / 2 ^ (63 - i) % 2 + passed (get_or others w 0) before lag i) % 2)
    (λ i. (bit_of stretches (64 * w + i) + late others lag (64 * w + i)) % 2) 0 64 (λ i least inside.
    let a = bit_of-stretch stretches w i inside in
    let b = passed-late others w before lag i h most inside in
    ap (λ x. (x + passed (get_or others w 0) before lag i) % 2) (sym a) ∙ ap (λ y. (bit_of stretches (64 * w + i) + y) % 2) b)
    ∙ sym (tally-moved (λ t. (bit_of stretches t + late others lag t) % 2) (64 * w) 64)
