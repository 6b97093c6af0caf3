-- Signed sums of coefficients.
use Rattle.std.proofs.Common.{◌≡◌, ℕ, zero, suc, ◌+◌, ◌*◌, ◌/◌, ◌%◌, ◌^◌, ◌<◌, ◌≤◌, true, false, cond, eqb, ℤ, pos, ◌+ℤ◌, ◌-ℤ◌, neg_ℤ, ◌≤ℤ◌, List, []}
use Rattle.std.proofs.Common.{◌∷◌, ◌++◌, length, get_or, take, drop, set, refl, ap, sym, ◌∙◌, arith, add-one}
use Rattle.std.proofs.lemmas.Int.{ints}
use Rattle.std.proofs.lemmas.List.{take_more, length-take-le, get_or-drop}
use Rattle.std.proofs.Math.Nat.{pow-suc, pow-le-pow_right}
use Rattle.std.specs.List.{AllByRecursion}
use Rattle.dst_spec.specs.Guess.{signed}
use Rattle.dst_spec.specs.Table.{filter_kind, InRange}
use Rattle.byte_predictor.specs.Samples.{rising_bits, samples_of, signed_sum}
use Rattle.byte_predictor.specs.Parts.{part_sum}
use Rattle.byte_predictor.proofs.Bits.{samples_of-push, length-samples_of, length-rising_bits}

pub signed_sum-none : (coefs : List ℤ) → signed_sum coefs [] ≡ pos 0
unfolding signed_sum
signed_sum-none [] = refl
signed_sum-none (a ∷ coefs) = refl

pub signed_sum-nothing : (coefs : List ℤ) → pos 0 ≡ signed_sum coefs (samples_of [])
unfolding samples_of
signed_sum-nothing coefs = sym (signed_sum-none coefs)

pub signed_sum-append : (coefs : List ℤ) (xs ys : List ℕ) → signed_sum coefs (xs ++ ys) ≡ signed_sum coefs xs +ℤ signed_sum (drop (length xs) coefs) ys
unfolding signed_sum
signed_sum-append [] [] ys = refl
signed_sum-append [] (x ∷ xs) ys = refl
signed_sum-append (a ∷ coefs) [] ys = omega (arith, ints)
signed_sum-append (a ∷ coefs) (x ∷ xs) ys = omega (arith, ints, signed_sum-append coefs xs ys)

-- A number's bit i goes from 0 to 1: coefficient i is taken positive in place of negative.
pub signed_sum-raised : (coefs : List ℤ) (n i x : ℕ) → i < n → x < 2 ^ i →
    signed_sum coefs (rising_bits n (2 ^ i + x)) ≡ signed_sum coefs (rising_bits n x) +ℤ (get_or coefs i (pos 0) +ℤ get_or coefs i (pos 0))
unfolding signed_sum rising_bits
signed_sum-raised [] n i x h k = refl
signed_sum-raised (a ∷ coefs) zero i x h k = absurd (omega arith)
signed_sum-raised (a ∷ coefs) (suc n) zero zero h k = omega (arith, ints)
signed_sum-raised (a ∷ coefs) (suc n) zero (suc x) h k = absurd (omega arith)
signed_sum-raised (a ∷ coefs) (suc n) (suc i) x h k =
    let double = pow-suc 2 i in
    let low : (2 ^ suc i + x) % 2 ≡ x % 2 = omega arith in
    let rest : (2 ^ suc i + x) / 2 ≡ 2 ^ i + x / 2 = omega arith in
    let further = signed_sum-raised coefs n i (x / 2) (omega arith) (omega arith) in
    rw (low, rest) (omega (arith, ints, further))

-- one more coefficient with a sample 0
pub signed_sum-zeros : (coefs : List ℤ) (i : ℕ) → signed_sum coefs (rising_bits (suc i) 0) ≡ signed_sum coefs (rising_bits i 0) -ℤ get_or coefs i (pos 0)
unfolding signed_sum rising_bits
signed_sum-zeros [] i = refl
signed_sum-zeros (a ∷ coefs) zero = omega (arith, ints, signed_sum-none coefs)
signed_sum-zeros (a ∷ coefs) (suc i) = omega (arith, ints, signed_sum-zeros coefs i)

pub each-drop : (n : ℕ) (coefs : List ℤ) → AllByRecursion (InRange filter_kind) coefs → AllByRecursion (InRange filter_kind) (drop n coefs)
each-drop zero coefs h = h
each-drop (suc n) [] h = h
each-drop (suc n) (a ∷ coefs) h = each-drop n coefs h.1

pub coef-range : (coefs : List ℤ) (i : ℕ) → AllByRecursion (InRange filter_kind) coefs → InRange filter_kind (get_or coefs i (pos 0))
coef-range [] i h = (omega (arith, ints), omega (arith, ints))
coef-range (a ∷ coefs) zero h = h.0
coef-range (a ∷ coefs) (suc i) h = coef-range coefs i h.1

-- within so much on both sides
abbrev pub Within : ℕ → ℤ → Type 0
Within n z = (neg_ℤ (pos n) ≤ℤ z) × (z ≤ℤ pos n)

signed-within : (bit : ℕ) (a : ℤ) → InRange filter_kind a → Within 256 (signed bit a)
signed-within bit a h =
    elim (eqb bit 1) as (λ v. Within 256 (cond v a (neg_ℤ a))) [
      | true ↦ (omega (arith, ints, h.0, h.1), omega (arith, ints, h.0, h.1))
      | false ↦ (omega (arith, ints, h.0, h.1), omega (arith, ints, h.0, h.1))
    ]

pub signed_sum-within : (coefs : List ℤ) (samples : List ℕ) → AllByRecursion (InRange filter_kind) coefs →
    Within (256 * length samples) (signed_sum coefs samples)
unfolding signed_sum
signed_sum-within [] samples h = (omega (arith, ints), omega (arith, ints))
signed_sum-within (a ∷ coefs) [] h = (omega (arith, ints), omega (arith, ints))
signed_sum-within (a ∷ coefs) (bit ∷ samples) h =
    let one = signed-within bit a h.0 in
    let others = signed_sum-within coefs samples h.1 in
    (omega (arith, ints, one.0, others.0), omega (arith, ints, one.1, others.1))

-- one more byte
pub signed_sum-more : (coefs : List ℤ) (bytes : List ℕ) (j : ℕ) → j < length bytes →
    signed_sum coefs (samples_of (take (j + 1) bytes)) ≡ signed_sum coefs (samples_of (take j bytes)) +ℤ part_sum coefs j (get_or bytes j 0)
signed_sum-more coefs bytes j h =
    let front = take j bytes in
    let long : length (samples_of front) ≡ 8 * j = omega (arith, length-samples_of front, length-take-le j bytes (omega arith)) in
    ap (λ t. signed_sum coefs (samples_of t)) (take_more bytes j 0 h)
    ∙ ap (signed_sum coefs) (samples_of-push front (get_or bytes j 0))
    ∙ signed_sum-append coefs (samples_of front) (rising_bits 8 (get_or bytes j 0))
    ∙ ap (λ n. signed_sum coefs (samples_of front) +ℤ signed_sum (drop n coefs) (rising_bits 8 (get_or bytes j 0))) long

pub half-below : (i : ℕ) → i < 8 → 2 * 2 ^ i ≤ 256
half-below i h =
    let eighth : 2 ^ suc i ≤ 2 ^ 8 = pow-le-pow_right {n = 2} (omega arith) {i = suc i} {j = 8} (omega arith) in
    omega (arith, pow-suc 2 i, eighth)

pub signed_sum-no_bits : (coefs : List ℤ) → pos 0 ≡ signed_sum coefs (rising_bits 0 0)
unfolding rising_bits
signed_sum-no_bits coefs = sym (signed_sum-none coefs)

pub within-bits : (coefs : List ℤ) (first n x : ℕ) → n ≤ 8 → AllByRecursion (InRange filter_kind) coefs →
    Within 2048 (signed_sum (drop first coefs) (rising_bits n x))
within-bits coefs first n x h each =
    let bound = signed_sum-within (drop first coefs) (rising_bits n x) (each-drop first coefs each) in
    let long = length-rising_bits n x in
    (omega (arith, ints, bound.0, long), omega (arith, ints, bound.1, long))

-- the sum and one coefficient more at a sample 0
pub lowest-step : (coefs : List ℤ) (first i : ℕ) (sum coef : ℤ) → AllByRecursion (InRange filter_kind) coefs → i < 8 →
    sum ≡ signed_sum (drop first coefs) (rising_bits i 0) → coef ≡ get_or coefs (first + i) (pos 0) →
    (sum -ℤ coef ≡ signed_sum (drop first coefs) (rising_bits (i + 1) 0)) × Within 2048 (sum -ℤ coef)
lowest-step coefs first i sum coef each h s e =
    let at : get_or (drop first coefs) i (pos 0) ≡ coef = get_or-drop first coefs i (pos 0) ∙ sym e in
    let zeros = signed_sum-zeros (drop first coefs) i in
    let bound = within-bits coefs first (suc i) 0 (omega arith) each in
    let is : sum -ℤ coef ≡ signed_sum (drop first coefs) (rising_bits (suc i) 0) = omega (arith, ints, at, zeros, s) in
    (rw add-one is, (omega (arith, ints, is, bound.0), omega (arith, ints, is, bound.1)))

-- the sum where one coefficient more is at a sample 1
pub raised-step : (coefs : List ℤ) (first i half byte : ℕ) (low coef : ℤ) → AllByRecursion (InRange filter_kind) coefs → i < 8 → half ≡ 2 ^ i →
    byte < half → low ≡ signed_sum (drop first coefs) (rising_bits 8 byte) → coef ≡ get_or coefs (first + i) (pos 0) →
    (low +ℤ (coef +ℤ coef) ≡ signed_sum (drop first coefs) (rising_bits 8 (half + byte))) × Within 2048 (low +ℤ (coef +ℤ coef))
raised-step coefs first i half byte low coef each h power lt s e =
    let at : get_or (drop first coefs) i (pos 0) ≡ coef = get_or-drop first coefs i (pos 0) ∙ sym e in
    let below : byte < 2 ^ i = omega arith in
    let raised = signed_sum-raised (drop first coefs) 8 i byte h below in
    let bound = within-bits coefs first 8 (2 ^ i + byte) (omega arith) each in
    let is : low +ℤ (coef +ℤ coef) ≡ signed_sum (drop first coefs) (rising_bits 8 (2 ^ i + byte)) = omega (arith, ints, at, raised, s) in
    (rw power is, (omega (arith, ints, is, bound.0), omega (arith, ints, is, bound.1)))

-- A table that is right below a place is right at one place more.
pub table-more : (table : List ℤ) (n : ℕ) (y : ℤ) (F : ℕ → ℤ) → n < length table → ((b : ℕ) → b < n → get_or table b (pos 0) ≡ F b) → y ≡ F n → (b : ℕ) →
    b < suc n → get_or (set table n y) b (pos 0) ≡ F b
table-more [] n y F h below here b lt = absurd (omega arith)
table-more (x ∷ table) zero y F h below here zero lt = here
table-more (x ∷ table) zero y F h below here (suc b) lt = absurd (omega arith)
table-more (x ∷ table) (suc n) y F h below here zero lt = below 0 (omega arith)
table-more (x ∷ table) (suc n) y F h below here (suc b) lt =
    table-more table n y (λ k. F (suc k)) (omega arith) (λ k j. below (suc k) (omega arith)) here b (omega arith)
