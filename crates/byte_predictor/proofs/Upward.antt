-- Sums of what coefficients add upward.
use Rattle.std.proofs.Common.{◌≡◌, ℕ, zero, suc, ◌+◌, ◌-◌, ◌*◌, ◌/◌, ◌%◌, ◌^◌, ◌<◌, ◌≤◌, true, false, cond, eqb, ℤ, pos, negsuc, ◌+ℤ◌, ◌-ℤ◌, neg_ℤ}
use Rattle.std.proofs.Common.{nat_abs, List, [], ◌∷◌, ◌++◌, length, get_or, take, drop, replicate, refl, ap, ap₂, sym, ◌∙◌, arith, add-one}
use Rattle.std.proofs.lemmas.Int.{ints}
use Rattle.std.proofs.lemmas.List.{drop-drop}
use Rattle.std.proofs.Math.Nat.{pow-suc}
use Rattle.std.specs.List.{AllByRecursion}
use Rattle.dst_spec.specs.Guess.{signed}
use Rattle.dst_spec.specs.Table.{filter_kind, InRange}
use Rattle.byte_predictor.specs.Samples.{rising_bits, signed_sum}
use Rattle.byte_predictor.specs.Upward.{above_zero, upward_sum, size_sum, far, shifted}
use Rattle.byte_predictor.proofs.Bits.{length-rising_bits}

above_zero-turned : (a : ℤ) → pos (above_zero a) ≡ pos (above_zero (neg_ℤ a)) +ℤ a
above_zero-turned (pos zero) = refl
above_zero-turned (pos (suc n)) = omega (arith, ints)
above_zero-turned (negsuc n) = omega (arith, ints)

above_zero-none : (bit : ℕ) → above_zero (signed bit (pos 0)) ≡ 0
above_zero-none bit = elim (eqb bit 1) as (λ v. above_zero (cond v (pos 0) (neg_ℤ (pos 0))) ≡ 0) [ true ↦ refl | false ↦ refl ]

double-less : (a : ℤ) → a ≡ pos (2 * above_zero a) -ℤ pos (nat_abs a)
double-less (pos n) = omega (arith, ints)
double-less (negsuc n) = omega (arith, ints)

double-less-turned : (a : ℤ) → neg_ℤ a ≡ pos (2 * above_zero (neg_ℤ a)) -ℤ pos (nat_abs a)
double-less-turned (pos zero) = refl
double-less-turned (pos (suc n)) = omega (arith, ints)
double-less-turned (negsuc n) = omega (arith, ints)

signed-is : (bit : ℕ) (a : ℤ) → signed bit a ≡ pos (2 * above_zero (signed bit a)) -ℤ pos (nat_abs a)
signed-is bit a = elim (eqb bit 1) as (λ v. cond v a (neg_ℤ a) ≡ pos (2 * above_zero (cond v a (neg_ℤ a))) -ℤ pos
    (nat_abs a)) [ true ↦ double-less a | false ↦ double-less-turned a ]

-- A signed sum is twice what goes upward, less all sizes.
pub signed_sum-is : (coefs : List ℤ) (samples : List ℕ) → length coefs ≤ length samples →
    signed_sum coefs samples ≡ pos (2 * upward_sum coefs samples) -ℤ pos (size_sum coefs)
unfolding signed_sum upward_sum size_sum
signed_sum-is [] samples h = refl
signed_sum-is (a ∷ coefs) [] h = absurd (omega arith)
signed_sum-is (a ∷ coefs) (bit ∷ samples) h =
    let here : signed bit a ≡ pos (2 * above_zero (signed bit a)) -ℤ pos (nat_abs a) = signed-is bit a in
    let further = signed_sum-is coefs samples (omega arith) in
    omega (arith, ints, here, further)

pub upward_sum-none : (coefs : List ℤ) → upward_sum coefs [] ≡ 0
unfolding upward_sum
upward_sum-none [] = refl
upward_sum-none (a ∷ coefs) = refl

pub upward_sum-append : (coefs : List ℤ) (xs ys : List ℕ) → upward_sum coefs (xs ++ ys) ≡ upward_sum coefs xs + upward_sum (drop (length xs) coefs) ys
unfolding upward_sum
upward_sum-append [] [] ys = refl
upward_sum-append [] (x ∷ xs) ys = refl
upward_sum-append (a ∷ coefs) [] ys = omega arith
upward_sum-append (a ∷ coefs) (x ∷ xs) ys = omega (arith, upward_sum-append coefs xs ys)

-- A number's bit i goes from 0 to 1.
pub upward_sum-raised : (coefs : List ℤ) (n i x : ℕ) → i < n → x < 2 ^ i →
    pos (upward_sum coefs (rising_bits n (2 ^ i + x))) ≡ pos (upward_sum coefs (rising_bits n x)) +ℤ get_or coefs i (pos 0)
unfolding upward_sum rising_bits
upward_sum-raised [] n i x h k = refl
upward_sum-raised (a ∷ coefs) zero i x h k = absurd (omega arith)
upward_sum-raised (a ∷ coefs) (suc n) zero zero h k = omega (arith, ints, above_zero-turned a)
upward_sum-raised (a ∷ coefs) (suc n) zero (suc x) h k = absurd (omega arith)
upward_sum-raised (a ∷ coefs) (suc n) (suc i) x h k =
    let double = pow-suc 2 i in
    let low : (2 ^ suc i + x) % 2 ≡ x % 2 = omega arith in
    let rest : (2 ^ suc i + x) / 2 ≡ 2 ^ i + x / 2 = omega arith in
    let further = upward_sum-raised coefs n i (x / 2) (omega arith) (omega arith) in
    rw (low, rest) (omega (arith, ints, further))

-- one more coefficient with a sample 0
pub upward_sum-zeros : (coefs : List ℤ) (i : ℕ) → upward_sum coefs (rising_bits (suc i) 0) ≡ upward_sum coefs (rising_bits i 0) + above_zero
    (neg_ℤ (get_or coefs i (pos 0)))
unfolding upward_sum rising_bits
upward_sum-zeros [] i = refl
upward_sum-zeros (a ∷ coefs) zero = omega (arith, upward_sum-none coefs)
upward_sum-zeros (a ∷ coefs) (suc i) = omega (arith, upward_sum-zeros coefs i)

above_zero-below : (bit : ℕ) (a : ℤ) → InRange filter_kind a → above_zero (signed bit a) ≤ 256
above_zero-below bit a h = elim (eqb bit 1) as (λ v. above_zero (cond v a (neg_ℤ a)) ≤ 256) [ true ↦ up a h | false ↦ down a h ]
  where
    up : (a : ℤ) → InRange filter_kind a → above_zero a ≤ 256
    up (pos n) h = omega (arith, ints, h.1)
    up (negsuc n) h = omega arith

    down : (a : ℤ) → InRange filter_kind a → above_zero (neg_ℤ a) ≤ 256
    down (pos zero) h = omega arith
    down (pos (suc n)) h = omega arith
    down (negsuc n) h = omega (arith, ints, h.0)

pub upward_sum-below : (coefs : List ℤ) (samples : List ℕ) → AllByRecursion (InRange filter_kind) coefs → upward_sum coefs samples ≤ 256 * length coefs
unfolding upward_sum
upward_sum-below [] samples h = omega arith
upward_sum-below (a ∷ coefs) [] h = omega arith
upward_sum-below (a ∷ coefs) (bit ∷ samples) h = omega (arith, above_zero-below bit a h.0, upward_sum-below coefs samples h.1)

-- equal coefficients, with zeros behind
pub upward_sum-same : (xs ys : List ℤ) (samples : List ℕ) → ((j : ℕ) → get_or xs j (pos 0) ≡ get_or ys j (pos 0)) →
    upward_sum xs samples ≡ upward_sum ys samples
unfolding upward_sum
upward_sum-same [] [] samples h = refl
upward_sum-same [] (y ∷ ys) [] h = refl
upward_sum-same (x ∷ xs) [] [] h = refl
upward_sum-same (x ∷ xs) (y ∷ ys) [] h = refl
upward_sum-same [] (y ∷ ys) (bit ∷ samples) h =
    let none : above_zero (signed bit y) ≡ 0 = ap (λ a. above_zero (signed bit a)) (sym (h 0)) ∙ above_zero-none bit in
    omega (arith, none, upward_sum-same [] ys samples (λ j. h (suc j)))
upward_sum-same (x ∷ xs) [] (bit ∷ samples) h =
    let none : above_zero (signed bit x) ≡ 0 = ap (λ a. above_zero (signed bit a)) (h 0) ∙ above_zero-none bit in
    let rest : upward_sum xs samples ≡ upward_sum [] samples = upward_sum-same xs [] samples (λ j. h (suc j)) in
    omega (arith, none, rest)
upward_sum-same (x ∷ xs) (y ∷ ys) (bit ∷ samples) h = ap₂ (λ a s. above_zero (signed bit a) + s) (h 0) (upward_sum-same xs ys samples (λ j. h (suc j)))

-- the first n coefficients, and those behind at their places
split-at : (n : ℕ) (coefs : List ℤ) (samples : List ℕ) →
    upward_sum coefs samples ≡ upward_sum coefs (take n samples) + upward_sum (replicate n (pos 0) ++ drop n coefs) samples
unfolding upward_sum
split-at zero coefs samples = omega (arith, upward_sum-none coefs)
split-at (suc n) coefs [] = omega (arith, upward_sum-none coefs, upward_sum-none (replicate (suc n) (pos 0) ++ drop (suc n) coefs))
split-at (suc n) [] (bit ∷ samples) = omega (arith, above_zero-none bit, split-at n [] samples, nothing n)
  where
    nothing : (n : ℕ) → upward_sum (replicate n (pos 0) ++ drop n []) samples ≡ upward_sum (replicate n (pos 0) ++ []) samples
    nothing zero = refl
    nothing (suc n) = refl
split-at (suc n) (a ∷ coefs) (bit ∷ samples) = omega (arith, above_zero-none bit, split-at n coefs samples)

-- zeros in front leave out samples
skip-zeros : (n p : ℕ) (xs : List ℤ) (samples : List ℕ) → p ≤ n →
    upward_sum (replicate n (pos 0) ++ xs) samples ≡ upward_sum (drop p (replicate n (pos 0) ++ xs)) (drop p samples)
unfolding upward_sum
skip-zeros n zero xs samples h = refl
skip-zeros zero (suc p) xs samples h = absurd (omega arith)
skip-zeros (suc n) (suc p) xs [] h = sym (upward_sum-none (drop p (replicate n (pos 0) ++ xs)))
skip-zeros (suc n) (suc p) xs (bit ∷ samples) h = omega (arith, above_zero-none bit, skip-zeros n p xs samples (omega arith))

-- the newest eight samples, and those that are in the sums ahead
pub upward_sum-split : (coefs : List ℤ) (place : ℕ) (samples : List ℕ) → place ≤ 8 →
    upward_sum coefs samples ≡ upward_sum coefs (take 8 samples) + upward_sum (drop place (far coefs)) (drop place samples)
unfolding far
upward_sum-split coefs place samples h =
    split-at 8 coefs samples ∙ ap (λ n. upward_sum coefs (take 8 samples) + n) (skip-zeros 8 place (drop 8 coefs) samples h)

-- a whole byte goes into the sums
pub upward_sum-byte : (xs : List ℤ) (lane byte : ℕ) (older : List ℕ) →
    upward_sum (drop lane xs) (rising_bits 8 byte ++ older) ≡ upward_sum (drop lane xs) (rising_bits 8 byte) + upward_sum (drop (lane + 8) xs) older
upward_sum-byte xs lane byte older =
    upward_sum-append (drop lane xs) (rising_bits 8 byte) older
    ∙ ap (λ n. upward_sum (drop lane xs) (rising_bits 8 byte) + upward_sum (drop n (drop lane xs)) older) (length-rising_bits 8 byte)
    ∙ ap (λ t. upward_sum (drop lane xs) (rising_bits 8 byte) + upward_sum t older) (drop-drop 8 lane xs)

-- coefficients behind eight zeros leave out the newest of the byte
pub upward_sum-shifted : (coefs : List ℤ) (place : ℕ) (samples : List ℕ) → place ≤ 8 →
    upward_sum (drop place (shifted coefs)) samples ≡ upward_sum coefs (drop (8 - place) samples)
unfolding shifted
upward_sum-shifted coefs place samples h =
    ap (λ t. upward_sum t samples) (front place coefs h)
    ∙ skip-zeros (8 - place) (8 - place) coefs samples (omega arith)
    ∙ ap (λ t. upward_sum t (drop (8 - place) samples)) (behind (8 - place) coefs)
  where
    front : (p : ℕ) (coefs : List ℤ) → p ≤ 8 → drop p (replicate 8 (pos 0) ++ coefs) ≡ replicate (8 - p) (pos 0) ++ coefs
    front zero coefs h = refl
    front (suc zero) coefs h = refl
    front (suc (suc zero)) coefs h = refl
    front (suc (suc (suc zero))) coefs h = refl
    front (suc (suc (suc (suc zero)))) coefs h = refl
    front (suc (suc (suc (suc (suc zero))))) coefs h = refl
    front (suc (suc (suc (suc (suc (suc zero)))))) coefs h = refl
    front (suc (suc (suc (suc (suc (suc (suc zero))))))) coefs h = refl
    front (suc (suc (suc (suc (suc (suc (suc (suc zero)))))))) coefs h = refl
    front (suc (suc (suc (suc (suc (suc (suc (suc (suc p))))))))) coefs h = absurd (omega arith)

    behind : (n : ℕ) (coefs : List ℤ) → drop n (replicate n (pos 0) ++ coefs) ≡ coefs
    behind zero coefs = refl
    behind (suc n) coefs = behind n coefs

pub upward_sum-within : (coefs : List ℤ) (samples : List ℕ) → ((j : ℕ) → InRange filter_kind (get_or coefs j (pos 0))) →
    upward_sum coefs samples ≤ 256 * length samples
unfolding upward_sum
upward_sum-within [] samples h = omega arith
upward_sum-within (a ∷ coefs) [] h = omega arith
upward_sum-within (a ∷ coefs) (bit ∷ samples) h = omega (arith, above_zero-below bit a (h 0), upward_sum-within coefs samples (λ j. h (suc j)))

pub upward_sum-no_bits : (coefs : List ℤ) → 0 ≡ upward_sum coefs (rising_bits 0 0)
unfolding rising_bits
upward_sum-no_bits coefs = sym (upward_sum-none coefs)

size_sum-suc : (coefs : List ℤ) (i : ℕ) → i < length coefs → size_sum (take (suc i) coefs) ≡ size_sum (take i coefs) + nat_abs (get_or coefs i (pos 0))
unfolding size_sum
size_sum-suc [] i h = absurd (omega arith)
size_sum-suc (a ∷ coefs) zero h = omega arith
size_sum-suc (a ∷ coefs) (suc i) h = omega (arith, size_sum-suc coefs i (omega arith))

pub size_sum-more : (coefs : List ℤ) (i : ℕ) → i < length coefs → size_sum (take (i + 1) coefs) ≡ size_sum (take i coefs) + nat_abs (get_or coefs i (pos 0))
size_sum-more coefs i h = rw add-one (size_sum-suc coefs i h)

pub size_sum-none : 0 ≡ size_sum []
unfolding size_sum
size_sum-none = refl

above_zero-size : (bit : ℕ) (a : ℤ) → above_zero (signed bit a) ≤ nat_abs a
above_zero-size bit a = elim (eqb bit 1) as (λ v. above_zero (cond v a (neg_ℤ a)) ≤ nat_abs a) [ true ↦ up a | false ↦ down a ]
  where
    up : (a : ℤ) → above_zero a ≤ nat_abs a
    up (pos n) = omega arith
    up (negsuc n) = omega arith

    down : (a : ℤ) → above_zero (neg_ℤ a) ≤ nat_abs a
    down (pos zero) = omega arith
    down (pos (suc n)) = omega arith
    down (negsuc n) = omega arith

pub upward_sum-size : (coefs : List ℤ) (samples : List ℕ) → upward_sum coefs samples ≤ size_sum coefs
unfolding upward_sum size_sum
upward_sum-size [] samples = omega arith
upward_sum-size (a ∷ coefs) [] = omega arith
upward_sum-size (a ∷ coefs) (bit ∷ samples) = omega (arith, above_zero-size bit a, upward_sum-size coefs samples)

pub upward_sum-empty : (samples : List ℕ) → upward_sum [] samples ≡ 0
unfolding upward_sum
upward_sum-empty samples = refl

pub size_sum-below : (coefs : List ℤ) → AllByRecursion (InRange filter_kind) coefs → size_sum coefs ≤ 256 * length coefs
unfolding size_sum
size_sum-below [] h = omega arith
size_sum-below (a ∷ coefs) h = omega (arith, size a h.0, size_sum-below coefs h.1)
  where
    size : (a : ℤ) → InRange filter_kind a → nat_abs a ≤ 256
    size (pos n) h = omega (arith, ints, h.1)
    size (negsuc n) h = omega (arith, ints, h.0)
