-- Bits with the least significant first, and samples in bytes.
use Rattle.std.proofs.Common.{◌≡◌, Bool, true, false, ℕ, zero, suc, ◌+◌, ◌*◌, ◌/◌, ◌%◌, ◌^◌, ◌<◌, List, [], ◌∷◌, ◌++◌, length, get_or, take, drop}
use Rattle.std.proofs.Common.{replicate, refl, ap, sym, subst, ◌∙◌, arith, add-one, append_assoc, length-append}
use Rattle.std.proofs.lemmas.List.{append-nil, take_at, get_or_append_left, get_or-append-add}
use Rattle.std.proofs.lemmas.Nat.{field_of, shr-shr, mod-pow-add}
use Rattle.std.specs.Int.{from_bool}
use Rattle.dst_spec.specs.Header.{bit_of}
use Rattle.byte_predictor.specs.Samples.{rising_bits, samples_of}

pub length-rising_bits : (n x : ℕ) → length (rising_bits n x) ≡ n
unfolding rising_bits
length-rising_bits zero x = refl
length-rising_bits (suc n) x = ap suc (length-rising_bits n (x / 2))

pub rising_bits-step : (n x : ℕ) → rising_bits (suc n) x ≡ x % 2 ∷ rising_bits n (x / 2)
unfolding rising_bits
rising_bits-step n x = refl

-- the last one of some bits
pub rising_bits-last : (n x : ℕ) → rising_bits (suc n) x ≡ rising_bits n (x % 2 ^ n) ++ (x / 2 ^ n % 2) ∷ []
unfolding rising_bits
rising_bits-last zero x = ap (λ y. y % 2 ∷ []) (the_whole x)
  where
    the_whole : (x : ℕ) → x ≡ x / 1
    the_whole x = omega arith
rising_bits-last (suc n) x =
    let low : x % 2 ^ suc n % 2 ≡ x % 2 = subst (λ m. x % 2 ^ m % 2 ≡ x % 2) (add-one n) (omega (arith, mod-pow-add x n 1)) in
    let rest : x % 2 ^ suc n / 2 ≡ x / 2 % 2 ^ n = subst (λ m. x % 2 ^ m / 2 ≡ x / 2 % 2 ^ n) (add-one n) (field_of x n 1) in
    let turned : 1 + n ≡ suc n = omega arith in
    let top : x / 2 / 2 ^ n ≡ x / 2 ^ suc n = subst (λ m. x / 2 / 2 ^ n ≡ x / 2 ^ m) turned (shr-shr x 1 n) in
    let inner = rising_bits-last n (x / 2) in
    rw (low, rest, ← top) (ap (λ t. x % 2 ∷ t) inner)

-- one of the bits
pub rising_bits-at : (n x k : ℕ) → k < n → get_or (rising_bits n x) k 0 ≡ x / 2 ^ k % 2
unfolding rising_bits
rising_bits-at zero x k h = absurd (omega arith)
rising_bits-at (suc n) x zero h = ap (λ y. y % 2) (the_whole x)
  where
    the_whole : (x : ℕ) → x ≡ x / 1
    the_whole x = omega arith
rising_bits-at (suc n) x (suc k) h =
    let turned : 1 + k ≡ suc k = omega arith in
    let top : x / 2 / 2 ^ k ≡ x / 2 ^ suc k = subst (λ m. x / 2 / 2 ^ k ≡ x / 2 ^ m) turned (shr-shr x 1 k) in
    rising_bits-at n (x / 2) k (omega arith) ∙ ap (λ y. y % 2) top

-- Some bits take one at their lower end, and let the oldest of them go.
pub carry-through : (others carry number : ℕ) → carry < 2 → number / 2 ^ others < 2 →
    carry ∷ rising_bits (suc others) number ≡ rising_bits (suc others) (number % 2 ^ others * 2 + carry) ++ (number / 2 ^ others) ∷ []
carry-through others carry number h k =
    let rest_of = number % 2 ^ others in
    let step = rising_bits-step others (rest_of * 2 + carry) in
    let last = rising_bits-last others number in
    let low : (rest_of * 2 + carry) % 2 ≡ carry = omega arith in
    let rest : (rest_of * 2 + carry) / 2 ≡ rest_of = omega arith in
    let top : number / 2 ^ others % 2 ≡ number / 2 ^ others = omega arith in
    rw (last, step, low, rest, top) refl

-- the low bits alone
pub rising_bits-mod : (n x : ℕ) → rising_bits n (x % 2 ^ n) ≡ rising_bits n x
unfolding rising_bits
rising_bits-mod zero x = refl
rising_bits-mod (suc n) x =
    let low : x % 2 ^ suc n % 2 ≡ x % 2 = subst (λ m. x % 2 ^ m % 2 ≡ x % 2) (add-one n) (omega (arith, mod-pow-add x n 1)) in
    let rest : x % 2 ^ suc n / 2 ≡ x / 2 % 2 ^ n = subst (λ m. x % 2 ^ m / 2 ≡ x / 2 % 2 ^ n) (add-one n) (field_of x n 1) in
    rw (low, rest) (ap (λ t. x % 2 ∷ t) (rising_bits-mod n (x / 2)))

-- the first of some bits
pub rising_bits-take : (m k x : ℕ) → take m (rising_bits (m + k) x) ≡ rising_bits m x
unfolding rising_bits
rising_bits-take zero k x = refl
rising_bits-take (suc m) k x =
    let more : suc m + k ≡ suc (m + k) = omega arith in
    rw more (ap (λ t. x % 2 ∷ t) (rising_bits-take m k (x / 2)))

-- the bits behind some
pub rising_bits-drop : (k n x : ℕ) → drop k (rising_bits (k + n) x) ≡ rising_bits n (x / 2 ^ k)
unfolding rising_bits
rising_bits-drop zero n x =
    let none : 0 + n ≡ n = omega arith in
    rw none (ap (rising_bits n) (the_whole x))
  where
    the_whole : (x : ℕ) → x ≡ x / 1
    the_whole x = omega arith
rising_bits-drop (suc k) n x =
    let turned : 1 + k ≡ suc k = omega arith in
    let top : x / 2 / 2 ^ k ≡ x / 2 ^ suc k = subst (λ m. x / 2 / 2 ^ k ≡ x / 2 ^ m) turned (shr-shr x 1 k) in
    let more : suc k + n ≡ suc (k + n) = omega arith in
    rw more (rising_bits-drop k n (x / 2) ∙ ap (rising_bits n) top)

pub samples_of-append : (xs ys : List ℕ) → samples_of (xs ++ ys) ≡ samples_of xs ++ samples_of ys
unfolding samples_of
samples_of-append [] ys = refl
samples_of-append (x ∷ xs) ys = ap (λ t. rising_bits 8 x ++ t) (samples_of-append xs ys) ∙ sym (append_assoc (rising_bits 8 x) (samples_of xs) (samples_of ys))

pub samples_of-push : (xs : List ℕ) (byte : ℕ) → samples_of (xs ++ byte ∷ []) ≡ samples_of xs ++ rising_bits 8 byte
unfolding samples_of
samples_of-push xs byte = samples_of-append xs (byte ∷ []) ∙ ap (λ t. samples_of xs ++ t) (append-nil (rising_bits 8 byte))

pub length-samples_of : (xs : List ℕ) → length (samples_of xs) ≡ 8 * length xs
unfolding samples_of
length-samples_of [] = refl
length-samples_of (x ∷ xs) = omega (arith, length-append (rising_bits 8 x) (samples_of xs), length-rising_bits 8 x, length-samples_of xs)

-- one more byte through which a sample is carried
pub shifted_more : (first carry byte moved out : ℕ) (old new : List ℕ) → first ∷ samples_of old ≡ samples_of new ++ carry ∷ [] →
    carry ∷ rising_bits 8 byte ≡ rising_bits 8 moved ++ out ∷ [] → first ∷ samples_of (old ++ byte ∷ []) ≡ samples_of (new ++ moved ∷ []) ++ out ∷ []
shifted_more first carry byte moved out old new before here =
    rw (samples_of-push old byte, samples_of-push new moved)
    (ap (λ t. t ++ rising_bits 8 byte) before
    ∙ append_assoc (samples_of new) (carry ∷ []) (rising_bits 8 byte)
    ∙ ap (λ t. samples_of new ++ t) here
    ∙ sym (append_assoc (samples_of new) (rising_bits 8 moved) (out ∷ [])))

-- what is left of sixteen bytes of samples after one more
pub pushed : (first out : ℕ) (old new : List ℕ) → length new ≡ 16 → first ∷ samples_of old ≡ samples_of new ++ out ∷ [] →
    samples_of new ≡ first ∷ take 127 (samples_of old)
pushed first out old new long e =
    let whole : length (samples_of new) ≡ 128 = omega (arith, length-samples_of new) in
    sym (take_at (samples_of new) (out ∷ []) 128 whole) ∙ ap (take 128) (sym e)

-- bytes AA are the samples 0, 1, 0, 1 and so on
pub alternating : (n j : ℕ) → j < 8 * n → get_or (samples_of (replicate n 170)) j 0 ≡ j % 2
unfolding samples_of rising_bits
alternating zero j h = absurd (omega arith)
alternating (suc n) zero h = refl
alternating (suc n) (suc zero) h = refl
alternating (suc n) (suc (suc zero)) h = refl
alternating (suc n) (suc (suc (suc zero))) h = refl
alternating (suc n) (suc (suc (suc (suc zero)))) h = refl
alternating (suc n) (suc (suc (suc (suc (suc zero))))) h = refl
alternating (suc n) (suc (suc (suc (suc (suc (suc zero)))))) h = refl
alternating (suc n) (suc (suc (suc (suc (suc (suc (suc zero))))))) h = refl
alternating (suc n) (suc (suc (suc (suc (suc (suc (suc (suc j)))))))) h =
    let back = alternating n j (omega arith) in
    omega (arith, back)

-- a sample as a number
pub bit_of-from : (sample : Bool) (bit : ℕ) → bit ≡ from_bool sample → (bit_of sample ≡ bit) × (bit < 2)
bit_of-from true bit e = (sym e, omega (arith, e))
bit_of-from false bit e = (sym e, omega (arith, e))

pub nothing-carried : (first carry : ℕ) → first ≡ carry → first ∷ samples_of [] ≡ samples_of [] ++ carry ∷ []
unfolding samples_of
nothing-carried first carry e = ap (λ b. b ∷ []) e

-- one of the samples
pub samples_of-at : (bytes : List ℕ) (j i k : ℕ) → j < length bytes → i < 8 → k ≡ 8 * j + i → get_or (samples_of bytes) k 0 ≡ get_or bytes j 0 / 2 ^ i % 2
unfolding samples_of
samples_of-at [] j i k h l e = absurd (omega arith)
samples_of-at (x ∷ xs) zero i k h l e =
    let long = length-rising_bits 8 x in
    let same : k ≡ i = omega arith in
    let inside : k < length (rising_bits 8 x) = omega (arith, long) in
    get_or_append_left (rising_bits 8 x) (samples_of xs) 0 k inside ∙ ap (λ n. get_or (rising_bits 8 x) n 0) same ∙ rising_bits-at 8 x i l
samples_of-at (x ∷ xs) (suc j) i k h l e =
    let long = length-rising_bits 8 x in
    let place : k ≡ length (rising_bits 8 x) + (8 * j + i) = omega (arith, long) in
    ap (λ n. get_or (rising_bits 8 x ++ samples_of xs) n 0) place
    ∙ get_or-append-add (rising_bits 8 x) (samples_of xs) (8 * j + i) 0
    ∙ samples_of-at xs j i (8 * j + i) (omega arith) l refl
