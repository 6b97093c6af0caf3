-- Rows of sums, and the lanes of the sums ahead.
use Rattle.std.proofs.Common.{◌≡◌, ℕ, zero, suc, ◌+◌, ◌-◌, ◌*◌, ◌%◌, ◌^◌, ◌<◌, ◌≤◌, ◌⊎◌, inl, inr, ℤ, pos, ◌+ℤ◌, neg_ℤ, List, [], ◌∷◌, ◌++◌}
use Rattle.std.proofs.Common.{length, get_or, take, drop, set, replicate, refl, ap, subst, sym, ◌∙◌, arith, add-one}
use Rattle.std.proofs.lemmas.Int.{ints}
use Rattle.std.proofs.lemmas.List.{get_or-drop, get_or_past, length-drop, take_at, drop_at, drop-drop, take-append-drop}
use Rattle.std.proofs.lemmas.Bool.{cases_lt}
use Rattle.std.specs.List.{AllByRecursion}
use Rattle.dst_spec.specs.Table.{filter_kind, InRange}
use Rattle.byte_predictor.specs.Samples.{rising_bits, samples_of}
use Rattle.byte_predictor.specs.Upward.{above_zero, upward_sum, size_sum, far}
use Rattle.byte_predictor.specs.RowSums.{HasRows}
use Rattle.byte_predictor.specs.SumsAhead.{left_out}
use Rattle.byte_predictor.proofs.Bits.{length-rising_bits}
use Rattle.byte_predictor.proofs.Late.{near-lane, late-lane}
use Rattle.byte_predictor.proofs.Sums.{each-drop, coef-range}
use Rattle.byte_predictor.proofs.Upward.{upward_sum-none, upward_sum-raised, upward_sum-zeros, upward_sum-below, upward_sum-within, upward_sum-same}
use Rattle.byte_predictor.proofs.Upward.{upward_sum-empty, upward_sum-split, upward_sum-byte}

pub far-front : (coefs : List ℤ) (j : ℕ) → j < 8 → get_or (far coefs) j (pos 0) ≡ pos 0
unfolding far
far-front coefs zero h = refl
far-front coefs (suc zero) h = refl
far-front coefs (suc (suc zero)) h = refl
far-front coefs (suc (suc (suc zero))) h = refl
far-front coefs (suc (suc (suc (suc zero)))) h = refl
far-front coefs (suc (suc (suc (suc (suc zero))))) h = refl
far-front coefs (suc (suc (suc (suc (suc (suc zero)))))) h = refl
far-front coefs (suc (suc (suc (suc (suc (suc (suc zero))))))) h = refl
far-front coefs (suc (suc (suc (suc (suc (suc (suc (suc j)))))))) h = absurd (omega arith)

far-shifted : (coefs : List ℤ) (k : ℕ) → get_or (far coefs) (suc (suc (suc (suc (suc (suc (suc (suc k)))))))) (pos 0) ≡ get_or (drop 8 coefs) k (pos 0)
unfolding far
far-shifted coefs k = refl

pub far-behind : (coefs : List ℤ) (j : ℕ) → 8 ≤ j → get_or (far coefs) j (pos 0) ≡ get_or coefs j (pos 0)
far-behind coefs j h =
    let k = j - 8 in
    let up : suc (suc (suc (suc (suc (suc (suc (suc (j - 8)))))))) ≡ j = omega arith in
    let place : 8 + (j - 8) ≡ j = omega arith in
    ap (λ m. get_or (far coefs) m (pos 0)) (sym up)
    ∙ far-shifted coefs k
    ∙ get_or-drop 8 coefs k (pos 0)
    ∙ ap (λ m. get_or coefs m (pos 0)) place

-- an array that has the later coefficients at their places
pub is-far : (coefs table : List ℤ) → length coefs ≤ 128 → length table ≡ 136 → ((k : ℕ) → k < 8 → get_or table k (pos 0) ≡ pos 0) →
    ((k : ℕ) → 8 ≤ k → k < 128 → get_or table k (pos 0) ≡ get_or coefs k (pos 0)) → ((k : ℕ) → 128 ≤ k → get_or table k (pos 0) ≡ pos 0) → (k : ℕ) →
    get_or table k (pos 0) ≡ get_or (far coefs) k (pos 0)
is-far coefs table short long front between behind k = first (cases_lt k 8)
  where
    last : (8 ≤ k) → (k < 128) ⊎ (128 ≤ k) → get_or table k (pos 0) ≡ get_or (far coefs) k (pos 0)
    last h (inl lt) = between k h lt ∙ sym (far-behind coefs k h)
    last h (inr le) = behind k le ∙ sym (get_or_past coefs k (pos 0) (omega arith)) ∙ sym (far-behind coefs k h)

    first : (k < 8) ⊎ (8 ≤ k) → get_or table k (pos 0) ≡ get_or (far coefs) k (pos 0)
    first (inl lt) = front k lt ∙ sym (far-front coefs k lt)
    first (inr le) = last le (cases_lt k 128)

far-all : (coefs : List ℤ) → AllByRecursion (InRange filter_kind) coefs → AllByRecursion (InRange filter_kind) (far coefs)
unfolding far
far-all coefs each =
    let none : InRange filter_kind (pos 0) = (omega (arith, ints), omega (arith, ints)) in
    (none, (none, (none, (none, (none, (none, (none, (none, each-drop 8 coefs each))))))))

pub far-range : (coefs : List ℤ) (j : ℕ) → AllByRecursion (InRange filter_kind) coefs → InRange filter_kind (get_or (far coefs) j (pos 0))
far-range coefs j each = coef-range (far coefs) j (far-all coefs each)

far-short : (coefs : List ℤ) → length coefs ≤ 128 → length (far coefs) ≤ 128
unfolding far
far-short coefs h = omega (arith, length-drop 8 coefs)

far-each : (coefs : List ℤ) → AllByRecursion (InRange filter_kind) coefs → length coefs ≤ 128 →
    AllByRecursion (InRange filter_kind) (far coefs) × (length (far coefs) ≤ 128)
far-each coefs each short = (far-all coefs each, far-short coefs short)

lane-below : (n : ℕ) (xs : List ℤ) (lane : ℕ) (samples : List ℕ) → AllByRecursion (InRange filter_kind) xs → length xs ≤ n →
    upward_sum (drop lane xs) samples ≤ 256 * (n - lane)
lane-below n xs lane samples each short =
    let bound = upward_sum-below (drop lane xs) samples (each-drop lane xs each) in
    omega (arith, bound, length-drop lane xs)

-- a table of numbers that is right below a place is right at one place more
pub row-more : (table : List ℕ) (n : ℕ) (y : ℕ) (F : ℕ → ℕ) → n < length table → ((b : ℕ) → b < n → get_or table b 0 ≡ F b) → y ≡ F n → (b : ℕ) →
    b < suc n → get_or (set table n y) b 0 ≡ F b
row-more [] n y F h below here b lt = absurd (omega arith)
row-more (x ∷ table) zero y F h below here zero lt = here
row-more (x ∷ table) zero y F h below here (suc b) lt = absurd (omega arith)
row-more (x ∷ table) (suc n) y F h below here zero lt = below 0 (omega arith)
row-more (x ∷ table) (suc n) y F h below here (suc b) lt =
    row-more table n y (λ k. F (suc k)) (omega arith) (λ k j. below (suc k) (omega arith)) here b (omega arith)

pub rows-more : (w : ℕ) (rows : List (List ℕ)) (n : ℕ) (row : List ℕ) (F : ℕ → ℕ → ℕ) → n < length rows →
    ((b lane : ℕ) → b < n → lane < w → get_or (get_or rows b []) lane 0 ≡ F b lane) → ((lane : ℕ) → lane < w → get_or row lane 0 ≡ F n lane) →
    (b lane : ℕ) → b < suc n → lane < w → get_or (get_or (set rows n row) b []) lane 0 ≡ F b lane
rows-more w [] n row F h below here b lane lt l = absurd (omega arith)
rows-more w (x ∷ rows) zero row F h below here zero lane lt l = here lane l
rows-more w (x ∷ rows) zero row F h below here (suc b) lane lt l = absurd (omega arith)
rows-more w (x ∷ rows) (suc n) row F h below here zero lane lt l = below 0 lane (omega arith) l
rows-more w (x ∷ rows) (suc n) row F h below here (suc b) lane lt l =
    rows-more w rows n row (λ k. F (suc k)) (omega arith) (λ k m i. below (suc k) m (omega arith)) here b lane (omega arith) l

-- the sum of a lane where one sample more of a byte is 1, which is a number of sixteen bits
pub raised-lane : (coefs : List ℤ) (lane i half byte low : ℕ) → ((j : ℕ) → InRange filter_kind (get_or coefs j (pos 0))) → i < 8 → half ≡ 2 ^ i →
    byte < half → low ≡ upward_sum (drop lane coefs) (rising_bits 8 byte) →
    (pos low +ℤ get_or coefs (lane + i) (pos 0) ≡ pos (upward_sum (drop lane coefs) (rising_bits 8 (half + byte))))
    × (upward_sum (drop lane coefs) (rising_bits 8 (half + byte)) ≤ 2048)
raised-lane coefs lane i half byte low range h power lt is =
    let at = get_or-drop lane coefs i (pos 0) in
    let below : byte < 2 ^ i = omega arith in
    let raised = upward_sum-raised (drop lane coefs) 8 i byte h below in
    let each : (j : ℕ) → InRange filter_kind (get_or (drop lane coefs) j (pos 0)) =
    λ j. subst (InRange filter_kind) (sym (get_or-drop lane coefs j (pos 0))) (range (lane + j)) in
    let bound = upward_sum-within (drop lane coefs) (rising_bits 8 (2 ^ i + byte)) each in
    let long = length-rising_bits 8 (2 ^ i + byte) in
    rw power (omega (arith, ints, at, raised, is), omega (arith, bound, long))

-- eight samples 0, one after the other
pub zeros-step : (coefs : List ℤ) (first i sum size : ℕ) (coef : ℤ) → ((j : ℕ) → InRange filter_kind (get_or coefs j (pos 0))) → i < 8 →
    sum ≡ upward_sum (drop first coefs) (rising_bits i 0) → coef ≡ get_or coefs (first + i) (pos 0) → size ≡ above_zero (neg_ℤ coef) →
    (sum + size ≡ upward_sum (drop first coefs) (rising_bits (i + 1) 0)) × (sum + size ≤ 2048)
zeros-step coefs first i sum size coef range h is e s =
    let each : (j : ℕ) → InRange filter_kind (get_or (drop first coefs) j (pos 0)) =
    λ j. subst (InRange filter_kind) (sym (get_or-drop first coefs j (pos 0))) (range (first + j)) in
    let at : coef ≡ get_or (drop first coefs) i (pos 0) = e ∙ sym (get_or-drop first coefs i (pos 0)) in
    let here : size ≡ above_zero (neg_ℤ (get_or (drop first coefs) i (pos 0))) = s ∙ ap (λ a. above_zero (neg_ℤ a)) at in
    let zeros = upward_sum-zeros (drop first coefs) i in
    let whole : sum + size ≡ upward_sum (drop first coefs) (rising_bits (suc i) 0) = omega (arith, is, here, zeros) in
    let bound = upward_sum-within (drop first coefs) (rising_bits (suc i) 0) each in
    (rw add-one whole, omega (arith, whole, bound, length-rising_bits (suc i) 0))

-- a byte of samples goes into a lane
pub moved-lane : (n : ℕ) (xs : List ℤ) (lane : ℕ) (older lanes row new : List ℕ) (byte : ℕ) → AllByRecursion (InRange filter_kind) xs →
    length xs ≤ n → n ≤ 136 → get_or lanes (lane + 8) 0 ≡ upward_sum (drop (lane + 8) xs) older →
    get_or row lane 0 ≡ upward_sum (drop lane xs) (rising_bits 8 byte) → get_or new lane 0 ≡ (get_or lanes (lane + 8) 0 + get_or row lane 0) % 65536 →
    get_or new lane 0 ≡ upward_sum (drop lane xs) (rising_bits 8 byte ++ older)
moved-lane n xs lane older lanes row new byte each short few old is after =
    let whole = upward_sum-byte xs lane byte older in
    let bound = lane-below n xs lane (rising_bits 8 byte ++ older) each short in
    omega (arith, whole, old, is, bound, after)

-- a byte of samples goes into some lanes, the others are none
pub added-lane : (n total : ℕ) (xs : List ℤ) (older lanes row new : List ℕ) (byte : ℕ) → AllByRecursion (InRange filter_kind) xs →
    length xs ≤ n → n ≤ 136 → n + 8 ≤ total →
    ((lane : ℕ) → lane < total → get_or lanes lane 0 ≡ upward_sum (drop lane xs) older) →
    ((lane : ℕ) → lane < n → get_or row lane 0 ≡ upward_sum (drop lane xs) (rising_bits 8 byte)) →
    ((lane : ℕ) → lane < n → get_or new lane 0 ≡ (get_or lanes (lane + 8) 0 + get_or row lane 0) % 65536) →
    ((lane : ℕ) → n ≤ lane → get_or new lane 0 ≡ get_or lanes lane 0) → (lane : ℕ) → lane < total →
    get_or new lane 0 ≡ upward_sum (drop lane xs) (rising_bits 8 byte ++ older)
added-lane n total xs older lanes row new byte each short few room sums is moved stays lane h = by_case (cases_lt lane n)
  where
    by_case : (lane < n) ⊎ (n ≤ lane) → get_or new lane 0 ≡ upward_sum (drop lane xs) (rising_bits 8 byte ++ older)
    by_case (inl lt) = moved-lane n xs lane older lanes row new byte each short few (sums (lane + 8) (omega arith)) (is lane lt) (moved lane lt)
    by_case (inr le) =
        let old = sums lane h in
        let none = lane-below n xs lane older each short in
        let still_none = lane-below n xs lane (rising_bits 8 byte ++ older) each short in
        omega (arith, old, none, still_none, stays lane le)

-- the same where the samples are given whole
pub taken-lane : (coefs : List ℤ) (samples lanes row new : List ℕ) (byte : ℕ) → AllByRecursion (InRange filter_kind) coefs → length coefs ≤ 128 →
    rising_bits 8 byte ≡ take 8 samples → ((lane : ℕ) → lane < 136 → get_or lanes lane 0 ≡ upward_sum (drop lane (far coefs)) (drop 8 samples)) →
    ((lane : ℕ) → lane < 128 → get_or row lane 0 ≡ upward_sum (drop lane (far coefs)) (rising_bits 8 byte)) →
    ((lane : ℕ) → lane < 128 → get_or new lane 0 ≡ (get_or lanes (lane + 8) 0 + get_or row lane 0) % 65536) →
    ((lane : ℕ) → 128 ≤ lane → get_or new lane 0 ≡ get_or lanes lane 0) → (lane : ℕ) → lane < 136 →
    get_or new lane 0 ≡ upward_sum (drop lane (far coefs)) samples
taken-lane coefs samples lanes row new byte each short newest sums is moved stays lane h =
    let far_is = far-each coefs each short in
    added-lane 128 136 (far coefs) (drop 8 samples) lanes row new byte far_is.0 far_is.1 (omega arith) (omega arith) sums is moved stays lane h
    ∙ ap (upward_sum (drop lane (far coefs))) (ap (λ t. t ++ drop 8 samples) newest ∙ take-append-drop 8 samples)

-- one lane alone
pub taken-here : (coefs : List ℤ) (samples lanes row new : List ℕ) (byte lane : ℕ) → AllByRecursion (InRange filter_kind) coefs → length coefs ≤ 128 →
    rising_bits 8 byte ≡ take 8 samples → get_or lanes (lane + 8) 0 ≡ upward_sum (drop (lane + 8) (far coefs)) (drop 8 samples) →
    get_or row lane 0 ≡ upward_sum (drop lane (far coefs)) (rising_bits 8 byte) → get_or new lane 0 ≡ (get_or lanes (lane + 8) 0 + get_or row lane 0) % 65536 →
    get_or new lane 0 ≡ upward_sum (drop lane (far coefs)) samples
taken-here coefs samples lanes row new byte lane each short newest old is after =
    let far_is = far-each coefs each short in
    moved-lane 128 (far coefs) lane (drop 8 samples) lanes row new byte far_is.0 far_is.1 (omega arith) old is after
    ∙ ap (upward_sum (drop lane (far coefs))) (ap (λ t. t ++ drop 8 samples) newest ∙ take-append-drop 8 samples)

-- The first lanes have a byte of samples, the others don't yet.
pub front-taken : (n : ℕ) (coefs : List ℤ) (samples lanes row new : List ℕ) (byte : ℕ) → AllByRecursion (InRange filter_kind) coefs → length coefs ≤ 128 →
    rising_bits 8 byte ≡ take 8 samples → ((lane : ℕ) → lane < 136 → get_or lanes lane 0 ≡ upward_sum (drop lane (far coefs)) (drop 8 samples)) →
    ((lane : ℕ) → lane < 16 → get_or row lane 0 ≡ upward_sum (drop lane (far coefs)) (rising_bits 8 byte)) →
    ((lane : ℕ) → lane < 16 → get_or new lane 0 ≡ (get_or lanes (lane + 8) 0 + get_or row lane 0) % 65536) →
    ((lane : ℕ) → 16 ≤ lane → get_or new lane 0 ≡ get_or lanes lane 0) → (lane : ℕ) → lane < 136 →
    get_or new lane 0 ≡ upward_sum (drop lane (far coefs)) (drop (left_out (n + 1) 0 lane) samples)
front-taken n coefs samples lanes row new byte each short newest sums is moved stays lane h = by_case (cases_lt lane 16)
  where
    by_case : (lane < 16) ⊎ (16 ≤ lane) → get_or new lane 0 ≡ upward_sum (drop lane (far coefs)) (drop (left_out (n + 1) 0 lane) samples)
    by_case (inl lt) =
        taken-here coefs samples lanes row new byte lane each short newest (sums (lane + 8) (omega arith)) (is lane lt) (moved lane lt)
        ∙ ap (λ m. upward_sum (drop lane (far coefs)) (drop m samples)) (sym (near-lane (n + 1) 0 lane lt))
    by_case (inr le) =
        stays lane le
        ∙ sums lane h
        ∙ ap (λ m. upward_sum (drop lane (far coefs)) (drop m samples)) (sym (late-lane (n + 1) 0 lane le (omega arith)))

-- a lane behind all coefficients has nothing, whatever the samples
pub none-there : (coefs : List ℤ) (lane : ℕ) (samples others : List ℕ) → AllByRecursion (InRange filter_kind) coefs → length coefs ≤ 128 → 128 ≤ lane →
    upward_sum (drop lane (far coefs)) samples ≡ upward_sum (drop lane (far coefs)) others
none-there coefs lane samples others each short behind =
    let far_is = far-each coefs each short in
    omega (arith, lane-below 128 (far coefs) lane samples far_is.0 far_is.1, lane-below 128 (far coefs) lane others far_is.0 far_is.1)

-- The lanes that didn't have a byte get it, after `place` newer samples.
pub rest-taken : (coefs : List ℤ) (place : ℕ) (samples lanes row new : List ℕ) (byte : ℕ) → AllByRecursion (InRange filter_kind) coefs →
    length coefs ≤ 128 → rising_bits 8 byte ≡ take 8 (drop place samples) →
    ((lane : ℕ) → lane < 136 → get_or lanes lane 0 ≡ upward_sum (drop lane (far coefs)) (drop (left_out (place + 1) place lane) samples)) →
    ((lane : ℕ) → lane < 128 → get_or row lane 0 ≡ upward_sum (drop lane (far coefs)) (rising_bits 8 byte)) →
    ((lane : ℕ) → lane < 16 → get_or new lane 0 ≡ get_or lanes lane 0) →
    ((lane : ℕ) → 16 ≤ lane → lane < 128 → get_or new lane 0 ≡ (get_or lanes (lane + 8) 0 + get_or row lane 0) % 65536) →
    ((lane : ℕ) → 128 ≤ lane → get_or new lane 0 ≡ get_or lanes lane 0) → (lane : ℕ) → lane < 136 →
    get_or new lane 0 ≡ upward_sum (drop lane (far coefs)) (drop place samples)
rest-taken coefs place samples lanes row new byte each short newest sums is front moved stays lane h = by_case (cases_lt lane 16) (cases_lt lane 128)
  where
    far_lane : (lane : ℕ) → lane < 136 → 16 ≤ lane → get_or lanes lane 0 ≡ upward_sum (drop lane (far coefs)) (drop 8 (drop place samples))
    far_lane lane h le =
        sums lane h
        ∙ ap (λ m. upward_sum (drop lane (far coefs)) (drop m samples)) (late-lane (place + 1) place lane le (omega arith))
        ∙ ap (upward_sum (drop lane (far coefs))) (sym (drop-drop 8 place samples))

    by_case : (lane < 16) ⊎ (16 ≤ lane) → (lane < 128) ⊎ (128 ≤ lane) → get_or new lane 0 ≡ upward_sum (drop lane (far coefs)) (drop place samples)
    by_case (inl lt) when =
        front lane lt
        ∙ sums lane h
        ∙ ap (λ m. upward_sum (drop lane (far coefs)) (drop m samples)) (near-lane (place + 1) place lane lt)
    by_case (inr le) (inl lt) =
        taken-here coefs (drop place samples) lanes row new byte lane each short newest (far_lane (lane + 8) (omega arith) (omega arith)) (is lane lt)
        (moved lane le lt)
    by_case (inr le) (inr behind) =
        stays lane behind
        ∙ far_lane lane h le
        ∙ none-there coefs lane (drop 8 (drop place samples)) (drop place samples) each short behind

-- what the newest samples and a lane give together
pub looked-up : (coefs : List ℤ) (place : ℕ) (samples : List ℕ) (byte lane near : ℕ) → AllByRecursion (InRange filter_kind) coefs → length coefs ≤ 128 →
    place ≤ 8 → rising_bits 8 byte ≡ take 8 samples → lane ≡ upward_sum (drop place (far coefs)) (drop place samples) →
    near ≡ upward_sum coefs (rising_bits 8 byte) → (lane + near) % 65536 ≡ upward_sum coefs samples
looked-up coefs place samples byte lane near each short few newest is by_newest =
    let split = upward_sum-split coefs place samples few in
    let front = by_newest ∙ ap (upward_sum coefs) newest in
    let bound = upward_sum-below coefs samples each in
    omega (arith, split, front, is, bound)

by_suc : (byte n : ℕ) → samples_of (replicate (suc n) byte) ≡ rising_bits 8 byte ++ samples_of (replicate n byte)
unfolding samples_of
by_suc byte n = refl

pub nothing-ahead : (coefs : List ℤ) → 0 ≡ upward_sum coefs (samples_of [])
unfolding samples_of
nothing-ahead coefs = sym (upward_sum-none coefs)

pub zeros-at : (n k : ℕ) → get_or (replicate n (pos 0)) k (pos 0) ≡ pos 0
zeros-at zero k = refl
zeros-at (suc n) zero = refl
zeros-at (suc n) (suc k) = zeros-at n k

pub no_sums-at : (n k : ℕ) → ◌≡◌ {A = ℕ} (get_or {A = ℕ} (replicate {A = ℕ} n 0) k 0) 0
no_sums-at zero k = refl
no_sums-at (suc n) zero = refl
no_sums-at (suc n) (suc k) = no_sums-at n k

-- one whole byte more of the same samples
pub byte-again : (byte n : ℕ) → (rising_bits 8 byte ≡ take 8 (samples_of (replicate (n + 1) byte)))
    × (drop 8 (samples_of (replicate (n + 1) byte)) ≡ samples_of (replicate n byte))
byte-again byte n =
    let front = rising_bits 8 byte in
    let long = length-rising_bits 8 byte in
    let whole : samples_of (replicate (n + 1) byte) ≡ front ++ samples_of (replicate n byte) = rw add-one (by_suc byte n) in (
      sym (take_at front (samples_of (replicate n byte)) 8 long) ∙ ap (take 8) (sym whole),
      ap (drop 8) whole ∙ drop_at front (samples_of (replicate n byte)) 8 long,
    )

pub no_rows-at : (w n k lane : ℕ) → ◌≡◌ {A = ℕ} (get_or {A = ℕ} (get_or {A = List ℕ} (replicate {A = List ℕ} n (replicate {A = ℕ} w 0)) k []) lane 0) 0
no_rows-at w zero k lane = refl
no_rows-at w (suc n) zero lane = no_sums-at w lane
no_rows-at w (suc n) (suc k) lane = no_rows-at w n k lane

-- the rows of a filter, by the coefficients that callers see
pub rows-seen : {inside coefs : List ℤ} {rows : List (List ℕ)} {near : List ℕ} {size : ℕ} → inside ≡ coefs → HasRows inside rows near size →
    HasRows coefs rows near size
rows-seen {inside} {coefs} {rows} {near} {size} same rule = subst (λ t. HasRows t rows near size) same rule

lone-far : (j : ℕ) → get_or (far (pos 0 ∷ [])) j (pos 0) ≡ pos 0
unfolding far
lone-far j = zeros-at 8 j

-- the coefficient 0 alone
pub rows-none : HasRows (pos 0 ∷ []) (replicate 256 (replicate 128 0)) (replicate 256 0) 0
unfolding size_sum
rows-none = record {
  table = record { least = omega arith; most = omega arith; each = ((omega (arith, ints), omega (arith, ints)), tt); alone = λ lone. absurd cc };
  added = λ byte lane h i.
      no_rows-at 128 256 byte lane ∙ sym (upward_sum-same (drop lane (far (pos 0 ∷ []))) [] (rising_bits 8 byte)
      (λ j. get_or-drop lane (far (pos 0 ∷ [])) j (pos 0) ∙ lone-far (lane + j)) ∙ upward_sum-empty (rising_bits 8 byte));
  newest = λ byte h.
      no_sums-at 256 byte ∙ sym (upward_sum-same (pos 0 ∷ []) [] (rising_bits 8 byte) (λ j. zeros-at 1 j) ∙ upward_sum-empty (rising_bits 8 byte));
  sizes = refl;
}

-- sums of the coefficients in an array
pub same-lanes : (table coefs : List ℤ) (lane : ℕ) (samples : List ℕ) → ((j : ℕ) → get_or table j (pos 0) ≡ get_or (far coefs) j (pos 0)) →
    upward_sum (drop lane table) samples ≡ upward_sum (drop lane (far coefs)) samples
same-lanes table coefs lane samples same =
    upward_sum-same (drop lane table) (drop lane (far coefs)) samples (λ j. get_or-drop lane table j (pos 0) ∙ same (lane + j)
    ∙ sym (get_or-drop lane (far coefs) j (pos 0)))
