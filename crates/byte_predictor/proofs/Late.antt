-- The newest samples as bits, and the lanes that have a byte of them late.
use Rattle.std.proofs.Common.{◌≡◌, ◌≢◌, ℕ, ◌+◌, ◌-◌, ◌*◌, ◌/◌, ◌%◌, ◌^◌, ◌<◌, ◌≤◌, ◌⊎◌, inl, inr, nat_eq, List, [], ◌∷◌}
use Rattle.std.proofs.Common.{take, drop, replicate, refl, ap, sym, ◌∙◌, arith, add-one}
use Rattle.std.proofs.lemmas.List.{take_at, take-take, drop-take}
use Rattle.std.proofs.lemmas.Bool.{cases_lt, lt-ltb, le-ltb}
use Rattle.dst_spec.specs.Header.{bit_of}
use Rattle.byte_predictor.specs.Samples.{rising_bits, samples_of}
use Rattle.byte_predictor.specs.SumsAhead.{left_out}
use Rattle.byte_predictor.proofs.Bits.{length-rising_bits, carry-through, rising_bits-mod, rising_bits-take, rising_bits-drop}
use Rattle.byte_predictor.proofs.Pushed.{bit_given}

-- ---- the newest sixteen samples
-- after one more
pub newest-pushed : (newest bit : ℕ) (samples : List ℕ) → bit < 2 → newest < 65536 → rising_bits 16 newest ≡ take 16 samples →
    rising_bits 16 (newest % 32768 * 2 + bit) ≡ take 16 (bit ∷ samples)
newest-pushed newest bit samples small fits are =
    let through = carry-through 15 bit newest small (omega arith) in
    let new = rising_bits 16 (newest % 32768 * 2 + bit) in
    sym (take_at new ((newest / 32768) ∷ []) 16 (length-rising_bits 16 (newest % 32768 * 2 + bit)))
    ∙ ap (take 16) (sym through)
    ∙ ap (λ t. bit ∷ take 15 t) are
    ∙ ap (λ t. bit ∷ t) (take-take 15 16 samples (omega arith))

-- the same where the sample is given as a number
pub given-pushed : (newest given more : ℕ) (samples : List ℕ) → newest < 65536 → more ≡ newest % 32768 * 2 + given % 2 →
    rising_bits 16 newest ≡ take 16 samples → rising_bits 16 more ≡ take 16 (bit_of (nat_eq (given % 2) 1) ∷ samples)
given-pushed newest given more samples fits is are =
    let bit = bit_of (nat_eq (given % 2) 1) in
    let same : bit ≡ given % 2 = bit_given given in
    let small : bit < 2 = omega (arith, same) in
    let now : more ≡ newest % 32768 * 2 + bit = omega (arith, is, same) in
    ap (rising_bits 16) now ∙ newest-pushed newest bit samples small fits are

-- the eight newest
pub newest-eight : (newest : ℕ) (samples : List ℕ) → rising_bits 16 newest ≡ take 16 samples → rising_bits 8 (newest % 256) ≡ take 8 samples
newest-eight newest samples are =
    rising_bits-mod 8 newest ∙ sym (rising_bits-take 8 8 newest) ∙ ap (take 8) are ∙ take-take 8 16 samples (omega arith)

-- the eight behind `place` newer ones
pub byte-behind : (newest place : ℕ) (samples : List ℕ) → place ≤ 8 → rising_bits 16 newest ≡ take 16 samples →
    rising_bits 8 (newest / 2 ^ place % 256) ≡ take 8 (drop place samples)
byte-behind newest place samples few are =
    let older = 8 - place in
    let sixteen : place + (8 + (8 - place)) ≡ 16 = omega arith in
    rising_bits-mod 8 (newest / 2 ^ place)
    ∙ sym (rising_bits-take 8 older (newest / 2 ^ place))
    ∙ ap (take 8) (sym (rising_bits-drop place (8 + older) newest))
    ∙ ap (λ m. take 8 (drop place (rising_bits m newest))) sixteen
    ∙ ap (λ t. take 8 (drop place t)) are
    ∙ ap (λ m. take 8 (drop place (take m samples))) (sym sixteen)
    ∙ ap (take 8) (drop-take place (8 + older) samples)
    ∙ take-take 8 (8 + older) (drop place samples) (omega arith)

-- those before a frame
pub newest-before : rising_bits 16 43690 ≡ take 16 (samples_of (replicate 16 170))
unfolding rising_bits samples_of
newest-before = refl

-- ---- what a lane doesn't have yet
-- One sample after a byte, where the farther lanes are three samples late: lane 15 lacks that sample, lane 16 the byte before it too, and
-- three samples after the byte no longer.
left_out-front : left_out 3 1 15 ≡ 1
left_out-front = refl

left_out-late : left_out 3 1 16 ≡ 9
left_out-late = refl

left_out-taken : left_out 3 3 16 ≡ 3
left_out-taken = refl

pub drop-pushed : (place bit : ℕ) (samples : List ℕ) → drop place samples ≡ drop (place + 1) (bit ∷ samples)
drop-pushed place bit samples = rw add-one refl

pub near-lane : (late place lane : ℕ) → lane < 16 → left_out late place lane ≡ place
near-lane late place lane h = rw (lt-ltb lane 16 h) refl

pub whole-lane : (late place lane : ℕ) → late ≤ place → left_out late place lane ≡ place
whole-lane late place lane h = go (cases_lt lane 16)
  where
    go : (lane < 16) ⊎ (16 ≤ lane) → left_out late place lane ≡ place
    go (inl lt) = near-lane late place lane lt
    go (inr le) = rw (le-ltb lane 16 le, le-ltb place late h) refl

pub late-lane : (late place lane : ℕ) → 16 ≤ lane → place < late → left_out late place lane ≡ place + 8
late-lane late place lane far h = rw (le-ltb lane 16 far, lt-ltb place late h) refl

-- one sample more, where no lane gets a byte
pub lane-pushed : (late place lane : ℕ) → late ≢ place + 1 → left_out late (place + 1) lane ≡ left_out late place lane + 1
lane-pushed late place lane ne = go (cases_lt lane 16) (cases_lt place late)
  where
    go : (lane < 16) ⊎ (16 ≤ lane) → (place < late) ⊎ (late ≤ place) → left_out late (place + 1) lane ≡ left_out late place lane + 1
    go (inl lt) when = near-lane late (place + 1) lane lt ∙ ap (λ m. m + 1) (sym (near-lane late place lane lt))
    go (inr le) (inl before) =
        let still : place + 1 < late = omega arith in
        let more : place + 1 + 8 ≡ place + 8 + 1 = omega arith in
        late-lane late (place + 1) lane le still ∙ more ∙ ap (λ m. m + 1) (sym (late-lane late place lane le before))
    go (inr le) (inr behind) =
        let still : late ≤ place + 1 = omega arith in
        whole-lane late (place + 1) lane still ∙ ap (λ m. m + 1) (sym (whole-lane late place lane behind))

pub left-pushed : (late place lane bit : ℕ) (samples : List ℕ) → late ≢ place + 1 →
    drop (left_out late place lane) samples ≡ drop (left_out late (place + 1) lane) (bit ∷ samples)
left-pushed late place lane bit samples ne =
    drop-pushed (left_out late place lane) bit samples ∙ ap (λ m. drop m (bit ∷ samples)) (sym (lane-pushed late place lane ne))
