-- Samples before a place, and predictions from them.
use Rattle.std.proofs.Common.{◌≡◌, ℕ, zero, suc, ◌+◌, ◌-◌, ◌*◌, ◌/◌, ◌%◌, ◌^◌, ◌<◌, ◌≤◌, ◌⊎◌, inl, inr, ℤ, pos, negsuc, ◌+ℤ◌, ◌-ℤ◌, List, [], ◌∷◌, ◌++◌}
use Rattle.std.proofs.Common.{length, get_or, take, drop, replicate, refl, ap, ap₂, sym, ◌∙◌, arith, length-append}
use Rattle.std.proofs.lemmas.Int.{ints}
use Rattle.std.proofs.lemmas.List.{get_or-take, length-take, get_or-drop, length-drop, get_or_append_left, get_or-append-add}
use Rattle.std.proofs.lemmas.Bool.{cases_lt}
use lib.IntN.{pred_ℤ}
use Rattle.dst_spec.specs.Sample.{Shape, sample}
use Rattle.dst_spec.specs.Guess.{signed, sum_before}
use Rattle.byte_predictor.specs.Samples.{IsBefore, rising_bits, samples_of, signed_sum}
use Rattle.byte_predictor.proofs.Bits.{alternating, length-samples_of, length-rising_bits, rising_bits-at}

same_sample : (f : Shape) (sound : List ℕ) (c : ℕ) (y z : ℤ) → y ≡ z → sample f sound c y ≡ sample f sound c z
same_sample f sound c y z e = ap (sample f sound c) e

pub before_a_frame : (f : Shape) (sound : List ℕ) (c : ℕ) → IsBefore f sound c 0 (samples_of (replicate 16 170))
before_a_frame f sound c = record {
  long = enough;
  each = λ j h. alternating 16 j h ∙ same_sample f sound c (negsuc j) (pos 0 -ℤ pos (suc j)) (omega (arith, ints));
}
  where
    enough : 128 ≤ length (samples_of (replicate 16 170))
    enough =
        let all : length (samples_of (replicate 16 170)) ≡ 8 * 16 = length-samples_of (replicate 16 170) in
        omega arith

less_one : (z : ℤ) → pred_ℤ z ≡ z -ℤ pos 1
less_one (pos zero) = refl
less_one (pos (suc n)) = omega (arith, ints)
less_one (negsuc n) = omega (arith, ints)

pub before_next : (f : Shape) (sound : List ℕ) (c t bit : ℕ) (samples : List ℕ) → bit ≡ sample f sound c (pos t) → IsBefore f sound c t samples →
    IsBefore f sound c (t + 1) (bit ∷ samples)
before_next f sound c t bit samples e before = record { long = omega (arith, before.long); each = at }
  where
    at : (j : ℕ) → j < 128 → get_or (bit ∷ samples) j 0 ≡ sample f sound c (pos (t + 1) -ℤ pos (suc j))
    at zero h = e ∙ same_sample f sound c (pos t) (pos (t + 1) -ℤ pos 1) (omega (arith, ints))
    at (suc j) h = before.each j (omega arith) ∙ same_sample f sound c (pos t -ℤ pos (suc j)) (pos (t + 1) -ℤ pos (suc (suc j))) (omega (arith, ints))

-- one bit of a byte of sound is a sample
sample_bit : (f : Shape) (sound : List ℕ) (c m i : ℕ) (z : ℤ) → i < 8 → z ≡ pos (8 * m + (7 - i)) →
    get_or sound (m * f.channels + c) 0 / 2 ^ i % 2 ≡ sample f sound c z
sample_bit f sound c m i z h e =
    let byte : (8 * m + (7 - i)) / 8 ≡ m = omega arith in
    let place : 7 - (8 * m + (7 - i)) % 8 ≡ i = omega arith in
    sym (same_sample f sound c z (pos (8 * m + (7 - i))) e ∙ ap₂ (λ b k. get_or sound (b * f.channels + c) 0 / 2 ^ k % 2) byte place)

-- before each of the eight samples of a byte
pub before_in_a_byte : (f : Shape) (sound : List ℕ) (c m place : ℕ) (samples : List ℕ) → place ≤ 8 → IsBefore f sound c (8 * m) samples →
    IsBefore f sound c (8 * m + place) (drop (8 - place) (rising_bits 8 (get_or sound (m * f.channels + c) 0) ++ samples))
before_in_a_byte f sound c m place samples h before = record {
  long = omega (
    arith,
    length-drop (8 - place) (rising_bits 8 byte ++ samples),
    length-append (rising_bits 8 byte) samples,
    length-rising_bits 8 byte,
    before.long,
  );
  each = λ j lt. get_or-drop (8 - place) (rising_bits 8 byte ++ samples) j 0 ∙ at j lt (cases_lt j place);
}
  where
    byte : ℕ
    byte = get_or sound (m * f.channels + c) 0

    at : (j : ℕ) → j < 128 → (j < place) ⊎ (place ≤ j) →
        get_or (rising_bits 8 byte ++ samples) (8 - place + j) 0 ≡ sample f sound c (pos (8 * m + place) -ℤ pos (suc j))
    at j lt (inl near) =
        let inside : 8 - place + j < length (rising_bits 8 byte) = omega (arith, length-rising_bits 8 byte) in
        let i = 8 - place + j in
        get_or_append_left (rising_bits 8 byte) samples 0 i inside ∙ rising_bits-at 8 byte i (omega arith)
        ∙ sample_bit f sound c m i (pos (8 * m + place) -ℤ pos (suc j)) (omega arith) (omega (arith, ints))
    at j lt (inr further) =
        let long = length-rising_bits 8 byte in
        let behind : 8 - place + j ≡ length (rising_bits 8 byte) + (j - place) = omega (arith, long) in
        ap (λ n. get_or (rising_bits 8 byte ++ samples) n 0) behind
        ∙ get_or-append-add (rising_bits 8 byte) samples (j - place) 0
        ∙ before.each (j - place) (omega arith)
        ∙ same_sample f sound c (pos (8 * m) -ℤ pos (suc (j - place))) (pos (8 * m + place) -ℤ pos (suc j)) (omega (arith, ints))

pub before_front : (f : Shape) (sound : List ℕ) (c t bit : ℕ) (samples : List ℕ) → IsBefore f sound c t (bit ∷ samples) → 127 ≤ length samples →
    IsBefore f sound c t (bit ∷ take 127 samples)
before_front f sound c t bit samples before long = record { long = omega (arith, length-take 127 samples); each = at }
  where
    at : (j : ℕ) → j < 128 → get_or (bit ∷ take 127 samples) j 0 ≡ sample f sound c (pos t -ℤ pos (suc j))
    at zero h = before.each 0 h
    at (suc j) h = get_or-take 127 samples j 0 (omega arith) ∙ before.each (suc j) h

sum_over_samples : (f : Shape) (sound : List ℕ) (c : ℕ) (z : ℤ) (samples : List ℕ) (coefs : List ℤ) → length coefs ≤ length samples →
    ((j : ℕ) → j < length coefs → get_or samples j 0 ≡ sample f sound c (z -ℤ pos (suc j))) → signed_sum coefs samples ≡ sum_before f sound c coefs z
unfolding signed_sum sum_before
sum_over_samples f sound c z samples [] long each = refl
sum_over_samples f sound c z [] (a ∷ coefs) long each = absurd (omega arith)
sum_over_samples f sound c z (bit ∷ samples) (a ∷ coefs) long each =
    let less : pred_ℤ z ≡ z -ℤ pos 1 = less_one z in
    let here : bit ≡ sample f sound c (pred_ℤ z) = each 0 (omega arith) ∙ same_sample f sound c (z -ℤ pos 1) (pred_ℤ z) (sym less) in
    let earlier : (j : ℕ) → z -ℤ pos (suc (suc j)) ≡ pred_ℤ z -ℤ pos (suc j) = λ j. rw less (omega (arith, ints)) in
    let further : (j : ℕ) → j < length coefs → get_or samples j 0 ≡ sample f sound c (pred_ℤ z -ℤ pos (suc j)) = λ j h. each (suc j) (omega arith)
    ∙ same_sample f sound c (z -ℤ pos (suc (suc j))) (pred_ℤ z -ℤ pos (suc j)) (earlier j) in
    ap₂ (λ b s. signed b a +ℤ s) here (sum_over_samples f sound c (pred_ℤ z) samples coefs (omega arith) further)

pub predicted : (f : Shape) (sound : List ℕ) (c t : ℕ) (samples : List ℕ) (coefs : List ℤ) → length coefs ≤ 128 → IsBefore f sound c t samples →
    signed_sum coefs samples ≡ sum_before f sound c coefs (pos t)
predicted f sound c t samples coefs short before =
    sum_over_samples f sound c (pos t) samples coefs (omega (arith, before.long)) (λ j h. before.each j (omega arith))
