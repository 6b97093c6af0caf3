-- A row of codes, byte by byte.
use Rattle.std.proofs.Common.{◌≡◌, ◌⊎◌, inl, inr, ℕ, ◌+◌, ◌*◌, ◌/◌, ◌%◌, ◌^◌, ◌-◌, ◌<◌, ◌≤◌, ◌==◌, ℤ, pos, ◌-ℤ◌, List, ◌++◌, length}
use Rattle.std.proofs.Common.{get_or, take, drop, replicate, ap, ap₂, sym, subst, ◌∙◌, arith, length-take-le, get_or-take}
use Rattle.std.proofs.lemmas.Bool.{cases_lt}
use Rattle.std.proofs.lemmas.List.{get_or_append_left, get_or-append-add}
use Rattle.dst_spec.specs.Sample.{Shape}
use Rattle.dst_spec.proofs.SymbolsBefore.{byte_sample}
use Rattle.dst_spec.specs.Guess.{sum_before}
use Rattle.byte_predictor.specs.Samples.{IsBefore, rising_bits, samples_of}
use Rattle.byte_predictor.specs.Upward.{upward_sum, size_sum}
use Rattle.byte_predictor.specs.KnownAhead.{AreKnown}
use Rattle.byte_predictor.proofs.Before.{before_a_frame, before_in_a_byte, predicted}
use Rattle.byte_predictor.proofs.Upward.{signed_sum-is}
use Rattle.byte_predictor.specs.declared.known.KnownAhead.{KnownAhead}
use Rattle.frame_predictions.specs.Codes.{code_of, code_at}
use Rattle.frame_predictions.specs.Filling.{IsFilling}

-- before the first sample
pub filling-begins : (f : Shape) (sound : List ℕ) (c : ℕ) (filter : List ℤ) (codes : List ℕ) (fresh : KnownAhead) →
    AreKnown filter (samples_of (replicate 16 170)) fresh → IsFilling f sound c filter 0 codes fresh
filling-begins f sound c filter codes fresh ahead = record {
  samples = samples_of (replicate 16 170);
  before = before_a_frame f sound c;
  ahead = ahead;
  codes_are = λ u lt. absurd (omega arith);
}

-- a code by what goes upward to the prediction of one of the eight samples of a byte
code_is : (f : Shape) (sound : List ℕ) (c m place upward size byte : ℕ) (filter : List ℤ) (samples : List ℕ) → length filter ≤ 128 → place < 8 →
    IsBefore f sound c (8 * m) samples → get_or sound (m * f.channels + c) 0 ≡ byte → size ≡ size_sum filter →
    upward ≡ upward_sum filter (drop (8 - place) (rising_bits 8 byte ++ samples)) →
    code_of (pos (2 * upward) -ℤ pos size) (byte / 2 ^ (7 - place) % 2 == 1) ≡ code_at f sound c filter (8 * m + place)
code_is f sound c m place upward size byte filter samples short lt before at size_is upward_is =
    let here = drop (8 - place) (rising_bits 8 byte ++ samples) in
    let just_before : IsBefore f sound c (8 * m + place) here =
    subst (λ b. IsBefore f sound c (8 * m + place) (drop (8 - place) (rising_bits 8 b ++ samples))) at
    (before_in_a_byte f sound c m place samples (omega arith) before) in
    let long : length filter ≤ length here = omega (arith, just_before.long) in
    let sum : pos (2 * upward) -ℤ pos size ≡ sum_before f sound c filter (pos (8 * m + place)) =
    ap₂ (λ u s. pos (2 * u) -ℤ pos s) upward_is size_is
    ∙ sym (signed_sum-is filter here long) ∙ predicted f sound c (8 * m + place) here filter short just_before in
    let bit = byte_sample f sound m c place (7 - place) byte (omega arith) at in
    ap₂ (λ z b. code_of z (b == 1)) sum (sym bit)

-- the codes of one byte more
pub filling-more : (f : Shape) (sound : List ℕ) (c : ℕ) (filter : List ℤ) (m byte size : ℕ) (codes upward eight rest : List ℕ) (old new : KnownAhead) →
    length filter ≤ 128 → 8 * m + 8 ≤ length codes → length eight ≡ 8 → get_or sound (m * f.channels + c) 0 ≡ byte → size ≡ size_sum filter →
    ((samples : List ℕ) → AreKnown filter samples old → AreKnown filter (rising_bits 8 byte ++ samples) new) →
    ((place : ℕ) (samples : List ℕ) → place < 8 → AreKnown filter samples old →
    get_or upward place 0 ≡ upward_sum filter (drop (8 - place) (rising_bits 8 byte ++ samples))) →
    ((place : ℕ) → place < 8 → get_or eight place 0 ≡ code_of (pos (2 * get_or upward place 0) -ℤ pos size) (byte / 2 ^ (7 - place) % 2 == 1)) →
    IsFilling f sound c filter m codes old → IsFilling f sound c filter (m + 1) (take (8 * m) codes ++ (eight ++ rest)) new
filling-more f sound c filter m byte size codes upward eight rest old new short room long at size_is next upward_is each h = record {
  samples = rising_bits 8 byte ++ h.samples;
  before = after (before_in_a_byte f sound c m 8 h.samples (omega arith) h.before);
  ahead = next h.samples h.ahead;
  codes_are = λ u lt. is u lt (cases_lt u (8 * m));
}
  where
    after : IsBefore f sound c (8 * m + 8) (rising_bits 8 (get_or sound (m * f.channels + c) 0) ++ h.samples) →
        IsBefore f sound c (8 * (m + 1)) (rising_bits 8 byte ++ h.samples)
    after before =
        let place : 8 * m + 8 ≡ 8 * (m + 1) = omega arith in
        subst (λ n. IsBefore f sound c n (rising_bits 8 byte ++ h.samples)) place
        (subst (λ b. IsBefore f sound c (8 * m + 8) (rising_bits 8 b ++ h.samples)) at before)

    front : length (take (8 * m) codes) ≡ 8 * m
    front = length-take-le (8 * m) codes (omega arith)

    is : (u : ℕ) → u < 8 * (m + 1) → (u < 8 * m) ⊎ (8 * m ≤ u) →
        get_or (take (8 * m) codes ++ (eight ++ rest)) u 0 ≡ code_at f sound c filter u
    is u lt (inl earlier) =
        let inside : u < length (take (8 * m) codes) = omega (arith, front) in
        get_or_append_left (take (8 * m) codes) (eight ++ rest) 0 u inside ∙ get_or-take (8 * m) codes u 0 earlier ∙ h.codes_are u earlier
    is u lt (inr here) =
        let place = u - 8 * m in
        let few : place < 8 = omega arith in
        let behind : u ≡ length (take (8 * m) codes) + place = omega (arith, front) in
        let inside : place < length eight = omega (arith, long) in
        let same : 8 * m + place ≡ u = omega arith in
        ap (λ n. get_or (take (8 * m) codes ++ (eight ++ rest)) n 0) behind
        ∙ get_or-append-add (take (8 * m) codes) (eight ++ rest) place 0
        ∙ get_or_append_left eight rest 0 place inside
        ∙ each place few
        ∙ code_is f sound c m place (get_or upward place 0) size byte filter h.samples short few h.before at size_is (upward_is place h.samples few h.ahead)
        ∙ ap (code_at f sound c filter) same
