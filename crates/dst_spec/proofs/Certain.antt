-- Where every sample is as guessed, the code is the number 0.
use Rattle.std.proofs.Common.{◌≡◌, ℕ, zero, suc, ◌+◌, ◌-◌, ◌*◌, ◌/◌, ◌%◌, ◌^◌, ◌<◌, ◌≤◌, ◌==◌, not, Bool, true, false, cond, if◌then◌else◌, ℤ, pos}
use Rattle.std.proofs.Common.{negsuc, ◌+ℤ◌, neg_ℤ, nat_abs, List, [], ◌∷◌, map, replicate, refl, ◌∙◌, arith}
use Rattle.std.proofs.lemmas.List.{get_or-replicate, length-replicate}
use Rattle.std.proofs.Math.Nat.{zero-div}
use Rattle.std.specs.List.{AllByRecursion, range_with_len}
use lib.IntN.{pred_ℤ}
use Rattle.std.specs.Int.{is_negative}
use Rattle.dst_spec.specs.Bits.{low_bits, number_from}
use Rattle.dst_spec.specs.Sample.{Shape, sample, IsSound}
use Rattle.dst_spec.specs.Header.{Params}
use Rattle.dst_spec.specs.Guess.{signed, sum_before, probability, as_guessed}
use Rattle.dst_spec.specs.Symbols.{reserved_probability, symbols}
use Rattle.dst_spec.specs.Interval.{Interval, whole, part, double, doubled, narrowed, interval_from, interval, code_number, IsCodeOf}
use Rattle.dst_spec.proofs.Lists.{all_flat_map, all_range, get_or-zeros, either_way, AreBytes-same}
use Rattle.dst_spec.proofs.Intervals.{IsNormal-interval, AreLawful}
pub use Rattle.dst_spec.proofs.Examples.{mono, params_of}

-- a symbol 1 with a lawful probability
abbrev pub IsSure : Bool × ℕ → Type 0
IsSure pair = (pair.0 ≡ true) × ((1 ≤ pair.1) × (pair.1 ≤ 128))

pub AreLawful-sure : (pairs : List (Bool × ℕ)) → AllByRecursion IsSure pairs → AreLawful pairs
AreLawful-sure [] h = tt
AreLawful-sure (pair ∷ pairs) h = (h.0.1, AreLawful-sure pairs h.1)

low-cond : (b : Bool) (i j : Interval) → i.low ≡ 0 → j.low ≡ 0 → (cond b i j).low ≡ 0
low-cond true i j h k = h
low-cond false i j h k = k

low-doubled : (n : ℕ) (i : Interval) → i.low ≡ 0 → (doubled n i).low ≡ 0
unfolding doubled
low-doubled zero i h = h
low-doubled (suc n) i h = low-cond _ (doubled n (double i)) i (low-doubled n (double i) (omega arith)) h

low-part : (e : Bool) (p : ℕ) (i : Interval) → e ≡ true → i.low ≡ 0 → (part e p i).low ≡ 0
low-part true p i e h = h
low-part false p i e h = absurd cc

pub low-sure : (i : Interval) (pairs : List (Bool × ℕ)) → i.low ≡ 0 → AllByRecursion IsSure pairs → (interval_from i pairs).low ≡ 0
unfolding interval_from
low-sure i [] h k = h
low-sure i (pair ∷ pairs) h k = low-sure (narrowed i pair) pairs (low-doubled 11 (part pair.0 pair.1 i) (low-part pair.0 pair.1 i k.0.0 h)) k.1

-- so a code of zeros lies in the interval
pub zeros_are_code : (xs : List ℕ) (i : ℕ) (pairs : List (Bool × ℕ)) → AllByRecursion IsSure pairs → ((n : ℕ) → code_number xs i n ≡ 0) → IsCodeOf xs i pairs
zeros_are_code xs i pairs h z =
    let low = low-sure whole pairs refl h in
    let n = IsNormal-interval pairs (AreLawful-sure pairs h) in
    let v = z (interval pairs).doublings in
    let r = n.least in
    record { above = omega (arith, low, v); below = omega (arith, low, v, r) }

-- a sound of the right length whose samples are all as guessed, at the probability 128
pub record IsGuessed (P : Params) (n : ℕ) (sound : List ℕ) : Type 0 where
  pub sound_is : IsSound (mono n) sound
  pub guessed : (t : ℕ) → t < 8 * n → as_guessed (mono n) P sound 0 t ≡ true
  pub probable : (t : ℕ) → probability (mono n) P sound 0 t ≡ 128
  pub reserved_least : 1 ≤ reserved_probability P
  pub reserved_most : reserved_probability P ≤ 128

pub symbols_are_sure : (P : Params) (n : ℕ) (sound : List ℕ) → IsGuessed P n sound → AllByRecursion IsSure (symbols (mono n) P sound true)
unfolding symbols
symbols_are_sure P n sound s =
    let at : ℕ → List (Bool × ℕ) = λ t. map (λ c. (as_guessed (mono n) P sound c t, probability (mono n) P sound c t)) (range_with_len 0 1) in
    let first : IsSure (true, reserved_probability P) = (refl, (s.reserved_least, s.reserved_most)) in
    let sure : (t : ℕ) → t < 8 * n → IsSure (as_guessed (mono n) P sound 0 t, probability (mono n) P sound 0 t) =
    λ t h. (s.guessed t h, (omega (arith, s.probable t), omega (arith, s.probable t))) in
    let each : AllByRecursion (λ t. AllByRecursion IsSure (at t)) (range_with_len 0 (8 * n)) =
    all_range (λ t. AllByRecursion IsSure (at t)) 0 (8 * n) (λ t h. (sure t (omega arith), tt)) in
    (first, all_flat_map IsSure at (range_with_len 0 (8 * n)) each)

pub IsSound-same : (n b : ℕ) → b < 256 → IsSound (mono n) (replicate n b)
IsSound-same n b h = record { long = omega (arith, length-replicate {A = ℕ} n b); bytes = AreBytes-same n b h }

-- the sample of a sound whose bytes are all the same
pub sample_of_same : (n b t : ℕ) → t < 8 * n → sample (mono n) (replicate n b) 0 (pos t) ≡ b / 2 ^ (7 - t % 8) % 2
sample_of_same n b t h =
    let lt : t / 8 * 1 + 0 < n = omega arith in
    rw get_or-replicate refl

-- bytes FF, with a filter of zeros
bit_of_ones : (k : ℕ) → k < 8 → 255 / 2 ^ k % 2 ≡ 1
bit_of_ones zero h = refl
bit_of_ones (suc zero) h = refl
bit_of_ones (suc (suc zero)) h = refl
bit_of_ones (suc (suc (suc zero))) h = refl
bit_of_ones (suc (suc (suc (suc zero)))) h = refl
bit_of_ones (suc (suc (suc (suc (suc zero))))) h = refl
bit_of_ones (suc (suc (suc (suc (suc (suc zero)))))) h = refl
bit_of_ones (suc (suc (suc (suc (suc (suc (suc zero))))))) h = refl
bit_of_ones (suc (suc (suc (suc (suc (suc (suc (suc k)))))))) h = absurd (omega arith)

sample_of_ones : (n t : ℕ) → t < 8 * n → sample (mono n) (replicate n 255) 0 (pos t) ≡ 1
sample_of_ones n t h = sample_of_same n 255 t h ∙ bit_of_ones (7 - t % 8) (omega arith)

zeros_predict_zero : (f : Shape) (sound : List ℕ) (c k : ℕ) (t : ℤ) → sum_before f sound c (replicate k (pos 0)) t ≡ pos 0
unfolding sum_before
zeros_predict_zero f sound c zero t = refl
zeros_predict_zero f sound c (suc k) t = rw (zeros_predict_zero f sound c k (pred_ℤ t), either_way) refl

pub ones_two_probs : (k n : ℕ) → IsGuessed (params_of (replicate (suc k) (pos 0)) (128 ∷ 128 ∷ [])) n (replicate n 255)
unfolding reserved_probability low_bits number_from
ones_two_probs k n =
    let zero_predicted = λ (t : ℕ). zeros_predict_zero (mono n) (replicate n 255) 0 (suc k) (pos t) in
    record {
      sound_is = IsSound-same n 255 (omega arith);
      guessed = λ t h. rw (zero_predicted t, sample_of_ones n t h) refl;
      probable = λ t. rw (zero_predicted t) refl;
      reserved_least = omega arith;
      reserved_most = omega arith;
    }

pub ones_one_prob : (k n : ℕ) → IsGuessed (params_of (replicate (suc k) (pos 0)) (128 ∷ [])) n (replicate n 255)
unfolding reserved_probability low_bits number_from
ones_one_prob k n =
    let zero_predicted = λ (t : ℕ). zeros_predict_zero (mono n) (replicate n 255) 0 (suc k) (pos t) in
    record {
      sound_is = IsSound-same n 255 (omega arith);
      guessed = λ t h. rw (zero_predicted t, sample_of_ones n t h) refl;
      probable = λ t. rw (zero_predicted t) refl;
      reserved_least = omega arith;
      reserved_most = omega arith;
    }

-- bytes 00, with the coefficient 1: each sample is guessed as the one before it
sample_of_zeros : (n t : ℕ) → sample (mono n) (replicate n 0) 0 (pos t) ≡ 0
sample_of_zeros n t = rw (get_or-zeros n (t / 8 * 1 + 0)) (omega (arith, zero-div (2 ^ (7 - t % 8))))

zeros_predict_down : (n t : ℕ) → sum_before (mono n) (replicate n 0) 0 (pos 1 ∷ []) (pos t) ≡ negsuc 0
unfolding sum_before
zeros_predict_down n zero = refl
zeros_predict_down n (suc t) = rw (sample_of_zeros n t) refl

pub zeros_guessed : (n : ℕ) → IsGuessed (params_of (pos 1 ∷ []) (128 ∷ 128 ∷ [])) n (replicate n 0)
unfolding reserved_probability low_bits number_from
zeros_guessed n = record {
  sound_is = IsSound-same n 0 (omega arith);
  guessed = λ t h. rw (zeros_predict_down n t, sample_of_zeros n t) refl;
  probable = λ t. rw (zeros_predict_down n t) refl;
  reserved_least = omega arith;
  reserved_most = omega arith;
}

-- bytes AA, with the coefficient -1: each sample is guessed as the other one than that before it
pub bit_of_turns : (k : ℕ) → k < 8 → 170 / 2 ^ k % 2 ≡ k % 2
bit_of_turns zero h = refl
bit_of_turns (suc zero) h = refl
bit_of_turns (suc (suc zero)) h = refl
bit_of_turns (suc (suc (suc zero))) h = refl
bit_of_turns (suc (suc (suc (suc zero)))) h = refl
bit_of_turns (suc (suc (suc (suc (suc zero))))) h = refl
bit_of_turns (suc (suc (suc (suc (suc (suc zero)))))) h = refl
bit_of_turns (suc (suc (suc (suc (suc (suc (suc zero))))))) h = refl
bit_of_turns (suc (suc (suc (suc (suc (suc (suc (suc k)))))))) h = absurd (omega arith)

sample_of_turns : (n t : ℕ) → t < 8 * n → sample (mono n) (replicate n 170) 0 (pos t) ≡ (t + 1) % 2
sample_of_turns n t h =
    let k = bit_of_turns (7 - t % 8) (omega arith) in
    sample_of_same n 170 t h ∙ k ∙ omega arith

before_turns : (n t : ℕ) → t < 8 * n → sample (mono n) (replicate n 170) 0 (pred_ℤ (pos t)) ≡ t % 2
before_turns n zero h = refl
before_turns n (suc t) h = sample_of_turns n t (omega arith) ∙ omega arith

-- the prediction by a sample b, and whether it guesses the sample s
abbrev turned : ℕ → ℤ
turned b = signed b (negsuc 0) +ℤ pos 0

other_is_guessed : (b s : ℕ) → b + s ≡ 1 → (if is_negative (turned b) then not (s == 1) else (s == 1)) ≡ true
other_is_guessed zero zero e = absurd (omega arith)
other_is_guessed zero (suc zero) e = refl
other_is_guessed zero (suc (suc s)) e = absurd (omega arith)
other_is_guessed (suc zero) zero e = refl
other_is_guessed (suc zero) (suc s) e = absurd (omega arith)
other_is_guessed (suc (suc b)) s e = absurd (omega arith)

small_turn : (b : Bool) → nat_abs (cond b (negsuc 0) (neg_ℤ (negsuc 0)) +ℤ pos 0) / 8 ≡ 0
small_turn true = refl
small_turn false = refl

turn_predicted : (n t : ℕ) → sum_before (mono n) (replicate n 170) 0 (negsuc 0 ∷ []) (pos t) ≡ turned (sample (mono n) (replicate n 170) 0 (pred_ℤ (pos t)))
unfolding sum_before
turn_predicted n t = refl

pub turns_guessed : (n : ℕ) → IsGuessed (params_of (negsuc 0 ∷ []) (128 ∷ 128 ∷ [])) n (replicate n 170)
unfolding reserved_probability low_bits number_from
turns_guessed n = record {
  sound_is = IsSound-same n 170 (omega arith);
  guessed = λ t h. rw (turn_predicted n t, before_turns n t h, sample_of_turns n t h) (other_is_guessed (t % 2) ((t + 1) % 2) (omega arith));
  probable = λ t. rw (turn_predicted n t, small_turn (sample (mono n) (replicate n 170) 0 (pred_ℤ (pos t)) == 1)) refl;
  reserved_least = omega arith;
  reserved_most = omega arith;
}
