-- Frames of the real size, whole: what is spelled for a sound FF, what is stored, and the tail of a long frame.
use Rattle.std.proofs.Common.{◌≡◌, ℕ, zero, suc, ◌+◌, ◌*◌, ◌/◌, ◌%◌, ◌^◌, ◌<◌, ◌==◌, nat_lt, Bool, true, false, if◌then◌else◌, inr, pos, List, []}
use Rattle.std.proofs.Common.{◌∷◌, ◌++◌, length, get_or, map, replicate, refl, ap, ap₂, sym, ◌∙◌, arith, length-append}
use Rattle.std.proofs.lemmas.List.{length-replicate}
use Rattle.std.specs.List.{range_with_len}
use Rattle.dst_spec.specs.Bits.{low_bits, bits, number_from, octets}
use Rattle.dst_spec.specs.Sample.{samples}
use Rattle.dst_spec.specs.Header.{Params}
use Rattle.dst_spec.specs.Guess.{sum_before, probability, as_guessed}
use Rattle.dst_spec.specs.Symbols.{reserved_probability, symbols}
use Rattle.dst_spec.specs.Interval.{doubled, interval_from, interval, code_number, IsCodeOf}
use Rattle.dst_spec.specs.Means.{MeansWithTail}
use Rattle.dst_spec.specs.Spell.{header_spelling, code_spelling, spell, stored}
use Rattle.dst_spec.proofs.Examples.{mono, params_of, spelling_open}
use Rattle.dst_spec.proofs.Numbers.{length-bits, bits-append, length-octets, length-low_bits, number_from-add, number_from-append_right}
use Rattle.dst_spec.proofs.Causal.{sample_is_bit}
use Rattle.dst_spec.proofs.Decoding.{pair_at, symbols-by_place}
use Rattle.dst_spec.proofs.Certain.{IsSound-same, ones_two_probs, symbols_are_sure, zeros_are_code}
use Rattle.dst_spec.proofs.CodeLengths.{code_bits}
use Rattle.dst_spec.proofs.Beginnings.{header_to_45}
use Rattle.dst_spec.proofs.Lists.{get_or-zeros, either_way}

-- ---- a filter 0 guesses 1 always: the symbols of a sound are its bits
abbrev no_filter : ℕ → Params
no_filter p = params_of (pos 0 ∷ []) (p ∷ p ∷ [])

abbrev all_ones : ℕ → List ℕ
all_ones n = replicate n 255

each_by_place : {A : Type 0} (g : ℕ → A) (h : ℕ → A) (xs : List ℕ) (a : ℕ) → ((i : ℕ) → i < length xs → h (a + i) ≡ g (get_or xs i 0)) →
    map h (range_with_len a (length xs)) ≡ map g xs
each_by_place g h [] a same = refl
each_by_place g h (x ∷ xs) a same =
    let start : a + 0 ≡ a = omega arith in
    ap₂ (λ y ys. y ∷ ys) (ap h (sym start) ∙ same 0 (omega arith))
    (each_by_place g h xs (a + 1) (λ i lt. let next : a + 1 + i ≡ a + suc i = omega arith in ap h next ∙ same (suc i) (omega arith)))

zero_predicted : (n : ℕ) (sound : List ℕ) (c t : ℕ) → sum_before (mono n) sound c (pos 0 ∷ []) (pos t) ≡ pos 0
unfolding sum_before
zero_predicted n sound c t = rw either_way refl

pair_of : (n p : ℕ) (sound : List ℕ) (t : ℕ) →
    ◌≡◌ {A = Bool × ℕ} (as_guessed (mono n) (no_filter p) sound 0 t, probability (mono n) (no_filter p) sound 0 t) (get_or (bits sound) t 0 == 1, p)
pair_of n p sound t =
    let place : 8 * (t / 8 * 1 + 0) + t % 8 ≡ t = omega arith in
    rw (zero_predicted n sound 0 t) (ap (λ b. (b == 1, p)) (sample_is_bit (mono n) sound 0 t ∙ ap (λ i. get_or (bits sound) i 0) place))

pair_is_bit : (n p : ℕ) (sound : List ℕ) (k : ℕ) → pair_at (mono n) (no_filter p) sound k ≡ (get_or (bits sound) k 0 == 1, p)
pair_is_bit n p sound k =
    let c : k % 1 ≡ 0 = omega arith in
    let t : k / 1 ≡ k = omega arith in
    ap₂ (λ c t. (as_guessed (mono n) (no_filter p) sound c t, probability (mono n) (no_filter p) sound c t)) c t ∙ pair_of n p sound k

reserved_is_1 : (p : ℕ) → reserved_probability (no_filter p) ≡ 1
unfolding reserved_probability low_bits number_from
reserved_is_1 p = refl

symbols_are_bits : (n p : ℕ) (sound : List ℕ) (e : Bool) → length sound ≡ n →
    symbols (mono n) (no_filter p) sound e ≡ (e, 1) ∷ map (λ b. (b == 1, p)) (bits sound)
symbols_are_bits n p sound e long =
    let count : samples (mono n) * 1 ≡ length (bits sound) = omega (arith, length-bits sound, long) in
    symbols-by_place (mono n) (no_filter p) sound e
    ∙ ap₂ (λ first rest. (e, first) ∷ rest) (reserved_is_1 p)
    (ap (λ m. map (pair_at (mono n) (no_filter p) sound) (range_with_len 0 m)) count
    ∙ each_by_place (λ b. (b == 1, p)) (pair_at (mono n) (no_filter p) sound) (bits sound) 0 (λ i lt. let place : 0 + i ≡ i =
    omega arith in ap (pair_at (mono n) (no_filter p) sound) place ∙ pair_is_bit n p sound i))

-- those of a sound FF are all 1, but for the reserved one
ones : (n p : ℕ) → map {B = Bool × ℕ} (λ b. (b == 1, p)) (bits (all_ones n)) ≡ replicate (8 * n) (true, p)
unfolding bits low_bits
ones zero p = refl
ones (suc n) p =
    let more : 8 * suc n ≡ suc (suc (suc (suc (suc (suc (suc (suc (8 * n)))))))) = omega arith in
    ap (λ xs. (true, p) ∷ (true, p) ∷ (true, p) ∷ (true, p) ∷ (true, p) ∷ (true, p) ∷ (true, p) ∷ (true, p) ∷ xs) (ones n p)
    ∙ ap (λ m. replicate m (true, p)) (sym more)

symbols_of_ones : (n p : ℕ) (e : Bool) → symbols (mono n) (no_filter p) (all_ones n) e ≡ (e, 1) ∷ replicate (8 * n) (true, p)
symbols_of_ones n p e = symbols_are_bits n p (all_ones n) e (length-replicate {A = ℕ} n 255) ∙ ap (λ xs. (e, 1) ∷ xs) (ones n p)

-- ---- what is spelled: with probabilities 1, seven bytes and zeros; with 128, 37,697 bits
pub ones_by_probability_1 : spell (mono 4704) (no_filter 1) (all_ones 4704) ≡ 252 ∷ 0 ∷ 0 ∷ 6 ∷ 0 ∷ 23 ∷ 248 ∷ replicate 28 0
unfolding spelling_open
ones_by_probability_1 = ap (λ pairs. octets (header_spelling (no_filter 1) ++ code_spelling pairs)) (symbols_of_ones 4704 1 false) ∙ refl

doublings_by_128 : (interval ((false, 1) ∷ replicate 37632 (true, 128))).doublings ≡ 37640
unfolding doubled interval_from
doublings_by_128 = refl

header_by_128 : length (header_spelling (no_filter 128)) ≡ 44
unfolding spelling_open
header_by_128 = refl

abbrev bits_by_128 : List ℕ
bits_by_128 = header_spelling (no_filter 128) ++ code_spelling (symbols (mono 4704) (no_filter 128) (all_ones 4704) false)

pub ones_by_probability_128_take_37697 : length bits_by_128 ≡ 37697
ones_by_probability_128_take_37697 =
    let pairs = symbols (mono 4704) (no_filter 128) (all_ones 4704) false in
    let d = ap (λ ps. (interval ps).doublings) (symbols_of_ones 4704 128 false) ∙ doublings_by_128 in
    omega (arith, length-append (header_spelling (no_filter 128)) (code_spelling pairs), header_by_128, code_bits pairs, d)

-- ---- what is stored: the plain form, or the shorter spelling
spelled_by_128_is_long : length (spell (mono 4704) (no_filter 128) (all_ones 4704)) ≡ 4713
unfolding spell
spelled_by_128_is_long = omega (arith, length-octets bits_by_128, ones_by_probability_128_take_37697)

plain_form_is_4705 : length (0 ∷ all_ones 4704) ≡ 4705
plain_form_is_4705 = omega (arith, length-replicate {A = ℕ} 4704 255)

pub plain_form_is_stored : stored (mono 4704) (all_ones 4704) (no_filter 128 ∷ []) ≡ 0 ∷ all_ones 4704
plain_form_is_stored =
    ap₂ (λ m n. if nat_lt m n then spell (mono 4704) (no_filter 128) (all_ones 4704) else (0 ∷ all_ones 4704)) spelled_by_128_is_long plain_form_is_4705

pub spelling_is_stored : stored (mono 4704) (all_ones 4704) (no_filter 1 ∷ []) ≡ 252 ∷ 0 ∷ 0 ∷ 6 ∷ 0 ∷ 23 ∷ 248 ∷ replicate 28 0
spelling_is_stored = ap (λ spelled. if nat_lt (length spelled) (length (0 ∷ all_ones 4704)) then spelled else (0 ∷ all_ones 4704)) ones_by_probability_1

-- ---- a long frame: 45 bits of header, 13 and 37,631 doublings are 37,689 bits, which touch 4,712 of 9,410 bytes
abbrev long_frame : List ℕ
long_frame = 252 ∷ 0 ∷ 0 ∷ 5 ∷ 255 ∷ 248 ∷ replicate 9404 0

doublings_of_long_frame : (interval ((true, 1) ∷ replicate 37632 (true, 128))).doublings ≡ 37631
unfolding doubled interval_from
doublings_of_long_frame = refl

zeros_as_bits : (n : ℕ) → bits (replicate n 0) ≡ replicate (8 * n) 0
unfolding bits low_bits
zeros_as_bits zero = refl
zeros_as_bits (suc n) =
    let more : 8 * suc n ≡ suc (suc (suc (suc (suc (suc (suc (suc (8 * n)))))))) = omega arith in
    ap (λ xs. 0 ∷ 0 ∷ 0 ∷ 0 ∷ 0 ∷ 0 ∷ 0 ∷ 0 ∷ xs) (zeros_as_bits n) ∙ ap (λ m. replicate m 0) (sym more)

number_of_zeros : (k i n : ℕ) → number_from (replicate k 0) i n ≡ 0
unfolding number_from
number_of_zeros k i zero = refl
number_of_zeros k i (suc n) = omega (arith, number_of_zeros k i n, get_or-zeros k (i + n))

abbrev front : List ℕ
front = 252 ∷ 0 ∷ 0 ∷ 5 ∷ 255 ∷ 248 ∷ []

two_zeros : number_from (bits front ++ replicate (8 * 9404) 0) 46 2 ≡ 0
unfolding bits low_bits number_from
two_zeros = refl

long_code_is_0 : (n : ℕ) → code_number (bits long_frame) 45 n ≡ 0
long_code_is_0 n =
    let xs = bits front ++ replicate (8 * 9404) 0 in
    let whole : bits long_frame ≡ xs = bits-append front (replicate 9404 0) ∙ ap (λ ys. bits front ++ ys) (zeros_as_bits 9404) in
    let count : 12 + n ≡ 2 + (10 + n) = omega arith in
    let long : 48 ≡ length (bits front) + 0 = omega (arith, length-bits front) in
    let behind : number_from xs 48 (10 + n) ≡ 0 =
    ap (λ i. number_from xs i (10 + n)) long ∙ number_from-append_right (bits front) (replicate (8 * 9404) 0) 0 (10 + n)
    ∙ number_of_zeros (8 * 9404) 0 (10 + n) in
    ap₂ (λ ys m. number_from ys 46 m) whole count ∙ number_from-add xs 46 2 (10 + n) ∙ ap₂ (λ a b. a * 2 ^ (10 + n) + b) two_zeros behind ∙ omega arith

long_frame_has_code : IsCodeOf (bits long_frame) 45 (symbols (mono 4704) (no_filter 128) (all_ones 4704) true)
long_frame_has_code =
    zeros_are_code (bits long_frame) 45 (symbols (mono 4704) (no_filter 128) (all_ones 4704) true)
    (symbols_are_sure (no_filter 128) 4704 (all_ones 4704) (ones_two_probs 0 4704)) long_code_is_0

pub tail_of_a_long_frame : MeansWithTail (mono 4704) long_frame (all_ones 4704) 4698
unfolding bits low_bits
tail_of_a_long_frame =
    let d = ap (λ ps. (interval ps).doublings) (symbols_of_ones 4704 128 true) ∙ doublings_of_long_frame in (
      IsSound-same 4704 255 (omega arith),
      inr (
        record {
          params = no_filter 128;
          place = 45;
          inside = omega (arith, length-bits long_frame);
          header = header_to_45;
          first_bit = refl;
          reserved = true;
          code = long_frame_has_code;
        },
        omega (arith, d, length-replicate {A = ℕ} 9404 0),
      ),
    )
