-- The probabilities of a sound's symbols are from 1 to 128.
use Rattle.std.proofs.Common.{ℕ, ◌-◌, ◌/◌, ◌^◌, ◌<◌, ◌≤◌, min, Bool, true, false, cond, List, [], ◌∷◌, length, map, get_or, reverse, arith, ℤ, pos}
use Rattle.std.proofs.Common.{negsuc, nat_abs}
use Rattle.std.proofs.lemmas.Int.{ints}
use Rattle.std.proofs.lemmas.List.{length-map}
use Rattle.std.specs.List.{AllByRecursion, range_with_len}
use Rattle.dst_spec.specs.Bits.{signed_bits, AreBits}
use Rattle.dst_spec.specs.Sample.{Shape, samples}
use Rattle.dst_spec.specs.Table.{prob_kind, InRange, IsTable}
use Rattle.dst_spec.specs.Header.{Params, IsParams}
use Rattle.dst_spec.specs.Guess.{probs_of, prediction, probability, as_guessed}
use Rattle.dst_spec.specs.Symbols.{reserved_probability, symbols}
use Rattle.dst_spec.proofs.Numbers.{AreBits-low_bits, number_from-below}
use Rattle.dst_spec.proofs.Intervals.{AreLawful}
use Rattle.dst_spec.proofs.Lists.{get_all, all_map, all_flat_map, all_range}
use Rattle.dst_spec.proofs.MapNumbers.{element-below}

abbrev pub IsProb : ℕ → Type 0
IsProb p = (1 ≤ p) × (p ≤ 128)

entries_are_probs : (entries : List ℕ) → AllByRecursion (InRange prob_kind) (map pos entries) → AllByRecursion IsProb entries
entries_are_probs [] h = tt
entries_are_probs (x ∷ xs) h = ((omega (arith, ints, h.0.0), omega (arith, ints, h.0.1)), entries_are_probs xs h.1)

chosen_prob : (b : Bool) (p : ℕ) → IsProb p → IsProb (cond b 128 p)
chosen_prob true p h = (omega arith, omega arith)
chosen_prob false p h = h

pub IsProb-probability : (f : Shape) (P : Params) (sound : List ℕ) (c t : ℕ) → IsParams f.channels P → c < f.channels → IsProb (probability f P sound c t)
IsProb-probability f P sound c t h k =
    let inside : c < length P.prob_map = omega (arith, h.prob_map.0) in
    let element = element-below 0 P.prob_map c inside in
    let there : get_or P.prob_map c 0 < length P.probs = omega (arith, h.prob_count, element) in
    let table = get_all (λ entries. IsTable prob_kind (map pos entries)) P.probs (get_or P.prob_map c 0) [] h.probs there in
    let least : 1 ≤ length (map pos (probs_of P c)) = table.least in
    let long = length-map (probs_of P c) (λ x. pos x) in
    let n = nat_abs (prediction f P sound c t) / 8 in
    chosen_prob _ (get_or (probs_of P c) (min n (length (probs_of P c) - 1)) 0)
    (get_all IsProb (probs_of P c) (min n (length (probs_of P c) - 1)) 0 (entries_are_probs (probs_of P c) table.each) (omega arith))

AreBits-reverse : (xs ys : List ℕ) → AreBits xs → AreBits ys → AreBits (mathlib.Core.List.reverse_aux xs ys)
AreBits-reverse [] ys h k = k
AreBits-reverse (x ∷ xs) ys h k = AreBits-reverse xs (x ∷ ys) h.1 (h.0, k)

pub AreBits-signed_bits : (n : ℕ) (z : ℤ) → AreBits (signed_bits n z)
AreBits-signed_bits n (pos x) = AreBits-low_bits n x
AreBits-signed_bits n (negsuc x) = AreBits-low_bits n (2 ^ n - 1 - x)

pub reserved_probability-most : (P : Params) → reserved_probability P ≤ 128
unfolding reserved_probability
reserved_probability-most P =
    let a = get_or (get_or P.filters 0 []) 0 (pos 0) in
    let xs = signed_bits 9 a in
    let bits = AreBits-reverse xs [] (AreBits-signed_bits 9 a) tt in
    omega (arith, number_from-below (reverse xs) 0 7 bits)

pub reserved_probability-least : (P : Params) → 1 ≤ reserved_probability P
unfolding reserved_probability
reserved_probability-least P = omega arith

pub AreLawful-symbols : (f : Shape) (P : Params) (sound : List ℕ) (e : Bool) → IsParams f.channels P → AreLawful (symbols f P sound e)
unfolding symbols
AreLawful-symbols f P sound e h =
    let Q : Bool × ℕ → Type 0 = λ pair. (1 ≤ pair.1) × (pair.1 ≤ 128) in
    let at : ℕ → List (Bool × ℕ) = λ t. map (λ c. (as_guessed f P sound c t, probability f P sound c t)) (range_with_len 0 f.channels) in
    let each : AllByRecursion (λ t. AllByRecursion Q (at t)) (range_with_len 0 (samples f)) =
    all_range (λ t. AllByRecursion Q (at t)) 0 (samples f) (λ t k.
    all_map Q (λ c. (as_guessed f P sound c t, probability f P sound c t)) (range_with_len 0 f.channels)
    (all_range (λ c. IsProb (probability f P sound c t)) 0 f.channels (λ c l. IsProb-probability f P sound c t h (omega arith)))) in
    ((reserved_probability-least P, reserved_probability-most P), all_flat_map Q at (range_with_len 0 (samples f)) each)
