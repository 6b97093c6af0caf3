-- Bits as bytes.
use Rattle.std.proofs.Common.{◌≡◌, ℕ, zero, suc, ◌+◌, ◌*◌, ◌/◌, ◌%◌, ◌<◌, List, [], ◌∷◌, ◌++◌, length, replicate, get_or, map, refl, ap, ap₂, ◌∙◌}
use Rattle.std.proofs.Common.{arith, length-append}
use Rattle.std.proofs.lemmas.List.{length-replicate, get_or-map, same_lists, length-map, get_or_default}
use Rattle.std.specs.List.{range_with_len}
use Rattle.dst_spec.specs.Bits.{bits, number_from, octets}
use Rattle.dst_spec.proofs.Numbers.{length-bits, length-range, get_or-range}
use Rattle.bit_io.specs.Writing.{to_byte_end}
use Rattle.bit_io.proofs.Windows.{number_of_byte}
use Rattle.dst_spec.proofs.Lists.{get_or-zeros}

-- bytes are the bytes of their bits
pub octets-bits : (bytes : List ℕ) → ((i : ℕ) → get_or bytes i 0 < 256) → octets (bits bytes) ≡ bytes
unfolding octets
octets-bits bytes small =
    let count : (length (bits bytes) + 7) / 8 ≡ length bytes = omega (arith, length-bits bytes) in
    let f : ℕ → ℕ = λ j. number_from (bits bytes) (8 * j) 8 in
    let whole : length (map f (range_with_len 0 (length bytes))) ≡ length bytes = length-map (range_with_len 0 (length bytes)) f
    ∙ length-range 0 (length bytes) in
    let same : map f (range_with_len 0 (length bytes)) ≡ bytes =
    same_lists _ bytes whole (λ k d lt.
    let inside : k < length (range_with_len 0 (length bytes)) = omega (arith, length-range 0 (length bytes), whole, lt) in
    let below : k < length bytes = omega (arith, whole, lt) in
    let at : get_or (map f (range_with_len 0 (length bytes))) k d ≡ f (get_or (range_with_len 0 (length bytes)) k 0) =
    get_or-map f (range_with_len 0 (length bytes)) k 0 d inside in
    let place : get_or (range_with_len 0 (length bytes)) k 0 ≡ k = get_or-range 0 (length bytes) k below ∙ omega arith in
    let byte : get_or bytes k 0 % 256 ≡ get_or bytes k 0 = omega (arith, small k) in
    at ∙ ap f place ∙ number_of_byte bytes k ∙ byte ∙ get_or_default bytes k 0 d below) in
    rw count same

-- zero bits up to the byte's end change no byte
bit_before_zeros : (xs : List ℕ) (k i : ℕ) → get_or (xs ++ replicate k 0) i 0 ≡ get_or xs i 0
bit_before_zeros [] k i = get_or-zeros k i
bit_before_zeros (x ∷ xs) k zero = refl
bit_before_zeros (x ∷ xs) k (suc i) = bit_before_zeros xs k i

number_before_zeros : (xs : List ℕ) (k i n : ℕ) → number_from (xs ++ replicate k 0) i n ≡ number_from xs i n
unfolding number_from
number_before_zeros xs k i zero = refl
number_before_zeros xs k i (suc n) = rw (number_before_zeros xs k i n, bit_before_zeros xs k (i + n)) refl

same_map : (f g : ℕ → ℕ) (xs : List ℕ) → ((j : ℕ) → f j ≡ g j) → map f xs ≡ map g xs
same_map f g [] h = refl
same_map f g (x ∷ xs) h = ap₂ (λ y ys. y ∷ ys) (h x) (same_map f g xs h)

pub octets-zeros : (xs : List ℕ) → octets (xs ++ replicate (to_byte_end (length xs)) 0) ≡ octets xs
unfolding octets
octets-zeros xs =
    let k = to_byte_end (length xs) in
    let long : length (xs ++ replicate k 0) ≡ length xs + k = length-append xs (replicate k 0) ∙ ap (λ n. length xs + n) (length-replicate k 0) in
    let count : (length (xs ++ replicate k 0) + 7) / 8 ≡ (length xs + 7) / 8 = omega (arith, long) in
    rw count (same_map (λ j. number_from (xs ++ replicate k 0) (8 * j) 8) (λ j. number_from xs (8 * j) 8) (range_with_len 0 ((length xs + 7) / 8))
    (λ j. number_before_zeros xs k (8 * j) 8))
