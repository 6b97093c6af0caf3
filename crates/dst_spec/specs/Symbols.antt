-- The symbols of a frame with their probabilities.
use Rattle.std.specs.Prelude.{ℕ, ◌+◌, pos, Bool, List, [], ◌∷◌, map, reverse, flat_map, get_or}
use Rattle.std.specs.List.{range_with_len}
use Rattle.dst_spec.specs.Bits.{signed_bits, number_from}
use Rattle.dst_spec.specs.Sample.{Shape, samples}
use Rattle.dst_spec.specs.Header.{Params}
use Rattle.dst_spec.specs.Guess.{probability, as_guessed}

-- 1 and the number of the seven low bits of coefficient 0 of filter 0 in reversed order, a coefficient having nine bits
unfoldable pub reserved_probability : Params → ℕ
reserved_probability P = 1 + number_from (reverse (signed_bits 9 (get_or (get_or P.filters 0 []) 0 (pos 0)))) 0 7

-- the symbols of the samples t of the first n channels
abbrev pub symbols_at : Shape → Params → List ℕ → ℕ → ℕ → List (Bool × ℕ)
symbols_at f P sound t n = map (λ c. (as_guessed f P sound c t, probability f P sound c t)) (range_with_len 0 n)

-- the symbols of a frame before the samples t
unfoldable pub symbols_before : Shape → Params → List ℕ → Bool → ℕ → List (Bool × ℕ)
symbols_before f P sound reserved t =
    (reserved, reserved_probability P) ∷ flat_map (λ u. symbols_at f P sound u f.channels) (range_with_len 0 t)

-- The reserved symbol, which means nothing; then for each t, channel after channel, whether the sample is as guessed.
unfoldable pub symbols : Shape → Params → List ℕ → Bool → List (Bool × ℕ)
symbols f P sound reserved =
    (reserved, reserved_probability P)
    ∷ flat_map (λ t. map (λ c. (as_guessed f P sound c t, probability f P sound c t)) (range_with_len 0 f.channels)) (range_with_len 0 (samples f))
