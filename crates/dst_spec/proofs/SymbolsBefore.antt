-- The symbols of a frame, sample by sample and channel by channel; and the samples of a byte.
use Rattle.std.proofs.Common.{◌≡◌, ℕ, zero, suc, ◌+◌, ◌-◌, ◌*◌, ◌/◌, ◌%◌, ◌^◌, pos, Bool, List, [], ◌∷◌, ◌++◌, flat_map, get_or, refl, ap, ap₂, ◌∙◌, arith}
use Rattle.std.proofs.lemmas.List.{append-nil}
use Rattle.std.proofs.lemmas.Grind.{flat_map-append}
use Rattle.std.proofs.lemmas.List.FromFn.{map-range_with_len_more}
use Rattle.std.specs.List.{range_with_len}
use Rattle.dst_spec.specs.Sample.{Shape, sample}
use Rattle.dst_spec.specs.Header.{Params}
use Rattle.dst_spec.specs.Guess.{probability, as_guessed}
use Rattle.dst_spec.specs.Symbols.{reserved_probability, symbols_at, symbols_before, symbols}

-- one more channel
pub symbols_at-more : (f : Shape) (P : Params) (sound : List ℕ) (t n : ℕ) →
    symbols_at f P sound t (n + 1) ≡ symbols_at f P sound t n ++ (as_guessed f P sound n t, probability f P sound n t) ∷ []
symbols_at-more f P sound t n = map-range_with_len_more (λ c. (as_guessed f P sound c t, probability f P sound c t)) 0 n n (omega arith)

-- one more place
pub range-more : (a n : ℕ) → range_with_len a (n + 1) ≡ range_with_len a n ++ (a + n) ∷ []
range-more a zero =
    let e : a + zero ≡ a = omega arith in
    rw e refl
range-more a (suc n) =
    let next : suc n + 1 ≡ suc (n + 1) = omega arith in
    let e : a + 1 + n ≡ a + suc n = omega arith in
    ap (range_with_len a) next ∙ ap (λ xs. a ∷ xs) (range-more (a + 1) n ∙ ap (λ k. range_with_len (a + 1) n ++ k ∷ []) e)

pub symbols_before-more : (f : Shape) (P : Params) (sound : List ℕ) (reserved : Bool) (t : ℕ) →
    symbols_before f P sound reserved (t + 1) ≡ symbols_before f P sound reserved t ++ symbols_at f P sound t f.channels
unfolding symbols_before
symbols_before-more f P sound reserved t =
    let g = λ (u : ℕ). symbols_at f P sound u f.channels in
    let here : 0 + t ≡ t = omega arith in
    ap (λ xs. (reserved, reserved_probability P) ∷ xs)
    (ap (flat_map g) (range-more 0 t) ∙ flat_map-append g (range_with_len 0 t) ((0 + t) ∷ [])
    ∙ ap (λ xs. flat_map g (range_with_len 0 t) ++ xs) (append-nil (g (0 + t)) ∙ ap g here))

pub no_symbols : (f : Shape) (P : Params) (sound : List ℕ) (reserved : Bool) → symbols_before f P sound reserved 0 ≡ (reserved, reserved_probability P) ∷ []
unfolding symbols_before
no_symbols f P sound reserved = refl

pub all_symbols : (f : Shape) (P : Params) (sound : List ℕ) (reserved : Bool) → symbols_before f P sound reserved (8 * f.octets) ≡ symbols f P sound reserved
unfolding symbols_before symbols
all_symbols f P sound reserved = refl

-- the samples of a byte, the earliest in its most significant bit
pub byte_sample : (f : Shape) (sound : List ℕ) (m c i j byte : ℕ) → i + j ≡ 7 → get_or sound (m * f.channels + c) 0 ≡ byte →
    sample f sound c (pos (8 * m + i)) ≡ byte / 2 ^ j % 2
byte_sample f sound m c i j byte whole at =
    let down : (8 * m + i) / 8 ≡ m = omega arith in
    let left : 7 - (8 * m + i) % 8 ≡ j = omega arith in
    ap (λ q. get_or sound (q * f.channels + c) 0 / 2 ^ (7 - (8 * m + i) % 8) % 2) down ∙ ap₂ (λ x n. x / 2 ^ n % 2) at left
