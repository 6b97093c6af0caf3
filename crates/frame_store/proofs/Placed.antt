-- Symbols laid out in order, a byte for each channel of each sample.
use Rattle.std.proofs.Common.{◌≡◌, ◌≢◌, ◌⊎◌, inl, inr, ℕ, zero, suc, ◌+◌, ◌-◌, ◌*◌, ◌%◌, ◌<◌, ◌≤◌, ◌&&◌, min, nat_lt, not, pos, Bool, true, false}
use Rattle.std.proofs.Common.{if◌then◌else◌, List, ◌∷◌, ◌++◌, length, get_or, map, take, drop, ap, ap₂, sym, subst, ◌∙◌, arith, add-one, lt-ltb}
use Rattle.std.proofs.Common.{le-ltb, length-drop, length-take-le, get_or-take, get_or-drop}
use Rattle.std.proofs.lemmas.Bool.{cases_lt, cases_eq}
use Rattle.std.proofs.lemmas.List.{map-append, get_or-map, length-map, take_all}
use Rattle.std.proofs.lemmas.List.FromFn.{fill_by_all}
use Rattle.std.proofs.Math.Seq.{take-add}
use Rattle.dst_spec.specs.Sample.{Shape, samples}
use Rattle.dst_spec.specs.Header.{Params}
use Rattle.dst_spec.specs.Table.{prob_kind, IsTable}
use Rattle.dst_spec.specs.Guess.{filter_of, probs_of, probability, as_guessed}
use Rattle.dst_spec.specs.Symbols.{reserved_probability, symbols_at, symbols_before, symbols}
use Rattle.dst_spec.proofs.Lists.{place-below}
use Rattle.dst_spec.proofs.SymbolsBefore.{no_symbols, all_symbols, symbols_before-more}
use Rattle.channel_params.proofs.Probs.{prob_in_range}
use Rattle.frame_store.specs.Pairs.{pair_of, symbol_byte, all_pairs}
use Rattle.frame_store.specs.Probs.{prob_in}
use Rattle.frame_store.proofs.Probs.{prob_again}

-- places of one channel and of another sample, or of one sample and another channel, are different
pub place-other_sample : (u t c d channels : ℕ) → c < channels → d < channels → u ≢ t → u * channels + c ≢ t * channels + d
place-other_sample u t c d channels h k ne e = at (cases_lt u t)
  where
    at : (u < t) ⊎ (t ≤ u) → ⊥
    at (inl lt) = let below = place-below u c channels t h lt in absurd (omega arith)
    at (inr le) = let below = place-below t d channels u k (omega arith) in absurd (omega arith)

pub place-other_channel : (u t c d channels : ℕ) → c < channels → d < channels → c ≢ d → u * channels + c ≢ t * channels + d
place-other_channel u t c d channels h k ne e = at (cases_eq u t)
  where
    at : (u ≡ t) ⊎ (u ≡ t → ⊥) → ⊥
    at (inl is) = let same = ap (λ n. n * channels) is in absurd (ne (omega arith))
    at (inr nor) = place-other_sample u t c d channels h k nor e

row-inside : (t channels n : ℕ) → t < n → t * channels + channels ≤ n * channels
row-inside t channels n h = grind arith

-- each byte has the symbol of its sample and channel
pub record ArePlaced (f : Shape) (P : Params) (sound xs : List ℕ) (done : ℕ) : Type 0 where
  pub each : (c t : ℕ) → c < done → t < samples f → pair_of (get_or xs (t * f.channels + c) 0) ≡ (as_guessed f P sound c t, probability f P sound c t)

row-is : (f : Shape) (P : Params) (sound xs : List ℕ) (t : ℕ) → length xs ≡ samples f * f.channels → ArePlaced f P sound xs f.channels → t < samples f →
    map pair_of (take f.channels (drop (t * f.channels) xs)) ≡ symbols_at f P sound t f.channels
row-is f P sound xs t long placed lt =
    let n = f.channels in
    let at = t * n in
    let rest = drop at xs in
    let inside = row-inside t n (samples f) lt in
    let enough : n ≤ length rest = omega (arith, length-drop at xs) in
    let many = length-take-le n rest enough in
    fill_by_all (λ c. (as_guessed f P sound c t, probability f P sound c t)) (map pair_of (take n rest)) n (false, 0) (length-map (take n rest) pair_of ∙ many)
    (λ k h.
    let there : k < length (take n rest) = omega (arith, many) in
    get_or-map pair_of (take n rest) k 0 (false, 0) there ∙ ap pair_of (get_or-take n rest k 0 h ∙ get_or-drop at xs k 0) ∙ placed.each k t h lt)

rows-are : (f : Shape) (P : Params) (sound xs : List ℕ) → length xs ≡ samples f * f.channels → ArePlaced f P sound xs f.channels → (t : ℕ) → t ≤ samples f →
    all_pairs P (take (t * f.channels) xs) ≡ symbols_before f P sound false t
rows-are f P sound xs long placed zero le =
    let none : zero * f.channels ≡ 0 = omega arith in
    ap (λ n. all_pairs P (take n xs)) none ∙ sym (no_symbols f P sound false)
rows-are f P sound xs long placed (suc t) le =
    let n = f.channels in
    let next : suc t * n ≡ t * n + n = omega arith in
    let more = ap (λ ys. map pair_of ys) (take-add (t * n) n xs) ∙ map-append pair_of (take (t * n) xs) (take n (drop (t * n) xs)) in
    ap (λ m. all_pairs P (take m xs)) next ∙ ap (λ ys. (false, reserved_probability P) ∷ ys) more
    ∙ ap₂ (λ a b. a ++ b) (rows-are f P sound xs long placed t (omega arith)) (row-is f P sound xs t long placed (omega arith))
    ∙ sym (symbols_before-more f P sound false t) ∙ ap (symbols_before f P sound false) (add-one t)

pub all-placed : (f : Shape) (P : Params) (sound xs : List ℕ) → length xs ≡ samples f * f.channels → ArePlaced f P sound xs f.channels →
    all_pairs P xs ≡ symbols f P sound false
all-placed f P sound xs long placed =
    ap (all_pairs P) (sym (take_all (samples f * f.channels) xs (omega arith))) ∙ rows-are f P sound xs long placed (samples f) (omega arith)
    ∙ all_symbols f P sound false

-- ---- the byte of a sample
bit_back : (b : Bool) (p : ℕ) → 1 ≤ p → p ≤ 128 → pair_of (p % 128 + (if b then 128 else 0)) ≡ (b, p)
bit_back true p least most =
    let high : 128 ≤ p % 128 + 128 = omega arith in
    let low : (p % 128 + 128) % 128 ≡ p % 128 = omega arith in
    ap₂ (λ x y. (x, y)) (ap not (le-ltb (p % 128 + 128) 128 high)) (ap prob_in low ∙ prob_again p least most)
bit_back false p least most =
    let small : p % 128 + 0 < 128 = omega arith in
    let low : (p % 128 + 0) % 128 ≡ p % 128 = omega arith in
    ap₂ (λ x y. (x, y)) (ap not (lt-ltb (p % 128 + 0) 128 small)) (ap prob_in low ∙ prob_again p least most)

-- what a sample's code tells
pub record Tells (f : Shape) (P : Params) (sound : List ℕ) (c t code : ℕ) : Type 0 where
  pub guess : as_guessed f P sound c t ≡ nat_lt code 64
  pub probability_is : probability f P sound c t ≡ (if get_or P.half_prob c false && nat_lt t (length (filter_of P c)) then 128
      else get_or (probs_of P c) (min (code % 64) (length (probs_of P c) - 1)) 0)

pub byte-is : (f : Shape) (P : Params) (sound : List ℕ) (c t code : ℕ) (early : Bool) → IsTable prob_kind (map pos (probs_of P c)) → Tells f P sound c t code →
    early ≡ (get_or P.half_prob c false && nat_lt t (length (filter_of P c))) →
    pair_of (symbol_byte (probs_of P c) early code) ≡ (as_guessed f P sound c t, probability f P sound c t)
byte-is f P sound c t code early table tells is =
    let probs = probs_of P c in
    let place = min (code % 64) (length probs - 1) in
    let some : 1 ≤ length probs = omega (arith, table.least, length-map probs (λ x. pos x)) in
    let range = prob_in_range probs place table (omega arith) in
    back early (sym tells.guess) (ap (λ b. if b then 128 else get_or probs place 0) is ∙ sym tells.probability_is) range
  where
    back : (b : Bool) → nat_lt code 64 ≡ as_guessed f P sound c t →
        (if b then 128 else get_or (probs_of P c) (min (code % 64) (length (probs_of P c) - 1)) 0) ≡ probability f P sound c t →
        (1 ≤ get_or (probs_of P c) (min (code % 64) (length (probs_of P c) - 1)) 0)
        × (get_or (probs_of P c) (min (code % 64) (length (probs_of P c) - 1)) 0 ≤ 128) →
        pair_of (symbol_byte (probs_of P c) b code) ≡ (as_guessed f P sound c t, probability f P sound c t)
    back true g p range = bit_back (nat_lt code 64) 128 (omega arith) (omega arith) ∙ ap₂ (λ x y. (x, y)) g p
    back false g p range = bit_back (nat_lt code 64) (get_or (probs_of P c) (min (code % 64) (length (probs_of P c) - 1)) 0) range.0 range.1
        ∙ ap₂ (λ x y. (x, y)) g p

-- one channel more
pub placed-more : (f : Shape) (P : Params) (sound old new : List ℕ) (done : ℕ) → done < f.channels → ArePlaced f P sound old done →
    ((t : ℕ) → t < samples f → pair_of (get_or new (t * f.channels + done) 0) ≡ (as_guessed f P sound done t, probability f P sound done t)) →
    ((t d : ℕ) → t < samples f → d < f.channels → d ≢ done → get_or new (t * f.channels + d) 0 ≡ get_or old (t * f.channels + d) 0) →
    ArePlaced f P sound new (done + 1)
placed-more f P sound old new done lt placed here others = record {
  each = λ c t h k. at c t h k (cases_eq c done);
}
  where
    at : (c t : ℕ) → c < done + 1 → t < samples f → (c ≡ done) ⊎ (c ≡ done → ⊥) →
        pair_of (get_or new (t * f.channels + c) 0) ≡ (as_guessed f P sound c t, probability f P sound c t)
    at c t h k (inl is) = subst (λ n. pair_of (get_or new (t * f.channels + n) 0) ≡ (as_guessed f P sound n t, probability f P sound n t)) (sym is) (here t k)
    at c t h k (inr ne) = ap pair_of (others t c k (omega arith) ne) ∙ placed.each c t (omega arith) k
