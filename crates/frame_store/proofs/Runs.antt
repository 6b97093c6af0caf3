-- The symbols of some samples of all channels, and the steps that are theirs.
use Rattle.std.proofs.Common.{◌≡◌, ℕ, zero, suc, ◌+◌, ◌-◌, ◌*◌, ◌/◌, ◌%◌, ◌<◌, ◌≤◌, min, nat_lt, Bool, true, false, if◌then◌else◌, List, [], ◌∷◌, ◌++◌}
use Rattle.std.proofs.Common.{flat_map, length, get_or, take, refl, ap, ap₂, sym, subst, ◌∙◌, arith, add-one, lt-ltb, le-ltb, length-append}
use Rattle.std.proofs.Common.{length-take-le, get_or-take}
use Rattle.std.proofs.lemmas.Nat.{div-add-mod', mod_below}
use Rattle.std.proofs.lemmas.List.{append-nil, append_assoc, get_or_append_left, get_or-append_right}
use Rattle.std.proofs.lemmas.List.FromFn.{length-map-range_with_len, get_or-map-range_with_len}
use Rattle.std.proofs.lemmas.Grind.{flat_map-append}
use Rattle.std.specs.List.{range_with_len}
use Rattle.dst_spec.specs.Sample.{Shape}
use Rattle.dst_spec.specs.Header.{Params}
use Rattle.dst_spec.specs.Guess.{filter_of, probs_of, probability, as_guessed}
use Rattle.dst_spec.specs.Symbols.{symbols_at, symbols_before}
use Rattle.dst_spec.proofs.SymbolsBefore.{range-more, symbols_before-more}
use Rattle.arith_encoder.specs.Lanes.{IsStep, AreSteps}
use Rattle.channel_params.proofs.Early.{at_the_start}
use Rattle.frame_predictions.specs.Codes.{codes}
use Rattle.frame_predictions.specs.Predicting.{Predicted, nothing}
use Rattle.frame_store.specs.declared.coded.ChannelSteps.{ChannelSteps}
use Rattle.frame_store.specs.Coded.{AreCodeSteps, IsCoded, AreCoded, Stay, step_at}
use Rattle.frame_store.proofs.Placed.{Tells}

-- the symbols of `count` samples of each channel from sample `from` on
abbrev pub symbols_from : Shape → Params → List ℕ → ℕ → ℕ → List (Bool × ℕ)
symbols_from f P sound from count = flat_map (λ u. symbols_at f P sound u f.channels) (range_with_len from count)

-- one more sample of each channel
symbols_from-more : (f : Shape) (P : Params) (sound : List ℕ) (from n : ℕ) →
    symbols_from f P sound from (n + 1) ≡ symbols_from f P sound from n ++ symbols_at f P sound (from + n) f.channels
symbols_from-more f P sound from n =
    let g = λ (u : ℕ). symbols_at f P sound u f.channels in
    ap (flat_map g) (range-more from n) ∙ flat_map-append g (range_with_len from n) ((from + n) ∷ [])
    ∙ ap (λ xs. flat_map g (range_with_len from n) ++ xs) (append-nil (g (from + n)))

pub symbols-more : (f : Shape) (P : Params) (sound : List ℕ) (reserved : Bool) (from count : ℕ) →
    symbols_before f P sound reserved (from + count) ≡ symbols_before f P sound reserved from ++ symbols_from f P sound from count
symbols-more f P sound reserved from zero =
    let none : from + zero ≡ from = omega arith in
    ap (symbols_before f P sound reserved) none ∙ sym (append-nil (symbols_before f P sound reserved from))
symbols-more f P sound reserved from (suc n) =
    let before = symbols_before f P sound reserved in
    let next : from + suc n ≡ from + n + 1 = omega arith in
    ap before next ∙ symbols_before-more f P sound reserved (from + n)
    ∙ ap (λ xs. xs ++ symbols_at f P sound (from + n) f.channels) (symbols-more f P sound reserved from n)
    ∙ append_assoc (before from) (symbols_from f P sound from n) (symbols_at f P sound (from + n) f.channels)
    ∙ ap (λ xs. before from ++ xs) (sym (symbols_from-more f P sound from n))
    ∙ ap (λ k. before from ++ symbols_from f P sound from k) (add-one n)

symbols-long : (f : Shape) (P : Params) (sound : List ℕ) (from count : ℕ) → length (symbols_from f P sound from count) ≡ count * f.channels
symbols-long f P sound from zero = omega arith
symbols-long f P sound from (suc m) =
    let here = symbols_at f P sound from f.channels in
    let rest = symbols_from f P sound (from + 1) m in
    let symbol : ℕ → Bool × ℕ = λ c. (as_guessed f P sound c from, probability f P sound c from) in
    let row : length here ≡ f.channels = length-map-range_with_len symbol 0 f.channels in
    let next : suc m * f.channels ≡ f.channels + m * f.channels = omega arith in
    length-append here rest ∙ ap₂ (λ a b. a + b) row (symbols-long f P sound (from + 1) m) ∙ sym next

symbols-are : (f : Shape) (P : Params) (sound : List ℕ) (from count t c : ℕ) → t < count → c < f.channels →
    get_or (symbols_from f P sound from count) (t * f.channels + c) (false, 0) ≡ (as_guessed f P sound c (from + t), probability f P sound c (from + t))
symbols-are f P sound from zero t c h k = absurd (omega arith)
symbols-are f P sound from (suc m) zero c h k =
    let symbol : ℕ → Bool × ℕ = λ c. (as_guessed f P sound c from, probability f P sound c from) in
    let here = symbols_at f P sound from f.channels in
    let rest = symbols_from f P sound (from + 1) m in
    let place : zero * f.channels + c ≡ c = omega arith in
    let none : from ≡ from + zero = omega arith in
    let inside : c < length here = omega (arith, length-map-range_with_len symbol 0 f.channels) in
    ap (λ i. get_or (here ++ rest) i (false, 0)) place ∙ get_or_append_left here rest (false, 0) c inside
    ∙ get_or-map-range_with_len symbol 0 f.channels c c (false, 0) k (omega arith)
    ∙ ap (λ u. (as_guessed f P sound c u, probability f P sound c u)) none
symbols-are f P sound from (suc m) (suc t) c h k =
    let here = symbols_at f P sound from f.channels in
    let rest = symbols_from f P sound (from + 1) m in
    let symbol : ℕ → Bool × ℕ = λ c. (as_guessed f P sound c from, probability f P sound c from) in
    let row : length here ≡ f.channels = length-map-range_with_len symbol 0 f.channels in
    let next : suc t * f.channels + c ≡ f.channels + (t * f.channels + c) = omega arith in
    let back : suc t * f.channels + c - f.channels ≡ t * f.channels + c = omega arith in
    let later : from + 1 + t ≡ from + suc t = omega arith in
    get_or-append_right here rest f.channels (suc t * f.channels + c) (false, 0) row (omega arith)
    ∙ ap (λ i. get_or rest i (false, 0)) back ∙ symbols-are f P sound (from + 1) m t c (omega arith) k
    ∙ ap (λ u. (as_guessed f P sound c u, probability f P sound c u)) later

-- a part is steps where each sample's is that of its symbol
pub part-steps : (lane : ℕ) (steps : List (List ℕ)) (f : Shape) (P : Params) (sound : List ℕ) (from count n : ℕ) → n ≡ count * f.channels → 0 < f.channels →
    n ≤ length steps →
    ((t c : ℕ) → t < count → c < f.channels →
    IsStep (as_guessed f P sound c (from + t)) (probability f P sound c (from + t)) (get_or (get_or steps (t * f.channels + c) []) lane 0)) →
    AreSteps lane (take n steps) (symbols_from f P sound from count)
part-steps lane steps f P sound from count n is some le each =
    let many = length-take-le n steps le in
    let w = f.channels in
    record {
      long = symbols-long f P sound from count ∙ sym is ∙ sym many;
      each = λ k lt.
          let t = k / w in
          let c = k % w in
          let parts : t * w + c ≡ k = div-add-mod' k w in
          let low : c < w = mod_below k w some in
          let inside : k < count * w = omega (arith, many, is) in
          let small : t < count = row-of t c w count (omega arith) in
          let pair = ap (λ i. get_or (symbols_from f P sound from count) i (false, 0)) (sym parts) ∙ symbols-are f P sound from count t c small low in
          let step = ap (λ i. get_or (get_or steps i []) lane 0) parts ∙ sym (ap (λ r. get_or r lane 0) (get_or-take n steps k [] (omega arith))) in
          subst (λ q. IsStep q.0 q.1 (get_or (get_or (take n steps) k []) lane 0)) (sym pair)
          (subst (IsStep (as_guessed f P sound c (from + t)) (probability f P sound c (from + t))) step (each t c small low));
    }
  where
    row-of : (t c w count : ℕ) → t * w + c < count * w → t < count
    row-of t c w count h = grind arith

-- ---- the step of a sample
pub step-is : (f : Shape) (P : Params) (sound : List ℕ) (rows : List Predicted) (first : List ℕ) (coded : ChannelSteps) (c t code : ℕ) →
    IsCoded P rows c coded → AreCodeSteps (128 ∷ []) first → code < 128 → get_or (codes f sound c (filter_of P c)) t 0 ≡ code → Tells f P sound c t code →
    IsStep (as_guessed f P sound c t) (probability f P sound c t) (step_at f sound rows first coded t)
step-is f P sound rows first coded c t code h early small is tells =
    let at : get_or (codes f sound (get_or rows coded.row nothing).channel (get_or rows coded.row nothing).filter) t 0 ≡ code =
    ap (λ r. get_or (codes f sound r.channel r.filter) t 0) (h.is nothing) ∙ is in
    let start = at_the_start (get_or P.half_prob c false) t coded.early (length (filter_of P c)) h.early_is in
    let prob : (if nat_lt t coded.early then 128 else get_or (probs_of P c) (min (code % 64) (length (probs_of P c) - 1)) 0) ≡ probability f P sound c t =
    ap (λ b. if b then 128 else get_or (probs_of P c) (min (code % 64) (length (probs_of P c) - 1)) 0) start ∙ sym tells.probability_is in
    subst (λ b. IsStep b (probability f P sound c t) (step_at f sound rows first coded t)) (sym tells.guess)
    (subst (λ p. IsStep (nat_lt code 64) p (step_at f sound rows first coded t)) prob
    (subst (λ k. IsStep (nat_lt code 64) (if nat_lt t coded.early then 128 else get_or (probs_of P c) (min (code % 64) (length (probs_of P c) - 1)) 0)
    (get_or (if nat_lt t coded.early then first else coded.later) k 0)) (sym at) (either (nat_lt t coded.early))))
  where
    either : (b : Bool) → IsStep (nat_lt code 64) (if b then 128 else get_or (probs_of P c) (min (code % 64) (length (probs_of P c) - 1)) 0)
        (get_or (if b then first else coded.later) code 0)
    either true =
        let alone : min (code % 64) 0 ≡ 0 = omega arith in
        subst (λ i. IsStep (nat_lt code 64) (get_or (128 ∷ []) i 0) (get_or first code 0)) alone (early code small)
    either false = h.steps code small

-- ---- rows that stay
pub coded-stay : (P : Params) (old new : List Predicted) (c : ℕ) (coded : ChannelSteps) → Stay old new → IsCoded P old c coded → IsCoded P new c coded
coded-stay P old new c coded stay h =
    let more = stay.more in
    let inside = h.inside in
    record {
      inside = omega arith;
      is = λ other. stay.same coded.row other h.inside ∙ h.is other;
      table = h.table;
      early_is = h.early_is;
      steps = h.steps;
    }

pub all-stay : (P : Params) (old new : List Predicted) (coded : List ChannelSteps) (n : ℕ) → Stay old new → AreCoded P old coded n → AreCoded P new coded n
all-stay P old new coded n stay h = record { each = λ c other lt. coded-stay P old new c (get_or coded c other) stay (h.each c other lt) }

pub stay-both : (old now new : List Predicted) → Stay old now → Stay now new → Stay old new
stay-both old now new a b =
    let first = a.more in
    let second = b.more in
    record { more = omega arith; same = λ k other lt. b.same k other (omega arith) ∙ a.same k other lt }

pub stay-same : (rows : List Predicted) → Stay rows rows
stay-same rows = record { more = omega arith; same = λ k other lt. refl }

-- ---- an early sample, and a later one
pub step-early : (f : Shape) (sound : List ℕ) (rows : List Predicted) (first : List ℕ) (coded : ChannelSteps) (t code : ℕ) → t < coded.early →
    code ≡ get_or (codes f sound (get_or rows coded.row nothing).channel (get_or rows coded.row nothing).filter) t 0 →
    get_or first code 0 ≡ step_at f sound rows first coded t
step-early f sound rows first coded t code lt is =
    ap (λ k. get_or first k 0) is
    ∙ ap (λ b. get_or (if b then first else coded.later)
    (get_or (codes f sound (get_or rows coded.row nothing).channel (get_or rows coded.row nothing).filter) t 0) 0) (sym (lt-ltb t coded.early lt))

pub step-later : (f : Shape) (sound : List ℕ) (rows : List Predicted) (first : List ℕ) (coded : ChannelSteps) (t code : ℕ) → coded.early ≤ t →
    code ≡ get_or (codes f sound (get_or rows coded.row nothing).channel (get_or rows coded.row nothing).filter) t 0 →
    get_or coded.later code 0 ≡ step_at f sound rows first coded t
step-later f sound rows first coded t code le is =
    ap (λ k. get_or coded.later k 0) is
    ∙ ap (λ b. get_or (if b then first else coded.later)
    (get_or (codes f sound (get_or rows coded.row nothing).channel (get_or rows coded.row nothing).filter) t 0) 0) (sym (le-ltb t coded.early le))
