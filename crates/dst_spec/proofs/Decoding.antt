-- A code that lies in the whole interval has one sound, for given parameters.
use Rattle.std.proofs.Common.{◌≡◌, ◌≢◌, ℕ, zero, suc, ◌+◌, ◌-◌, ◌*◌, ◌/◌, ◌%◌, ◌<◌, ◌≤◌, ◌==◌, nat_lt, Bool, true, false, not, if◌then◌else◌, List}
use Rattle.std.proofs.Common.{[], ◌∷◌, ◌++◌, map, flat_map, refl, ap, ap₂, sym, subst, subst₂, ◌∙◌, arith, pos, eq-eqb, ne_eqb, div-add-mod'}
use Rattle.std.proofs.Common.{ltb-true, ltb-false}
use Rattle.std.proofs.lemmas.Nat.{mod-mul-add, div-mul-add, div_below}
use Rattle.std.specs.List.{range_with_len}
use Rattle.std.specs.Int.{is_negative}
use Rattle.dst_spec.specs.Bits.{bits, AreBits}
use Rattle.dst_spec.specs.Sample.{Shape, sample, samples}
use Rattle.dst_spec.specs.Header.{Params, IsParams, bit_of}
use Rattle.dst_spec.specs.Guess.{prediction, probability, as_guessed}
use Rattle.dst_spec.specs.Symbols.{reserved_probability, symbols}
use Rattle.dst_spec.specs.Interval.{Interval, part, narrowed, interval_from, IsWithin}
use Rattle.dst_spec.proofs.Intervals.{IsNormal, IsNormal-narrowed, IsNormal-interval_from, AreLawful, interval_from-append, within_doubled}
use Rattle.dst_spec.proofs.Intervals.{within_narrowed, within_front, within_part, IsPart-part, one_part}
use Rattle.dst_spec.proofs.Probabilities.{IsProb-probability}
use Rattle.dst_spec.proofs.Causal.{sound_of, sample-sound_of, probability-same, prediction-same, from_symbol, guessed_from}

-- ---- the symbols behind the reserved one, by place
abbrev pub pair_at : Shape → Params → List ℕ → ℕ → Bool × ℕ
pair_at f P sound k = (as_guessed f P sound (k % f.channels) (k / f.channels), probability f P sound (k % f.channels) (k / f.channels))

abbrev pub pairs_from : Shape → Params → List ℕ → ℕ → ℕ → List (Bool × ℕ)
pairs_from f P sound k n = map (pair_at f P sound) (range_with_len k n)

range-append : (a m n : ℕ) → range_with_len a (m + n) ≡ range_with_len a m ++ range_with_len (a + m) n
range-append a zero n =
    let x : zero + n ≡ n = omega arith in
    let y : a + zero ≡ a = omega arith in
    rw (x, y) refl
range-append a (suc m) n =
    let x : suc m + n ≡ suc (m + n) = omega arith in
    let y : a + suc m ≡ a + 1 + m = omega arith in
    rw (x, y) (ap (λ zs. a ∷ zs) (range-append (a + 1) m n))

map-append : {A B : Type 0} (g : A → B) (xs ys : List A) → map g (xs ++ ys) ≡ map g xs ++ map g ys
map-append g [] ys = refl
map-append g (x ∷ xs) ys = ap (λ zs. g x ∷ zs) (map-append g xs ys)

row : {B : Type 0} (g : ℕ → ℕ → B) (w a j m : ℕ) → j + m ≤ w →
    map (λ c. g c a) (range_with_len j m) ≡ map (λ k. g (k % w) (k / w)) (range_with_len (a * w + j) m)
row g w a j zero h = refl
row g w a j (suc m) h =
    let lt : j < w = omega arith in
    let next : a * w + j + 1 ≡ a * w + (j + 1) = omega arith in
    let rest = row g w a (j + 1) m (omega arith) in
    ap₂ (λ x xs. x ∷ xs) (sym (ap₂ g (mod-mul-add a w j lt) (div-mul-add a w j lt))) (rest
    ∙ ap (λ p. map (λ k. g (k % w) (k / w)) (range_with_len p m)) (sym next))

rows : {B : Type 0} (g : ℕ → ℕ → B) (w a n : ℕ) → flat_map (λ t. map (λ c. g c t) (range_with_len 0 w)) (range_with_len a n) ≡ map (λ k. g (k % w) (k / w))
    (range_with_len (a * w) (n * w))
rows g w a zero =
    let none : zero * w ≡ zero = omega arith in
    rw none refl
rows g w a (suc n) =
    let h = λ (k : ℕ). g (k % w) (k / w) in
    let size : suc n * w ≡ w + n * w = omega arith in
    let start : a * w + 0 ≡ a * w = omega arith in
    let next : a * w + w ≡ (a + 1) * w = omega arith in
    ap₂ (λ x y. x ++ y) (row g w a 0 w (omega arith) ∙ ap (λ p. map h (range_with_len p w)) start) (rows g w (a + 1) n
    ∙ ap (λ p. map h (range_with_len p (n * w))) (sym next))
    ∙ sym (map-append h (range_with_len (a * w) w) (range_with_len (a * w + w) (n * w)))
    ∙ ap (map h) (sym (range-append (a * w) w (n * w)))
    ∙ ap (λ m. map h (range_with_len (a * w) m)) (sym size)

pub symbols-by_place : (f : Shape) (P : Params) (sound : List ℕ) (e : Bool) →
    symbols f P sound e ≡ (e, reserved_probability P) ∷ pairs_from f P sound 0 (samples f * f.channels)
unfolding symbols
symbols-by_place f P sound e =
    let start : 0 * f.channels ≡ 0 = omega arith in
    ap (λ xs. (e, reserved_probability P) ∷ xs) (rows (λ c t. (as_guessed f P sound c t, probability f P sound c t)) f.channels 0 (samples f)
    ∙ ap (λ p. pairs_from f P sound p (samples f * f.channels)) start)

-- ---- sounds whose first k samples are the same have the same first k symbols, and the same prediction at k
abbrev pub sample_at : Shape → List ℕ → ℕ → ℕ
sample_at f sound k = sample f sound (k % f.channels) (pos (k / f.channels))

pub row_less : (u q w : ℕ) → u < q → u * w + w ≤ q * w
row_less u q w l = grind arith

less : (u q w c k : ℕ) → u < q → 0 < w → q * w + c ≡ k → u * w + c < k
less u q w c k l h e = omega (arith, row_less u q w l)

earlier_place : (w k u : ℕ) → 0 < w → u < k / w → (u * w + k % w < k) × ((u * w + k % w) % w ≡ k % w) × ((u * w + k % w) / w ≡ u)
earlier_place w k u h l =
    let c : k % w < w = omega arith in
    let whole_k = div-add-mod' k w in
    (less u (k / w) w (k % w) k l h whole_k, mod-mul-add u w (k % w) c, div-mul-add u w (k % w) c)

prediction_at : (f : Shape) (P : Params) (a b : List ℕ) (k : ℕ) → 0 < f.channels → ((j : ℕ) → j < k → sample_at f a j ≡ sample_at f b j) →
    prediction f P a (k % f.channels) (k / f.channels) ≡ prediction f P b (k % f.channels) (k / f.channels)
prediction_at f P a b k h same =
    prediction-same f P a b (k % f.channels) (k / f.channels)
    (λ u l.
    let p = earlier_place f.channels k u h l in
    subst₂ (λ c t. sample f a c (pos t) ≡ sample f b c (pos t)) p.1 p.2 (same (u * f.channels + k % f.channels) p.0))

pair_same : (f : Shape) (P : Params) (a b : List ℕ) (k : ℕ) → 0 < f.channels → ((j : ℕ) → j < k + 1 → sample_at f a j ≡ sample_at f b j) →
    pair_at f P a k ≡ pair_at f P b k
pair_same f P a b k h same =
    let c = k % f.channels in
    let t = k / f.channels in
    let predicted = prediction_at f P a b k h (λ j l. same j (omega arith)) in
    ap₂ (λ x y. (x, y)) (ap₂ (λ s z. if is_negative z then not (s == 1) else (s == 1)) (same k (omega arith)) predicted)
    (probability-same f P a b c t predicted)

pairs_same : (f : Shape) (P : Params) (a b : List ℕ) (k n : ℕ) → 0 < f.channels → ((j : ℕ) → j < k + n → sample_at f a j ≡ sample_at f b j) →
    pairs_from f P a k n ≡ pairs_from f P b k n
pairs_same f P a b k zero h same = refl
pairs_same f P a b k (suc n) h same =
    ap₂ (λ x xs. x ∷ xs) (pair_same f P a b k h (λ j l. same j (omega arith))) (pairs_same f P a b (k + 1) n h (λ j l. same j (omega arith)))

pairs_split : (f : Shape) (P : Params) (a : List ℕ) (k n total : ℕ) → k + suc n ≡ total →
    pairs_from f P a 0 total ≡ pairs_from f P a 0 k ++ pair_at f P a k ∷ pairs_from f P a (k + 1) n
pairs_split f P a k n total e =
    let start : 0 + k ≡ k = omega arith in
    ap (pairs_from f P a 0) (sym e) ∙ ap (map (pair_at f P a)) (range-append 0 k (suc n))
    ∙ map-append (pair_at f P a) (range_with_len 0 k) (range_with_len (0 + k) (suc n))
    ∙ ap (λ p. pairs_from f P a 0 k ++ pairs_from f P a p (suc n)) start

lawful_at : (f : Shape) (P : Params) (a : List ℕ) (k : ℕ) → IsParams f.channels P → 0 < f.channels → (1 ≤ (pair_at f P a k).1) × ((pair_at f P a k).1 ≤ 128)
lawful_at f P a k params h = IsProb-probability f P a (k % f.channels) (k / f.channels) params (omega arith)

pub lawful_from : (f : Shape) (P : Params) (a : List ℕ) (k n : ℕ) → IsParams f.channels P → 0 < f.channels → AreLawful (pairs_from f P a k n)
lawful_from f P a k zero params h = tt
lawful_from f P a k (suc n) params h = (lawful_at f P a k params h, lawful_from f P a (k + 1) n params h)

-- ---- one sound at most
same_sample : (n : Bool) (s u : ℕ) → s < 2 → u < 2 → (if n then not (s == 1) else (s == 1)) ≡ (if n then not (u == 1) else (u == 1)) → s ≡ u
same_sample n zero zero h k e = refl
same_sample n (suc zero) (suc zero) h k e = refl
same_sample true zero (suc zero) h k e = absurd cc
same_sample false zero (suc zero) h k e = absurd cc
same_sample true (suc zero) zero h k e = absurd cc
same_sample false (suc zero) zero h k e = absurd cc
same_sample n (suc (suc s)) u h k e = absurd (omega arith)
same_sample n s (suc (suc u)) h k e = absurd (omega arith)

pub first_symbol : (xs : List ℕ) (i : ℕ) (jk : Interval) (pair : Bool × ℕ) (rest : List (Bool × ℕ)) → AreBits xs → IsNormal jk →
    (1 ≤ pair.1) × (pair.1 ≤ 128) → AreLawful rest →
    IsWithin xs i (interval_from jk (pair ∷ rest)) → IsWithin xs i (part pair.0 pair.1 jk) × IsWithin xs i jk
unfolding interval_from
first_symbol xs i jk pair rest bits normal law rest_law w =
    let next = within_front xs i (narrowed jk pair) rest bits (IsNormal-narrowed jk pair.0 pair.1 law.0 law.1 normal) rest_law w in
    let at = within_narrowed xs i jk pair.0 pair.1 bits law.0 law.1 normal next in
    (at, within_part xs i jk (part pair.0 pair.1 jk) (IsPart-part pair.0 pair.1 jk law.0 law.1 normal) at)

pub same_samples : (f : Shape) (P : Params) (xs : List ℕ) (i : ℕ) (a b : List ℕ) (j : Interval) (total : ℕ) → IsParams f.channels P → 0 < f.channels →
    AreBits xs → IsNormal j →
    IsWithin xs i (interval_from j (pairs_from f P a 0 total)) → IsWithin xs i (interval_from j (pairs_from f P b 0 total)) →
    (k : ℕ) → k ≤ total → (m : ℕ) → m < k → sample_at f a m ≡ sample_at f b m
same_samples f P xs i a b j total params h bits normal u v zero l m k = absurd (omega arith)
same_samples f P xs i a b j total params h bits normal u v (suc k) l m less_than =
    let before = same_samples f P xs i a b j total params h bits normal u v k (omega arith) in
    go (nat_lt m k) refl before (here before)
  where
    here : ((m : ℕ) → m < k → sample_at f a m ≡ sample_at f b m) → sample_at f a k ≡ sample_at f b k
    here before =
        let n = total - suc k in
        let split : k + suc n ≡ total = omega arith in
        let jk = interval_from j (pairs_from f P a 0 k) in
        let front : pairs_from f P a 0 k ≡ pairs_from f P b 0 k = pairs_same f P a b 0 k h (λ m q. before m (omega arith)) in
        let p = probability f P a (k % f.channels) (k / f.channels) in
        let predicted = prediction_at f P a b k h before in
        let prob : probability f P b (k % f.channels) (k / f.channels) ≡ p = sym (probability-same f P a b (k % f.channels) (k / f.channels) predicted) in
        let law = lawful_at f P a k params h in
        let jk_normal = IsNormal-interval_from j (pairs_from f P a 0 k) normal (lawful_from f P a 0 k params h) in
        let at_a : IsWithin xs i (interval_from jk (pair_at f P a k ∷ pairs_from f P a (k + 1) n)) =
        subst (IsWithin xs i) (ap (interval_from j) (pairs_split f P a k n total split)
        ∙ interval_from-append j (pairs_from f P a 0 k) (pair_at f P a k ∷ pairs_from f P a (k + 1) n)) u in
        let at_b : IsWithin xs i (interval_from jk (pair_at f P b k ∷ pairs_from f P b (k + 1) n)) =
        subst (IsWithin xs i) (ap (interval_from j) (pairs_split f P b k n total split)
        ∙ interval_from-append j (pairs_from f P b 0 k) (pair_at f P b k ∷ pairs_from f P b (k + 1) n)
        ∙ ap (λ z. interval_from (interval_from j z) (pair_at f P b k ∷ pairs_from f P b (k + 1) n)) (sym front)) v in
        let a_symbol = first_symbol xs i jk (pair_at f P a k) (pairs_from f P a (k + 1) n) bits jk_normal law (lawful_from f P a (k + 1) n params h) at_a in
        let b_symbol = first_symbol xs i jk (pair_at f P b k) (pairs_from f P b (k + 1) n) bits jk_normal (lawful_at f P b k params h)
        (lawful_from f P b (k + 1) n params h) at_b in
        let inside = a_symbol.1 in
        let one = one_part xs i jk p law.0 law.1 jk_normal inside in
        let e_a = one.2 (as_guessed f P a (k % f.channels) (k / f.channels)) a_symbol.0 in
        let e_b = one.2 (as_guessed f P b (k % f.channels) (k / f.channels))
        (subst (λ q. IsWithin xs i (part (as_guessed f P b (k % f.channels) (k / f.channels)) q jk)) prob b_symbol.0) in
        let guesses = e_a ∙ sym e_b in
        let guesses_same = guesses ∙ ap (λ z. if is_negative z then not (sample_at f b k == 1) else (sample_at f b k == 1)) (sym predicted) in
        same_sample (is_negative (prediction f P a (k % f.channels) (k / f.channels))) (sample_at f a k) (sample_at f b k) (omega arith)
        (omega arith) guesses_same

    go : (t : Bool) → nat_lt m k ≡ t → ((m : ℕ) → m < k → sample_at f a m ≡ sample_at f b m) → sample_at f a k ≡ sample_at f b k →
        sample_at f a m ≡ sample_at f b m
    go true e before at = before m (ltb-true m k e)
    go false e before at =
        let last : k ≤ m = ltb-false m k e in
        let same : m ≡ k = omega arith in
        subst (λ z. sample_at f a z ≡ sample_at f b z) (sym same) at

-- ---- one sound at least: sample after sample
interval_from-one : (j : Interval) (pair : Bool × ℕ) → interval_from j (pair ∷ []) ≡ narrowed j pair
unfolding interval_from
interval_from-one j pair = refl

set_at : (ℕ → Bool) → ℕ → Bool → ℕ → Bool
set_at X k s j = if j == k then s else X j

set_at-other : (X : ℕ → Bool) (k : ℕ) (s : Bool) (j : ℕ) → j ≢ k → set_at X k s j ≡ X j
unfolding set_at
set_at-other X k s j h = rw (ne_eqb j k h) refl

set_at-same : (X : ℕ → Bool) (k : ℕ) (s : Bool) → set_at X k s k ≡ s
unfolding set_at
set_at-same X k s = rw (eq-eqb k k refl) refl

sample_made : (f : Shape) (X : ℕ → Bool) (k : ℕ) → 0 < f.channels → k < samples f * f.channels → sample_at f (sound_of f X) k ≡ bit_of (X k)
sample_made f X k h l =
    let t = k / f.channels in
    let c = k % f.channels in
    sample-sound_of f X c t (omega arith) (div_below k f.channels (samples f) h l) ∙ ap (λ z. bit_of (X z)) (div-add-mod' k f.channels)

pub made_sound : (f : Shape) (P : Params) (xs : List ℕ) (i : ℕ) (j : Interval) → IsParams f.channels P → 0 < f.channels → AreBits xs → IsNormal j →
    (n k : ℕ) → k + n ≡ samples f * f.channels →
    (X : ℕ → Bool) → IsWithin xs i (interval_from j (pairs_from f P (sound_of f X) 0 k)) →
    (Y : ℕ → Bool) × IsWithin xs i (interval_from j (pairs_from f P (sound_of f Y) 0 (samples f * f.channels)))
made_sound f P xs i j params h bits normal zero k e X w =
    let same : k ≡ samples f * f.channels = omega arith in
    (X, subst (λ z. IsWithin xs i (interval_from j (pairs_from f P (sound_of f X) 0 z))) same w)
made_sound f P xs i j params h bits normal (suc n) k e X w =
    let S = sound_of f X in
    let jk = interval_from j (pairs_from f P S 0 k) in
    let p = probability f P S (k % f.channels) (k / f.channels) in
    let law = lawful_at f P S k params h in
    let jk_normal = IsNormal-interval_from j (pairs_from f P S 0 k) normal (lawful_from f P S 0 k params h) in
    let one = one_part xs i jk p law.0 law.1 jk_normal w in
    let negative = is_negative (prediction f P S (k % f.channels) (k / f.channels)) in
    let Y = set_at X k (from_symbol negative one.0) in
    let T = sound_of f Y in
    let before : (m : ℕ) → m < k → sample_at f S m ≡ sample_at f T m = λ m l.
    let ne : m ≢ k = omega arith in
    sample_made f X m h (omega arith) ∙ ap bit_of (sym (set_at-other X k (from_symbol negative one.0) m ne)) ∙ sym (sample_made f Y m h (omega arith)) in
    let predicted = prediction_at f P S T k h before in
    let prob : p ≡ probability f P T (k % f.channels) (k / f.channels) = probability-same f P S T (k % f.channels) (k / f.channels) predicted in
    let made : sample_at f T k ≡ bit_of (from_symbol (is_negative (prediction f P T (k % f.channels) (k / f.channels))) one.0) =
    sample_made f Y k h (omega arith) ∙ ap bit_of (set_at-same X k (from_symbol negative one.0))
    ∙ ap (λ z. bit_of (from_symbol (is_negative z) one.0)) predicted in
    let symbol : as_guessed f P T (k % f.channels) (k / f.channels) ≡ one.0 = guessed_from f P T (k % f.channels) (k / f.channels) one.0 made in
    let pair : (one.0, p) ≡ pair_at f P T k = ap₂ (λ x y. (x, y)) (sym symbol) prob in
    let front : pairs_from f P S 0 k ≡ pairs_from f P T 0 k = pairs_same f P S T 0 k h (λ m l. before m (omega arith)) in
    let inside : IsWithin xs i (narrowed jk (one.0, p)) = (within_doubled 11 xs i (part one.0 p jk) bits).0 one.1 in
    let whole_list : interval_from j (pairs_from f P T 0 (k + 1)) ≡ narrowed jk (one.0, p) =
    ap (interval_from j) (pairs_split f P T k 0 (k + 1) (omega arith)) ∙ interval_from-append j (pairs_from f P T 0 k) (pair_at f P T k ∷ [])
    ∙ interval_from-one (interval_from j (pairs_from f P T 0 k)) (pair_at f P T k) ∙ ap₂ (λ z q. narrowed (interval_from j z) q) (sym front) (sym pair) in
    made_sound f P xs i j params h bits normal n (k + 1) (omega arith) Y (subst (IsWithin xs i) (sym whole_list) inside)
