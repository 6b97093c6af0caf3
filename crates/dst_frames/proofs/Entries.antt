-- Entries of probabilities and guesses: of sums within the places of a probability table, and of those beyond.
use Rattle.std.proofs.Common.{◌≡◌, ◌≢◌, ℕ, ◌+◌, ◌-◌, ◌*◌, ◌/◌, ◌%◌, ◌<◌, ◌≤◌, min, ℤ, pos, negsuc, ◌-ℤ◌, nat_abs, true, false, List, length, get_or, set}
use Rattle.std.proofs.Common.{get_or-set_same, get_or-set_other, length-set, below_more, refl, ap, sym, ◌∙◌, arith, le-ltb, lt-ltb}
use Rattle.std.proofs.lemmas.Int.{ints}
use Rattle.std.specs.Int.{is_negative}
use Rattle.dst_frames.specs.Tables.{prob_at, IsEntry}

-- ---- of a probability and a guess
pub low_entry : (z : ℤ) (probs : List ℕ) (p : ℕ) → p ≡ prob_at probs z → 1 ≤ p → p ≤ 128 → is_negative z ≡ true → IsEntry z probs (p - 1)
low_entry z probs p is least most negative =
    let low : p - 1 < 128 = omega arith in
    let again : (p - 1) % 128 + 1 ≡ p = omega arith in
    record { prob = again ∙ is; guess = lt-ltb (p - 1) 128 low ∙ sym negative }

pub high_entry : (z : ℤ) (probs : List ℕ) (p : ℕ) → p ≡ prob_at probs z → 1 ≤ p → p ≤ 128 → is_negative z ≡ false → IsEntry z probs (p - 1 + 128)
high_entry z probs p is least most positive =
    let high : 128 ≤ p - 1 + 128 = omega arith in
    let again : (p - 1 + 128) % 128 + 1 ≡ p = omega arith in
    record { prob = again ∙ is; guess = le-ltb (p - 1 + 128) 128 high ∙ sym positive }

-- ---- beyond all places
far_prob : (z w : ℤ) (probs : List ℕ) → length probs ≤ 64 → 504 ≤ nat_abs z → 504 ≤ nat_abs w → prob_at probs z ≡ prob_at probs w
far_prob z w probs few a b =
    let first : min (nat_abs z / 8) (length probs - 1) ≡ length probs - 1 = omega arith in
    let second : min (nat_abs w / 8) (length probs - 1) ≡ length probs - 1 = omega arith in
    ap (λ i. get_or probs i 0) (first ∙ sym second)

sum_below : (x y : ℕ) → x < y → (is_negative (pos x -ℤ pos y) ≡ true) × (nat_abs (pos x -ℤ pos y) ≡ y - x)
sum_below x y lt = go (pos x -ℤ pos y) refl
  where
    go : (z : ℤ) → z ≡ pos x -ℤ pos y → (is_negative z ≡ true) × (nat_abs z ≡ y - x)
    go (pos n) e = absurd (omega (arith, ints, e, lt))
    go (negsuc n) e = (refl, omega (arith, ints, e, lt))

sum_above : (x y : ℕ) → y ≤ x → (is_negative (pos x -ℤ pos y) ≡ false) × (nat_abs (pos x -ℤ pos y) ≡ x - y)
sum_above x y le = go (pos x -ℤ pos y) refl
  where
    go : (z : ℤ) → z ≡ pos x -ℤ pos y → (is_negative z ≡ false) × (nat_abs z ≡ x - y)
    go (pos n) e = (le-ltb n 0 (omega arith), omega (arith, ints, e, le))
    go (negsuc n) e = absurd (omega (arith, ints, e, le))

pub far_below : (probs : List ℕ) (e x other y : ℕ) → length probs ≤ 64 → x + 504 ≤ y → other + 504 ≤ y → IsEntry (pos x -ℤ pos y) probs e →
    IsEntry (pos other -ℤ pos y) probs e
far_below probs e x other y few h k is =
    let a = sum_below x y (omega arith) in
    let b = sum_below other y (omega arith) in
    let far = far_prob (pos x -ℤ pos y) (pos other -ℤ pos y) probs few (omega (arith, a.1)) (omega (arith, b.1)) in
    record { prob = is.prob ∙ far; guess = is.guess ∙ a.0 ∙ sym b.0 }

pub far_above : (probs : List ℕ) (e x other y : ℕ) → length probs ≤ 64 → y + 504 ≤ x → y + 504 ≤ other → IsEntry (pos x -ℤ pos y) probs e →
    IsEntry (pos other -ℤ pos y) probs e
far_above probs e x other y few h k is =
    let a = sum_above x y (omega arith) in
    let b = sum_above other y (omega arith) in
    let far = far_prob (pos x -ℤ pos y) (pos other -ℤ pos y) probs few (omega (arith, a.1)) (omega (arith, b.1)) in
    record { prob = is.prob ∙ far; guess = is.guess ∙ a.0 ∙ sym b.0 }

-- ---- the entries of the first sums
pub record HasFirst (entries probs : List ℕ) (size count : ℕ) : Type 0 where
  pub long : length entries ≡ 32768
  pub first : (k : ℕ) → k < count → IsEntry (pos (2 * k) -ℤ pos size) probs (get_or entries k 0)

pub one_more : (entries probs : List ℕ) (size u x : ℕ) → u < 32768 → HasFirst entries probs size u → IsEntry (pos (2 * u) -ℤ pos size) probs x →
    HasFirst (set entries u x) probs size (u + 1)
one_more entries probs size u x h has own =
    let lt : u < length entries = omega (arith, has.long, h) in
    let P : ℕ → Type 0 = λ k. IsEntry (pos (2 * k) -ℤ pos size) probs (get_or (set entries u x) k 0) in
    let below : (k : ℕ) → k < u → P k = λ k l.
    let ne : k ≢ u = omega arith in
    rw (get_or-set_other entries u k x 0 ne) (has.first k l) in
    let here : P u = rw (get_or-set_same entries u x 0 lt) own in
    record { long = length-set entries u x ∙ has.long; first = λ k l. below_more P u below here k l }
