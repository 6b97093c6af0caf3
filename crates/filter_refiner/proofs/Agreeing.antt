-- From cells to how the samples of a channel agree with those so many places before.
use Rattle.std.proofs.Common.{◌≡◌, ◌≢◌, ℕ, zero, suc, ◌+◌, ◌-◌, ◌*◌, ◌/◌, ◌%◌, ◌^◌, ◌<◌, ◌≤◌}
use Rattle.std.proofs.Common.{◌==◌, cond, ℤ, pos, negsuc, neg_ℤ, ◌+ℤ◌, ◌-ℤ◌, ◌*ℤ◌, nat_abs, Bool, true, false}
use Rattle.std.proofs.Common.{List, get_or, inl, inr, refl, ap, sym, ◌∙◌, arith}
use Rattle.std.proofs.lemmas.Int.{ints}
use Rattle.std.proofs.lemmas.Bool.{cases_lt}
use Rattle.dst_spec.specs.Sample.{Shape, sample, samples}
use Rattle.dst_spec.specs.Guess.{signed}
use Rattle.dst_spec.proofs.Certain.{bit_of_turns}
use Rattle.level_spec.specs.Correlation.{sum_over, sign}
use Rattle.level_spec.specs.Refining.{weighted_agreement}
use Rattle.level_spec.proofs.Sums.{sum_over-same, sum_over-below}
use Rattle.filter_refiner.specs.Cells.{HasHistory, half, weighted, taken, in_cell, agreeing, place_before, bytes_before}
use Rattle.filter_refiner.proofs.Lengths.{test-true, test-false}
use Rattle.filter_refiner.proofs.Celled.{same-test, other-test}

-- sums of sums
sum_over-add : (F G : ℕ → ℤ) (first n : ℕ) → sum_over (λ t. F t +ℤ G t) first n ≡ sum_over F first n +ℤ sum_over G first n
unfolding sum_over
sum_over-add F G first zero = refl
sum_over-add F G first (suc n) = let rest = sum_over-add F G first n in omega (arith, ints)

sum_over-zero : (first n : ℕ) → sum_over (λ t. pos 0) first n ≡ pos 0
unfolding sum_over
sum_over-zero first zero = refl
sum_over-zero first (suc n) = let rest = sum_over-zero first n in omega (arith, ints)

-- of numbers that are 0 but at one place
pick-below : (F : ℕ → ℤ) (x n : ℕ) → n ≤ x → sum_over (λ v. cond (x == v) (F v) (pos 0)) 0 n ≡ pos 0
pick-below F x n h = sum_over-same (λ v. cond (x == v) (F v) (pos 0)) (λ v. pos 0) 0 n
    (λ v least most. let ne : x ≢ v = omega arith in ap (λ b. cond b (F v) (pos 0)) (other-test x v ne)) ∙ sum_over-zero 0 n

pick : (F : ℕ → ℤ) (x n : ℕ) → x < n → sum_over (λ v. cond (x == v) (F v) (pos 0)) 0 n ≡ F x
unfolding sum_over
pick F x zero h = absurd (omega arith)
pick F x (suc n) h = elim (cases_lt x n) [
  | inl less ↦
      let rest = pick F x n less in
      let ne : x ≢ 0 + n = omega arith in
      let last : cond (x == 0 + n) (F (0 + n)) (pos 0) ≡ pos 0 = ap (λ b. cond b (F (0 + n)) (pos 0)) (other-test x (0 + n) ne) in
      omega (arith, ints)
  | inr more ↦
      let rest = pick-below F x n (omega arith) in
      let here : x ≡ 0 + n = omega arith in
      let last : cond (x == 0 + n) (F (0 + n)) (pos 0) ≡ F x = ap (λ b. cond b (F (0 + n)) (pos 0)) (same-test x (0 + n) here) ∙ ap F (sym here) in
      omega (arith, ints)
]

signed-zero : (bit : ℕ) → signed bit (pos 0) ≡ pos 0
signed-zero bit = elim (bit == 1) as (λ b. cond b (pos 0) (neg_ℤ (pos 0)) ≡ pos 0) [ true ↦ refl | false ↦ refl ]

neg-add : (a b : ℤ) → neg_ℤ (a +ℤ b) ≡ neg_ℤ a +ℤ neg_ℤ b
neg-add a b = omega (arith, ints)

signed-add : (bit : ℕ) (a b : ℤ) → signed bit (a +ℤ b) ≡ signed bit a +ℤ signed bit b
signed-add bit a b = elim (bit == 1) as (λ t. cond t (a +ℤ b) (neg_ℤ (a +ℤ b)) ≡ cond t a (neg_ℤ a) +ℤ cond t b (neg_ℤ b)) [ true ↦ refl | false ↦ neg-add a b ]

signed-cond : (bit : ℕ) (b : Bool) (e : ℤ) → signed bit (cond b e (pos 0)) ≡ cond b (signed bit e) (pos 0)
signed-cond bit true e = refl
signed-cond bit false e = signed-zero bit

-- the values of a half byte, each with the numbers that were taken for it, and all numbers by their own half bytes
pub exchanged : (S : ℕ → ℕ) (H : ℕ → ℕ) (E : ℕ → ℤ) (n : ℕ) → ((m : ℕ) → H m < 16) →
    sum_over (λ v. signed (S v) (sum_over (λ m. cond (H m == v) (E m) (pos 0)) 0 n)) 0 16 ≡ sum_over (λ m. signed (S (H m)) (E m)) 0 n
unfolding sum_over
exchanged S H E zero h = sum_over-same (λ v. signed (S v) (pos 0)) (λ v. pos 0) 0 16 (λ v _ _. signed-zero (S v)) ∙ sum_over-zero 0 16
exchanged S H E (suc n) h =
    let A : ℕ → ℤ = λ v. signed (S v) (sum_over (λ m. cond (H m == v) (E m) (pos 0)) 0 n) in
    let B : ℕ → ℤ = λ v. cond (H (0 + n) == v) (signed (S v) (E (0 + n))) (pos 0) in
    let split = sum_over-same (λ v. signed (S v) (sum_over (λ m. cond (H m == v) (E m) (pos 0)) 0 n +ℤ cond (H (0 + n) == v) (E (0 + n)) (pos 0)))
    (λ v. A v +ℤ B v) 0 16 (λ v _ _. signed-add (S v) (sum_over (λ m. cond (H m == v) (E m) (pos 0)) 0 n) (cond (H (0 + n) == v) (E (0 + n)) (pos 0))
    ∙ ap (λ z. A v +ℤ z) (signed-cond (S v) (H (0 + n) == v) (E (0 + n)))) in
    split ∙ sum_over-add A B 0 16
    ∙ ap (λ z. z +ℤ sum_over B 0 16) (exchanged S H E n h)
    ∙ ap (λ z. sum_over (λ m. signed (S (H m)) (E m)) 0 n +ℤ z) (pick (λ v. signed (S v) (E (0 + n))) (H (0 + n)) 16 (h (0 + n)))

-- a lane's samples by one bit of a half byte
pub agreeing-is : (cells : List (List ℤ)) (bytes : List ℕ) (W : ℕ → ℤ) (n k bit lane : ℕ) → k < 34 → lane < 8 →
    ((cell lane : ℕ) → cell < 544 → lane < 8 → in_cell cells cell lane ≡ sum_over (λ m. taken bytes m cell (W (8 * m + lane))) 0 n) →
    agreeing cells k bit lane ≡ sum_over (λ m. signed (half bytes m k / 2 ^ bit % 2) (W (8 * m + lane))) 0 n
agreeing-is cells bytes W n k bit lane back near known =
    let S : ℕ → ℕ = λ v. v / 2 ^ bit % 2 in
    let H : ℕ → ℕ = λ m. half bytes m k in
    let E : ℕ → ℤ = λ m. W (8 * m + lane) in
    sum_over-same (λ v. signed (S v) (in_cell cells (16 * k + v) lane)) (λ v. signed (S v) (sum_over (λ m. cond (H m == v) (E m) (pos 0)) 0 n)) 0 16
    (λ v least most. ap (signed (S v)) (known (16 * k + v) lane (omega arith) near
    ∙ sum_over-same (λ m. taken bytes m (16 * k + v) (E m)) (λ m. cond (H m == v) (E m) (pos 0)) 0 n
    (λ m _ _. (let j : (16 * k + v) / 16 ≡ k = omega arith in ap (λ j. cond (half bytes m j == (16 * k + v) % 16) (E m) (pos 0)) j)
    ∙ (let r : (16 * k + v) % 16 ≡ v = omega arith in ap (λ r. cond (H m == r) (E m) (pos 0)) r))))
    ∙ exchanged S H E n (λ m. omega arith)

-- eight lanes of bytes are all samples in turn
shift : (F : ℕ → ℤ) (a n : ℕ) → sum_over (λ t. F (a + t)) 0 n ≡ sum_over F a n
unfolding sum_over
shift F a zero = refl
shift F a (suc n) = let rest = shift F a n in let z : 0 + n ≡ n = omega arith in let e : F (a + (0 + n)) ≡ F (a + n) =
    ap (λ k. F (a + k)) z in omega (arith, ints)

pub joined : (F : ℕ → ℤ) (first a b : ℕ) → sum_over F first (a + b) ≡ sum_over F first a +ℤ sum_over F (first + a) b
unfolding sum_over
joined F first a zero = (let e : a + 0 ≡ a = omega arith in ap (sum_over F first) e) ∙ omega (arith, ints)
joined F first a (suc b) =
    let rest = joined F first a b in
    let e : a + suc b ≡ suc (a + b) = omega arith in
    let last : F (first + (a + b)) ≡ F (first + a + b) = (let q : first + (a + b) ≡ first + a + b = omega arith in ap F q) in
    ap (sum_over F first) e ∙ omega (arith, ints)

pub interleaved : (F : ℕ → ℤ) (n : ℕ) → sum_over (λ lane. sum_over (λ m. F (8 * m + lane)) 0 n) 0 8 ≡ sum_over F 0 (8 * n)
unfolding sum_over
interleaved F zero = sum_over-zero 0 8
interleaved F (suc n) =
    let e : 8 * suc n ≡ 8 * n + 8 = omega arith in
    sum_over-add (λ lane. sum_over (λ m. F (8 * m + lane)) 0 n) (λ lane. F (8 * (0 + n) + lane)) 0 8
    ∙ ap (λ z. z +ℤ sum_over (λ lane. F (8 * (0 + n) + lane)) 0 8) (interleaved F n)
    ∙ ap (λ z. sum_over F 0 (8 * n) +ℤ z) (shift F (8 * (0 + n)) 8 ∙ (let q : 8 * (0 + n) ≡ 0 + 8 * n = omega arith in ap (λ k. sum_over F k 8) q))
    ∙ sym (ap (sum_over F 0) e ∙ joined F 0 (8 * n) 8)

-- a bit of a half byte is that bit of its byte
half_bit : (B p : ℕ) → p < 8 → B / 2 ^ (4 - 4 * (p / 4)) % 16 / 2 ^ (3 - p % 4) % 2 ≡ B / 2 ^ (7 - p) % 2
half_bit B zero h = omega arith
half_bit B (suc zero) h = omega arith
half_bit B (suc (suc zero)) h = omega arith
half_bit B (suc (suc (suc zero))) h = omega arith
half_bit B (suc (suc (suc (suc zero)))) h = omega arith
half_bit B (suc (suc (suc (suc (suc zero))))) h = omega arith
half_bit B (suc (suc (suc (suc (suc (suc zero)))))) h = omega arith
half_bit B (suc (suc (suc (suc (suc (suc (suc zero))))))) h = omega arith
half_bit B (suc (suc (suc (suc (suc (suc (suc (suc p)))))))) h = absurd (omega arith)

-- the sample so many places before one of a lane
earlier : (f : Shape) (sound : List ℕ) (c : ℕ) (bytes : List ℕ) (m lane lag p back : ℕ) → HasHistory f sound c bytes → m < f.octets → lane < 8 →
    p < 8 → 8 * back + lane ≡ lag + p → back ≤ 16 → get_or bytes (m + 16 - back) 0 / 2 ^ (7 - p) % 2 ≡ sample f sound c (pos (8 * m + lane) -ℤ pos lag)
earlier f sound c bytes m lane lag p back has inside near few apart most = elim (cases_lt m back) [
  | inl before ↦
      let i : m + 16 - back < 16 = omega arith in
      let n = 8 * (back - m) - p - 1 in
      let e : pos (8 * m + lane) -ℤ pos lag ≡ negsuc n = omega (arith, ints) in
      let parity : (7 - p) % 2 ≡ n % 2 = omega arith in
      ap (λ b. b / 2 ^ (7 - p) % 2) (has.before (m + 16 - back) i) ∙ bit_of_turns (7 - p) (omega arith) ∙ parity ∙ sym (ap (sample f sound c) e)
  | inr behind ↦
      let u = 8 * m + lane - lag in
      let e : pos (8 * m + lane) -ℤ pos lag ≡ pos u = omega (arith, ints) in
      let byte : u / 8 ≡ m - back = omega arith in
      let place : u % 8 ≡ p = omega arith in
      let at : m + 16 - back ≡ m - back + 16 = omega arith in
      ap (λ i. get_or bytes i 0 / 2 ^ (7 - p) % 2) at ∙ ap (λ b. b / 2 ^ (7 - p) % 2) (has.each (m - back) (omega arith))
      ∙ sym (ap (sample f sound c) e ∙ ap (λ i. get_or sound (i * f.channels + c) 0 / 2 ^ (7 - u % 8) % 2) byte
      ∙ ap (λ k. get_or sound ((m - back) * f.channels + c) 0 / 2 ^ (7 - k) % 2) place)
]

-- where a sample before one of a lane stands
apart : (lane lag : ℕ) → lane < 8 → 1 ≤ lag → lag ≤ 128 →
    (place_before lane lag < 8) × (8 * bytes_before lane lag + lane ≡ lag + place_before lane lag) × (bytes_before lane lag ≤ 16)
apart lane lag near least most = (omega arith, omega arith, omega arith)

half-earlier : (f : Shape) (sound : List ℕ) (c : ℕ) (bytes : List ℕ) (m lane lag : ℕ) → HasHistory f sound c bytes → m < f.octets → lane < 8 →
    1 ≤ lag → lag ≤ 128 →
    half bytes m (2 * bytes_before lane lag + place_before lane lag / 4) / 2 ^ (3 - place_before lane lag % 4) % 2
    ≡ sample f sound c (pos (8 * m + lane) -ℤ pos lag)
half-earlier f sound c bytes m lane lag has inside near least most =
    let p = place_before lane lag in
    let back = bytes_before lane lag in
    let k = 2 * back + p / 4 in
    let far = apart lane lag near least most in
    let few : p < 8 = far.0 in
    let byte : k / 2 ≡ back = omega arith in
    let low : k % 2 ≡ p / 4 = omega arith in
    ap (λ b. get_or bytes (m + 16 - b) 0 / 2 ^ (4 - 4 * (k % 2)) % 16 / 2 ^ (3 - p % 4) % 2) byte
    ∙ ap (λ b. get_or bytes (m + 16 - back) 0 / 2 ^ (4 - 4 * b) % 16 / 2 ^ (3 - p % 4) % 2) low
    ∙ half_bit (get_or bytes (m + 16 - back) 0) p few
    ∙ earlier f sound c bytes m lane lag p back has inside near few far.1 far.2

-- a weight by two signs
signs : (a b w : ℕ) → signed b (signed a (pos w)) ≡ pos w *ℤ (signed a (pos 1) *ℤ signed b (pos 1))
signs a b w = elim (a == 1) as (λ x. signed b (cond x (pos w) (neg_ℤ (pos w))) ≡ pos w *ℤ (cond x (pos 1) (neg_ℤ (pos 1)) *ℤ signed b (pos 1))) [
  | true ↦ elim (b == 1) as (λ y. cond y (pos w) (neg_ℤ (pos w)) ≡ pos w *ℤ (pos 1 *ℤ cond y (pos 1) (neg_ℤ (pos 1)))) [
    | true ↦ omega (arith, ints)
    | false ↦ omega (arith, ints)
  ]
  | false ↦ elim (b == 1) as (λ y. cond y (neg_ℤ (pos w)) (neg_ℤ (neg_ℤ (pos w))) ≡ pos w *ℤ (neg_ℤ (pos 1) *ℤ cond y (pos 1) (neg_ℤ (pos 1)))) [
    | true ↦ omega (arith, ints)
    | false ↦ omega (arith, ints)
  ]
]

-- the sums of cells of a channel's bytes are how its samples agree with those before them
pub lag-is : (f : Shape) (sound codes weights : List ℕ) (c first j : ℕ) (cells : List (List ℤ)) (bytes : List ℕ) → HasHistory f sound c bytes →
    first ≤ samples f → j < 128 →
    ((cell lane : ℕ) → cell < 544 → lane < 8 →
    in_cell cells cell lane ≡ sum_over (λ m. taken bytes m cell (weighted bytes codes weights first (8 * m + lane))) 0 f.octets) →
    sum_over (λ lane. agreeing cells (2 * bytes_before lane (j + 1) + place_before lane (j + 1) / 4) (3 - place_before lane (j + 1) % 4) lane) 0 8
    ≡ weighted_agreement f sound (λ c t. get_or weights (get_or codes t 0) 0) first c j
lag-is f sound codes weights c first j cells bytes has few near known =
    let lag = j + 1 in
    let n = f.octets in
    let W : ℕ → ℤ = weighted bytes codes weights first in
    let F : ℕ → ℤ = λ t. signed (sample f sound c (pos t -ℤ pos lag)) (W t) in
    let G : ℕ → ℤ = λ t. pos (get_or weights (get_or codes t 0) 0) *ℤ (sign f sound c t *ℤ signed (sample f sound c (pos t -ℤ pos (j + 1))) (pos 1)) in
    let whole : 8 * n ≡ first + (samples f - first) = omega arith in
    sum_over-same (λ lane. agreeing cells (2 * bytes_before lane lag + place_before lane lag / 4) (3 - place_before lane lag % 4) lane)
    (λ lane. sum_over (λ m. F (8 * m + lane)) 0 n) 0 8 (λ lane least most.
    agreeing-is cells bytes W n (2 * bytes_before lane lag + place_before lane lag / 4) (3 - place_before lane lag % 4) lane
    (let far = apart lane lag (omega arith) (omega arith) (omega arith) in omega arith) (omega arith) known
    ∙ sum_over-same (λ m. signed (half bytes m (2
    * bytes_before lane lag + place_before lane lag / 4) / 2 ^ (3 - place_before lane lag % 4) % 2) (W (8 * m + lane)))
    (λ m. F (8 * m + lane)) 0 n (λ m from below.
    ap (λ b. signed b (W (8 * m + lane))) (half-earlier f sound c bytes m lane lag has (omega arith) (omega arith) (omega arith) (omega arith))))
    ∙ interleaved F n
    ∙ ap (sum_over F 0) whole ∙ joined F 0 first (samples f - first)
    ∙ ap (λ z. z +ℤ sum_over F (0 + first) (samples f - first)) (sum_over-same F (λ t. pos 0) 0 first (λ t least most.
    ap (λ b. signed (sample f sound c (pos t -ℤ pos lag)) (cond b (pos 0)
    (signed (get_or bytes (t / 8 + 16) 0 / 2 ^ (7 - t % 8) % 2) (pos (get_or weights (get_or codes t 0) 0))))) (test-true t first (omega arith))
    ∙ signed-zero (sample f sound c (pos t -ℤ pos lag))) ∙ sum_over-zero 0 first)
    ∙ (let z : 0 + first ≡ first = omega arith in ap (λ k. pos 0 +ℤ sum_over F k (samples f - first)) z)
    ∙ (let e : pos 0 +ℤ sum_over F first (samples f - first) ≡ sum_over F first (samples f - first) = omega (arith, ints) in e)
    ∙ sum_over-same F G first (samples f - first) (λ t least most.
    ap (λ b. signed (sample f sound c (pos t -ℤ pos lag)) (cond b (pos 0)
    (signed (get_or bytes (t / 8 + 16) 0 / 2 ^ (7 - t % 8) % 2) (pos (get_or weights (get_or codes t 0) 0))))) (test-false t first least)
    ∙ ap (λ b. signed (sample f sound c (pos t -ℤ pos lag)) (signed (b / 2 ^ (7 - t % 8) % 2) (pos (get_or weights (get_or codes t 0) 0))))
    (has.each (t / 8) (omega arith))
    ∙ signs (sample f sound c (pos t)) (sample f sound c (pos t -ℤ pos lag)) (get_or weights (get_or codes t 0) 0))

term-most : (a b w : ℕ) → w ≤ 255 → nat_abs (pos w *ℤ (signed a (pos 1) *ℤ signed b (pos 1))) ≤ 255
term-most a b w h = elim (a == 1) as (λ x. nat_abs (pos w *ℤ (cond x (pos 1) (neg_ℤ (pos 1)) *ℤ signed b (pos 1))) ≤ 255) [
  | true ↦ elim (b == 1) as (λ y. nat_abs (pos w *ℤ (pos 1 *ℤ cond y (pos 1) (neg_ℤ (pos 1)))) ≤ 255) [
    | true ↦ omega (arith, ints)
    | false ↦ omega
        (arith, ints)
  ]
  | false ↦ elim (b == 1) as (λ y. nat_abs (pos w *ℤ (neg_ℤ (pos 1) *ℤ cond y (pos 1) (neg_ℤ (pos 1)))) ≤ 255) [
    | true ↦ omega (arith, ints)
    | false ↦
        omega (arith, ints)
  ]
]

pub agreement-most : (f : Shape) (sound codes weights : List ℕ) (c first j : ℕ) → ((i : ℕ) → get_or weights i 0 < 256) → samples f ≤ 150528 →
    nat_abs (weighted_agreement f sound (λ c t. get_or weights (get_or codes t 0) 0) first c j) ≤ 150528 * 255
agreement-most f sound codes weights c first j fits few =
    let each = sum_over-below (λ t. pos (get_or weights (get_or codes t 0) 0) *ℤ (sign f sound c t *ℤ signed (sample f sound c (pos t -ℤ pos (j + 1))) (pos 1)))
    first (samples f - first) 255 (λ t _ _. let w = fits (get_or codes t 0) in
    term-most (sample f sound c (pos t)) (sample f sound c (pos t -ℤ pos (j + 1))) (get_or weights (get_or codes t 0) 0) (omega arith)) in
    omega arith
