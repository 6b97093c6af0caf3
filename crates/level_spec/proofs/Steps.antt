-- Steps of the recursion: how many values there are, that a stop lasts, and that a step needs no later correlations.
use Rattle.std.proofs.Common.{◌≡◌, ℕ, zero, suc, ◌+◌, ◌-◌, ◌^◌, ◌≤◌, ℤ, pos, ◌-ℤ◌, ◌*ℤ◌, true, false, cond, List, [], length, refl, ap, ◌∙◌, arith}
use Rattle.std.proofs.Common.{length-append, add-suc}
use Rattle.std.proofs.lemmas.List.FromFn.{length-map-range_with_len}
use Rattle.level_spec.specs.Recursion.{State, lag, value, whole, begin, left_over, reflection, moved, stops, fallen, step, after}
use Rattle.level_spec.proofs.Sums.{sum_over-same}

pub length-moved : (values : List ℤ) (f : ℤ) (i : ℕ) → 1 ≤ i → length (moved values f i) ≡ i
unfolding moved
length-moved values f i h =
    let front = length-map-range_with_len (λ j. value values j -ℤ whole (f *ℤ value values (i - j))) 1 (i - 1) in
    omega (arith, front, length-append {A = ℤ})

-- a step in both its cases
pub by_step : (P : State → Type 0) (lags : List ℤ) (s : State) →
    (stops (reflection lags s (length s.values + 1)) (moved s.values (reflection lags s (length s.values + 1)) (length s.values + 1)) ≡ true → P s)
    → (stops (reflection lags s (length s.values + 1)) (moved s.values (reflection lags s (length s.values + 1)) (length s.values + 1)) ≡ false
    → P (record {
      error = fallen s.error (reflection lags s (length s.values + 1));
      values = moved s.values (reflection lags s (length s.values + 1)) (length s.values + 1);
    }))
    → P (step lags s)
unfolding step
by_step P lags s at_stop on =
    let i = length s.values + 1 in
    let f = reflection lags s i in
    let values = moved s.values f i in
    let next : State = record { error = fallen s.error f; values = values } in
    elim (stops f values) as (λ b. (stops f values ≡ b) → P (cond b s next)) [ true ↦ λ e. at_stop e | false ↦ λ e. on e ] refl

pub length-step : (lags : List ℤ) (s : State) → length (step lags s).values ≤ length s.values + 1
length-step lags s =
    let n = length s.values in
    by_step (λ t. length t.values ≤ n + 1) lags s (λ _. omega arith)
    (λ _. omega (arith, length-moved s.values (reflection lags s (n + 1)) (n + 1) (omega arith)))

pub length-after : (lags : List ℤ) (n : ℕ) → length (after lags n).values ≤ n
unfolding after begin
length-after lags zero = omega arith
length-after lags (suc n) = omega (arith, length-step lags (after lags n), length-after lags n)

-- a stop leaves all as it is, and so does every step after it
pub after-stop : (lags : List ℤ) (n m : ℕ) → step lags (after lags n) ≡ after lags n → after lags (n + m) ≡ after lags n
unfolding after
after-stop lags n zero h = ap (after lags) (omega arith)
after-stop lags n (suc m) h = ap (after lags) (add-suc n m) ∙ ap (step lags) (after-stop lags n m h) ∙ h

reflection-same : (lags others : List ℤ) (s : State) (i : ℕ) → ((k : ℕ) → k ≤ i → lag lags k ≡ lag others k) → reflection lags s i ≡ reflection others s i
unfolding reflection left_over
reflection-same lags others s i h =
    let here = h i (omega arith) in
    let there = sum_over-same (λ j. value s.values j *ℤ lag lags (i - j)) (λ j. value s.values j *ℤ lag others (i - j)) 1 (i - 1)
    (λ j least most. ap (λ r. value s.values j *ℤ r) (h (i - j) (omega arith))) in
    cc

pub step-same : (lags others : List ℤ) (s : State) → ((k : ℕ) → k ≤ length s.values + 1 → lag lags k ≡ lag others k) → step lags s ≡ step others s
unfolding step
step-same lags others s h =
    let i = length s.values + 1 in
    ap (λ f. let values = moved s.values f i in cond (stops f values) s (record { error = fallen s.error f; values = values }))
    (reflection-same lags others s i h)

pub after-same : (lags others : List ℤ) (n : ℕ) → ((k : ℕ) → k ≤ n → lag lags k ≡ lag others k) → after lags n ≡ after others n
unfolding after begin
after-same lags others zero h = ap (λ r. record { error = r *ℤ pos (2 ^ 24); values = [] }) (h 0 (omega arith))
after-same lags others (suc n) h =
    let few = length-after lags n in
    step-same lags others (after lags n) (λ k most. h k (omega arith)) ∙ ap (step others) (after-same lags others n (λ k most. h k (omega arith)))
