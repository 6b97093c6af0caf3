-- Filters and tables of picked parameters.
use Rattle.std.proofs.Common.{◌≡◌, ℕ, zero, suc, ◌+◌, ◌-◌, ◌^◌, ◌<◌, ◌≤◌, ℤ, pos, nat_abs, true, List, [], ◌∷◌, ◌++◌, length, map, get_or, take}
use Rattle.std.proofs.Common.{replicate, ◌==◌, refl, ap, ◌∙◌, arith}
use Rattle.std.proofs.lemmas.List.{take_at}
use Rattle.std.specs.List.{AllByRecursion, range_with_len, count_by}
use Rattle.dst_spec.specs.Sample.{Shape, samples}
use Rattle.dst_spec.proofs.Lists.{all_append}
use Rattle.dst_num.specs.Map.{params_of}
use Rattle.level_spec.specs.Correlation.{correlations}
use Rattle.level_spec.specs.Recursion.{after, solution}
use Rattle.level_spec.specs.Scale.{quantised}
use Rattle.level_spec.specs.Counts.{count_from, table_of, counted}
use Rattle.level_spec.specs.Picks.{channels_of, filter_for, per_channel, shared}
use Rattle.level_spec.specs.Laws.{AreCorrelations}
use Rattle.level_spec.proofs.Bounds.{after-small}
use Rattle.level_spec.proofs.Tables.{length-solution}
use Rattle.frame_predictions.specs.Codes.{code_at}
use Rattle.filter_refiner.proofs.Numbers.{each-most}
use Rattle.filter_analyser.specs.Run.{padded}
use Rattle.filter_analyser.proofs.Counting.{counted-is}

pub zeros-small : (n m : ℕ) → AllByRecursion (λ a. nat_abs a ≤ m) (replicate n (pos 0))
zeros-small zero m = tt
zeros-small (suc n) m = (omega arith, zeros-small n m)

pub solution-small : (lags : List ℤ) (order k : ℕ) → AreCorrelations lags → nat_abs (get_or (padded (solution lags order)) k (pos 0)) ≤ 2 ^ 40
unfolding solution
solution-small lags order k h =
    let P : ℤ → Type 0 = λ a. nat_abs a ≤ 2 ^ 40 in
    let values = (after lags order).values in
    let small = (after-small lags order h.least).values in
    let zeros = replicate (order - length values) (pos 0) in
    each-most (padded (values ++ zeros)) (2 ^ 40) k
    (all_append P (values ++ zeros) (replicate (128 - length (values ++ zeros)) (pos 0))
    (all_append P values zeros small (zeros-small (order - length values) (2 ^ 40))) (zeros-small (128 - length (values ++ zeros)) (2 ^ 40)))

pub filter-is : (f : Shape) (sound channels : List ℕ) (order : ℕ) (solved : List ℤ) → solved ≡ padded (solution (correlations f sound channels) order) →
    quantised (take order solved) ≡ filter_for f sound order channels
unfolding filter_for
filter-is f sound channels order solved e =
    let s = solution (correlations f sound channels) order in
    ap quantised (ap (take order) e ∙ take_at s (replicate (128 - length s) (pos 0)) order (length-solution (correlations f sound channels) order))

pub table-is : (f : Shape) (sound : List ℕ) (c : ℕ) (coefs : List ℤ) (counts : List ℕ)
    → ((q : ℕ) → q < 128 → get_or counts q 0 ≡ count_by (λ t. code_at f sound c coefs t == q) (range_with_len (length coefs) (samples f - length coefs)))
    → table_of (λ p. get_or counts p 0 + get_or counts (p + 64) 0) (λ p. get_or counts (p + 64) 0) ≡ counted f sound (c ∷ []) coefs
unfolding count_from
table-is f sound c coefs counts h = counted-is f sound (c ∷ []) coefs counts (λ q k. h q k ∙ omega arith)

pub first_numbers : (n : ℕ) → n ≤ 6 → take n (0 ∷ 1 ∷ 2 ∷ 3 ∷ 4 ∷ 5 ∷ []) ≡ range_with_len 0 n
first_numbers zero h = refl
first_numbers (suc zero) h = refl
first_numbers (suc (suc zero)) h = refl
first_numbers (suc (suc (suc zero))) h = refl
first_numbers (suc (suc (suc (suc zero)))) h = refl
first_numbers (suc (suc (suc (suc (suc zero))))) h = refl
first_numbers (suc (suc (suc (suc (suc (suc zero)))))) h = refl
first_numbers (suc (suc (suc (suc (suc (suc (suc n))))))) h = absurd (omega arith)

pub zero_numbers : (n : ℕ) → n ≤ 6 → take {A = ℕ} n (0 ∷ 0 ∷ 0 ∷ 0 ∷ 0 ∷ 0 ∷ []) ≡ replicate n 0
zero_numbers zero h = refl
zero_numbers (suc zero) h = refl
zero_numbers (suc (suc zero)) h = refl
zero_numbers (suc (suc (suc zero))) h = refl
zero_numbers (suc (suc (suc (suc zero)))) h = refl
zero_numbers (suc (suc (suc (suc (suc zero))))) h = refl
zero_numbers (suc (suc (suc (suc (suc (suc zero)))))) h = refl
zero_numbers (suc (suc (suc (suc (suc (suc (suc n))))))) h = absurd (omega arith)

-- the numbers of a map as they are taken from six ones
abbrev pub numbers_of : Shape → List ℕ
numbers_of f = take {A = ℕ} f.channels (0 ∷ 1 ∷ 2 ∷ 3 ∷ 4 ∷ 5 ∷ [])

abbrev pub zeros_of : Shape → List ℕ
zeros_of f = take {A = ℕ} f.channels (0 ∷ 0 ∷ 0 ∷ 0 ∷ 0 ∷ 0 ∷ [])

-- parameters with a filter and a table of each of the n channels
pub per_channel-is : (f : Shape) (sound : List ℕ) (order n : ℕ) (filters : List (List ℤ)) (probs : List (List ℕ)) → f.channels ≤ 6 → n ≡ f.channels →
    filters ≡ map (λ c. filter_for f sound order (c ∷ [])) (range_with_len 0 n) →
    probs ≡ map (λ c. counted f sound (c ∷ []) (filter_for f sound order (c ∷ []))) (range_with_len 0 n) →
    params_of (numbers_of f) (numbers_of f) (replicate f.channels true) filters probs ≡ per_channel f sound order
unfolding per_channel
per_channel-is f sound order n filters probs few all p q =
    let F : ℕ → List ℤ = λ c. filter_for f sound order (c ∷ []) in
    let G : ℕ → List ℕ = λ c. counted f sound (c ∷ []) (F c) in
    ap (λ m. params_of m m (replicate f.channels true) filters probs) (first_numbers f.channels few)
    ∙ ap (λ x. params_of (channels_of f) (channels_of f) (replicate f.channels true) x probs) (p ∙ ap (λ n. map F (range_with_len 0 n)) all)
    ∙ ap (params_of (channels_of f) (channels_of f) (replicate f.channels true) (map F (channels_of f))) (q ∙ ap (λ n. map G (range_with_len 0 n)) all)

-- parameters with one filter and one table
pub shared-is : (f : Shape) (sound : List ℕ) (order : ℕ) (filter : List ℤ) (table : List ℕ) (filters : List (List ℤ)) (probs : List (List ℕ)) →
    f.channels ≤ 6 → filters ≡ filter ∷ [] → probs ≡ table ∷ [] → filter ≡ filter_for f sound order (channels_of f) →
    table ≡ counted f sound (channels_of f) filter →
    params_of (zeros_of f) (zeros_of f) (replicate f.channels true) filters probs ≡ shared f sound order
unfolding shared
shared-is f sound order filter table filters probs few one only p q =
    let F = filter_for f sound order (channels_of f) in
    ap (λ m. params_of m m (replicate f.channels true) filters probs) (zero_numbers f.channels few)
    ∙ ap (λ x. params_of (replicate f.channels 0) (replicate f.channels 0) (replicate f.channels true) x probs) (one ∙ ap (λ x. x ∷ []) p)
    ∙ ap (params_of (replicate f.channels 0) (replicate f.channels 0) (replicate f.channels true) (F ∷ []))
    (only ∙ ap (λ x. x ∷ []) (q ∙ ap (counted f sound (channels_of f)) p))
