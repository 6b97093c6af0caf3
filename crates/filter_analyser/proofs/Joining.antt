-- Tables of refined filters: of channels with one filter, and of channels with a filter each.
use Rattle.std.proofs.Common.{◌≡◌, ℕ, zero, suc, ◌+◌, ◌-◌, ◌<◌, ◌≤◌, ◌==◌, ℤ, true, List, [], ◌∷◌, ◌++◌, length, map, get_or, replicate}
use Rattle.std.proofs.Common.{refl, ap, sym, ◌∙◌, arith}
use Rattle.std.proofs.lemmas.List.FromFn.{length-map-range_with_len, get_or-map-range_with_len}
use Rattle.std.specs.List.{count_by, range_with_len}
use Rattle.dst_spec.specs.Sample.{Shape, samples}
use Rattle.dst_num.specs.Map.{params_of}
use Rattle.level_spec.specs.Counts.{count_from, table_of, total, wrong}
use Rattle.level_spec.specs.Size.{shortened}
use Rattle.level_spec.specs.Refining.{short_table}
use Rattle.level_spec.specs.Picks.{channels_of, refined_together, refined_alone, refined_shared, refined_own, sum_of, one_table, refined_own_with_one_table}
use Rattle.frame_predictions.specs.Codes.{code_at}
use Rattle.filter_analyser.proofs.Counting.{counted-is, total-codes, wrong-codes, table_of-same}
use Rattle.filter_analyser.proofs.Picking.{first_numbers, zero_numbers, numbers_of, zeros_of}

-- one in its list
pub alone : {A : Type 0} (xs ys : List A) (x : A) → ys ≡ xs ++ x ∷ [] → xs ≡ [] → ys ≡ x ∷ []
alone xs ys x e h = e ∙ ap (λ t. t ++ x ∷ []) h

pub short-is : (f : Shape) (sound channels : List ℕ) (coefs : List ℤ) (counts : List ℕ)
    → ((q : ℕ) → q < 128 → get_or counts q 0 ≡ count_from (length coefs) f (λ c t. code_at f sound c coefs t == q) channels)
    → shortened (table_of (λ p. get_or counts p 0 + get_or counts (p + 64) 0) (λ p. get_or counts (p + 64) 0)) ≡ short_table f sound channels coefs
unfolding short_table
short-is f sound channels coefs counts h = ap shortened (counted-is f sound channels coefs counts h)

-- of n channels, which are all
pub short-of_all : (f : Shape) (sound : List ℕ) (n : ℕ) (coefs : List ℤ) (counts : List ℕ) → n ≡ f.channels
    → ((q : ℕ) → q < 128 → get_or counts q 0 ≡ count_from (length coefs) f (λ c t. code_at f sound c coefs t == q) (range_with_len 0 n))
    → shortened (table_of (λ p. get_or counts p 0 + get_or counts (p + 64) 0) (λ p. get_or counts (p + 64) 0)) ≡ short_table f sound (channels_of f) coefs
short-of_all f sound n coefs counts all h =
    short-is f sound (range_with_len 0 n) coefs counts h ∙ ap (λ n. short_table f sound (range_with_len 0 n) coefs) all

-- how often a code comes in a channel with its filter
abbrev pub codes_of : Shape → List ℕ → (ℕ → List ℤ) → ℕ → ℕ → ℕ
codes_of f sound filters c q = count_from (length (filters c)) f (λ d t. code_at f sound d (filters c) t == q) (c ∷ [])

pub codes_of-is : (f : Shape) (sound : List ℕ) (filters : ℕ → List ℤ) (c q : ℕ) →
    codes_of f sound filters c q ≡ count_by (λ t. code_at f sound c (filters c) t == q) (range_with_len (length (filters c)) (samples f - length (filters c)))
unfolding count_from
codes_of-is f sound filters c q = omega arith

pub sum_of-push : (counts : ℕ → ℕ → ℕ) (a n p : ℕ) → sum_of counts (range_with_len a (n + 1)) p ≡ sum_of counts (range_with_len a n) p + counts (a + n) p
unfolding sum_of
sum_of-push counts a zero p = let e : a ≡ a + 0 = omega arith in ap (λ c. counts c p + 0) e ∙ omega arith
sum_of-push counts a (suc n) p =
    let e : suc n + 1 ≡ suc (n + 1) = omega arith in
    let last : a + 1 + n ≡ a + suc n = omega arith in
    let rest = sum_of-push counts (a + 1) n p in
    ap (λ k. sum_of counts (range_with_len a k) p) e
    ∙ ap (λ k. counts a p + k) (rest ∙ ap (λ c. sum_of counts (range_with_len (a + 1) n) p + counts c p) last)
    ∙ omega arith

sum_of-parts : (counts parts : ℕ → ℕ → ℕ) (p q r : ℕ) (channels : List ℕ) → ((c : ℕ) → counts c p ≡ parts c q + parts c r)
    → sum_of counts channels p ≡ sum_of parts channels q + sum_of parts channels r
unfolding sum_of
sum_of-parts counts parts p q r [] h = refl
sum_of-parts counts parts p q r (c ∷ channels) h =
    let here = h c in
    let rest = sum_of-parts counts parts p q r channels h in
    omega arith

sum_of-same : (counts parts : ℕ → ℕ → ℕ) (p q : ℕ) (channels : List ℕ) → ((c : ℕ) → counts c p ≡ parts c q) → sum_of counts channels p ≡ sum_of parts channels q
unfolding sum_of
sum_of-same counts parts p q [] h = refl
sum_of-same counts parts p q (c ∷ channels) h =
    let here = h c in
    let rest = sum_of-same counts parts p q channels h in
    omega arith

pub one_table-is : (f : Shape) (sound : List ℕ) (filters : ℕ → List ℤ) (counts : List ℕ)
    → ((q : ℕ) → q < 128 → get_or counts q 0 ≡ sum_of (codes_of f sound filters) (channels_of f) q)
    → shortened (table_of (λ p. get_or counts p 0 + get_or counts (p + 64) 0) (λ p. get_or counts (p + 64) 0)) ≡ one_table f sound filters
unfolding one_table
one_table-is f sound filters counts h =
    let totals : ℕ → ℕ → ℕ = λ c. total f sound (c ∷ []) (filters c) in
    let wrongs : ℕ → ℕ → ℕ = λ c. wrong f sound (c ∷ []) (filters c) in
    let of = codes_of f sound filters in
    ap shortened (table_of-same (λ p. get_or counts p 0 + get_or counts (p + 64) 0) (λ p. get_or counts (p + 64) 0)
    (sum_of totals (channels_of f)) (sum_of wrongs (channels_of f))
    (λ p k.
    let a = h p (omega arith) in
    let b = h (p + 64) (omega arith) in
    let t = sum_of-parts totals of p p (p + 64) (channels_of f) (λ c. total-codes f sound (c ∷ []) (filters c) p k) in
    omega arith)
    (λ p k. h (p + 64) (omega arith) ∙ sym (sum_of-same wrongs of p (p + 64) (channels_of f) (λ c. wrong-codes f sound (c ∷ []) (filters c) p k))))

-- the filters of channels, each refined alone
pub each-long : (f : Shape) (sound : List ℕ) (filters : List (List ℤ)) → filters ≡ map (refined_alone f sound) (channels_of f) → length filters ≡ f.channels
each-long f sound filters e = ap length e ∙ length-map-range_with_len (refined_alone f sound) 0 f.channels

pub each-at : (f : Shape) (sound : List ℕ) (filters : List (List ℤ)) (c : ℕ) (d : List ℤ) → filters ≡ map (refined_alone f sound) (channels_of f)
    → c < f.channels →
    get_or filters c d ≡ refined_alone f sound c
each-at f sound filters c d e h =
    ap (λ xs. get_or xs c d) e ∙ get_or-map-range_with_len (refined_alone f sound) 0 f.channels c c d h (omega arith)

pub refined_shared-is : (f : Shape) (sound : List ℕ) (filter : List ℤ) (table : List ℕ) (filters : List (List ℤ)) (probs : List (List ℕ)) →
    f.channels ≤ 6 → filters ≡ filter ∷ [] → probs ≡ table ∷ [] → filter ≡ (refined_together f sound).best →
    table ≡ short_table f sound (channels_of f) filter →
    params_of (zeros_of f) (zeros_of f) (replicate f.channels true) filters probs ≡ refined_shared f sound
unfolding refined_shared
refined_shared-is f sound filter table filters probs few one only p q =
    let F = (refined_together f sound).best in
    ap (λ m. params_of m m (replicate f.channels true) filters probs) (zero_numbers f.channels few)
    ∙ ap (λ x. params_of (replicate f.channels 0) (replicate f.channels 0) (replicate f.channels true) x probs) (one ∙ ap (λ x. x ∷ []) p)
    ∙ ap (params_of (replicate f.channels 0) (replicate f.channels 0) (replicate f.channels true) (F ∷ []))
    (only ∙ ap (λ x. x ∷ []) (q ∙ ap (short_table f sound (channels_of f)) p))

pub refined_own-is : (f : Shape) (sound : List ℕ) (n : ℕ) (filters : List (List ℤ)) (probs : List (List ℕ)) → f.channels ≤ 6 → n ≡ f.channels →
    filters ≡ map (refined_alone f sound) (channels_of f) →
    probs ≡ map (λ c. short_table f sound (c ∷ []) (refined_alone f sound c)) (range_with_len 0 n) →
    params_of (numbers_of f) (numbers_of f) (replicate f.channels true) filters probs ≡ refined_own f sound
unfolding refined_own
refined_own-is f sound n filters probs few all p q =
    let G : ℕ → List ℕ = λ c. short_table f sound (c ∷ []) (refined_alone f sound c) in
    ap (λ m. params_of m m (replicate f.channels true) filters probs) (first_numbers f.channels few)
    ∙ ap (λ x. params_of (channels_of f) (channels_of f) (replicate f.channels true) x probs) p
    ∙ ap (params_of (channels_of f) (channels_of f) (replicate f.channels true) (map (refined_alone f sound) (channels_of f)))
    (q ∙ ap (λ n. map G (range_with_len 0 n)) all)

pub refined_joint-is : (f : Shape) (sound : List ℕ) (filters : List (List ℤ)) (table : List ℕ) (probs : List (List ℕ)) → f.channels ≤ 6 →
    filters ≡ map (refined_alone f sound) (channels_of f) → probs ≡ table ∷ [] → table ≡ one_table f sound (refined_alone f sound) →
    params_of (numbers_of f) (zeros_of f) (replicate f.channels true) filters probs ≡ refined_own_with_one_table f sound
unfolding refined_own_with_one_table
refined_joint-is f sound filters table probs few p only q =
    ap (λ m. params_of m (zeros_of f) (replicate f.channels true) filters probs) (first_numbers f.channels few)
    ∙ ap (λ m. params_of (channels_of f) m (replicate f.channels true) filters probs) (zero_numbers f.channels few)
    ∙ ap (λ x. params_of (channels_of f) (replicate f.channels 0) (replicate f.channels true) x probs) p
    ∙ ap (params_of (channels_of f) (replicate f.channels 0) (replicate f.channels true) (map (refined_alone f sound) (channels_of f)))
    (only ∙ ap (λ x. x ∷ []) q)
