-- Counts of samples by code, and from them totals and wrong guesses by place.
use Rattle.std.proofs.Common.{◌≡◌, ℕ, zero, suc, ◌+◌, ◌-◌, ◌*◌, ◌<◌, ◌≤◌, max, ℤ, pos, Bool, true, false, not, cond, ◌&&◌, ◌==◌, nat_lt, List, []}
use Rattle.std.proofs.Common.{◌∷◌, length, map, get_or, take, drop, refl, ap, sym, ◌∙◌, arith}
use Rattle.std.proofs.lemmas.Bool.Decides.{nat_tests}
use Rattle.std.proofs.lemmas.List.Sums.{count_by-le-length, sum_by-cons}
use Rattle.std.proofs.lemmas.List.{drop-map, get_or-drop}
use Rattle.std.proofs.lemmas.List.FromFn.{length-range_with_len, get_or-map-range_with_len}
use Rattle.std.specs.Int.{is_negative}
use Rattle.std.specs.List.{range_with_len, count_by}
use Rattle.dst_spec.specs.Sample.{Shape, sample, samples}
use Rattle.dst_spec.specs.Guess.{sum_before}
use Rattle.level_spec.specs.Scale.{last_place}
use Rattle.level_spec.specs.Counts.{place, is_wrong, count_from, total, wrong, entry, table_of, counted}
use Rattle.level_spec.proofs.Tables.{last_place-most}
use Rattle.frame_predictions.specs.Codes.{code_at, codes}

abbrev flag : Bool → ℕ
flag b = cond b 1 0

count_by-cons : (P : ℕ → Bool) (x : ℕ) (xs : List ℕ) → count_by P (x ∷ xs) ≡ flag (P x) + count_by P xs
count_by-cons P x xs = sum_by-cons (λ x. flag (P x)) x xs

-- a sum of two counts
pub count_by-parts : (P Q R : ℕ → Bool) (xs : List ℕ) → ((x : ℕ) → flag (P x) ≡ flag (Q x) + flag (R x)) → count_by P xs ≡ count_by Q xs + count_by R xs
count_by-parts P Q R [] h = refl
count_by-parts P Q R (x ∷ xs) h = let rest = count_by-parts P Q R xs h in let here =
    h x in omega (arith, count_by-cons P x xs, count_by-cons Q x xs, count_by-cons R x xs)

pub count_by-same : (P Q : ℕ → Bool) (xs : List ℕ) → ((x : ℕ) → flag (P x) ≡ flag (Q x)) → count_by P xs ≡ count_by Q xs
count_by-same P Q [] h = refl
count_by-same P Q (x ∷ xs) h = let rest = count_by-same P Q xs h in let here = h x in omega (arith, count_by-cons P x xs, count_by-cons Q x xs)

pub count_from-parts : (first : ℕ) (f : Shape) (P Q R : ℕ → ℕ → Bool) (channels : List ℕ) → ((c t : ℕ) → flag (P c t) ≡ flag (Q c t) + flag (R c t))
    → count_from first f P channels ≡ count_from first f Q channels + count_from first f R channels
unfolding count_from
count_from-parts first f P Q R [] h = refl
count_from-parts first f P Q R (c ∷ channels) h =
    let here = count_by-parts (P c) (Q c) (R c) (range_with_len first (samples f - first)) (h c) in
    let rest = count_from-parts first f P Q R channels h in
    omega arith

pub count_from-same : (first : ℕ) (f : Shape) (P Q : ℕ → ℕ → Bool) (channels : List ℕ) → ((c t : ℕ) → flag (P c t) ≡ flag (Q c t))
    → count_from first f P channels ≡ count_from first f Q channels
unfolding count_from
count_from-same first f P Q [] h = refl
count_from-same first f P Q (c ∷ channels) h =
    let here = count_by-same (P c) (Q c) (range_with_len first (samples f - first)) (h c) in
    let rest = count_from-same first f P Q channels h in
    omega arith

-- a place is a code of its own where the guess is right, and one 64 greater where it is wrong
split-right : (n p : ℕ) → n ≤ 63 → p < 64 → (flag (n == p) ≡ flag (n + 0 == p) + flag (n + 0 == p + 64)) × (flag ((n == p) && false) ≡ flag (n + 0 == p + 64))
split-right n p h k = (grind (arith, nat_tests), grind (arith, nat_tests))

split-wrong : (n p : ℕ) → n ≤ 63 → p < 64 → (flag (n == p) ≡ flag (n + 64 == p) + flag (n + 64 == p + 64)) × (flag ((n == p) && true) ≡ flag (n + 64 == p + 64))
split-wrong n p h k = (grind (arith, nat_tests), grind (arith, nat_tests))

split : (negative one : Bool) (n p : ℕ) → n ≤ 63 → p < 64 →
    (flag (n == p) ≡ flag (n + cond (cond negative (not one) one) 0 64 == p) + flag (n + cond (cond negative (not one) one) 0 64 == p + 64))
    × (flag ((n == p) && cond negative one (not one)) ≡ flag (n + cond (cond negative (not one) one) 0 64 == p + 64))
split true true n p h k = split-wrong n p h k
split true false n p h k = split-right n p h k
split false true n p h k = split-right n p h k
split false false n p h k = split-wrong n p h k

pub total-codes : (f : Shape) (sound channels : List ℕ) (coefs : List ℤ) (p : ℕ) → p < 64 →
    total f sound channels coefs p ≡ count_from (length coefs) f (λ c t. code_at f sound c coefs t == p) channels + count_from (length coefs) f
    (λ c t. code_at f sound c coefs t == p + 64) channels
total-codes f sound channels coefs p h =
    count_from-parts (length coefs) f (λ c t. place f sound c coefs t == p) (λ c t. code_at f sound c coefs t == p)
    (λ c t. code_at f sound c coefs t == p + 64) channels (λ c t.
    (split (is_negative (sum_before f sound c coefs (pos t))) (sample f sound c (pos t) == 1) (place f sound c coefs t) p (omega arith) h).0)

pub wrong-codes : (f : Shape) (sound channels : List ℕ) (coefs : List ℤ) (p : ℕ) → p < 64 →
    wrong f sound channels coefs p ≡ count_from (length coefs) f (λ c t. code_at f sound c coefs t == p + 64) channels
wrong-codes f sound channels coefs p h =
    count_from-same (length coefs) f (λ c t. (place f sound c coefs t == p) && is_wrong f sound c coefs t)
    (λ c t. code_at f sound c coefs t == p + 64) channels (λ c t.
    (split (is_negative (sum_before f sound c coefs (pos t))) (sample f sound c (pos t) == 1) (place f sound c coefs t) p (omega arith) h).1)

-- one more channel
pub count_from-next : (first : ℕ) (f : Shape) (test : ℕ → ℕ → Bool) (channels : List ℕ) (i : ℕ) → i < length channels →
    count_from first f test (take (i + 1) channels) ≡ count_from first f test (take i channels) + count_by (test (get_or channels i 0))
    (range_with_len first (samples f - first))
unfolding count_from
count_from-next first f test [] i h = absurd (omega arith)
count_from-next first f test (c ∷ channels) zero h = omega arith
count_from-next first f test (c ∷ channels) (suc i) h =
    let e : suc i + 1 ≡ suc (i + 1) = omega arith in
    let rest = count_from-next first f test channels i (omega arith) in
    ap (λ n. count_from first f test (take n (c ∷ channels))) e ∙ omega arith

pub count_from-most : (first : ℕ) (f : Shape) (test : ℕ → ℕ → Bool) (channels : List ℕ) → count_from first f test channels ≤ length channels * samples f
unfolding count_from
count_from-most first f test [] = omega arith
count_from-most first f test (c ∷ channels) =
    let here = count_by-le-length (test c) (range_with_len first (samples f - first)) in
    let long = length-range_with_len first (samples f - first) in
    let rest = count_from-most first f test channels in
    omega arith

-- the codes of a row from one on
drop-range : (a n k : ℕ) → drop k (range_with_len a n) ≡ range_with_len (a + k) (n - k)
drop-range a n zero = let e : a ≡ a + 0 = omega arith in let m : n ≡ n - 0 = omega arith in ap (λ b. range_with_len b n) e ∙ ap (range_with_len (a + 0)) m
drop-range a zero (suc k) = let m : 0 ≡ 0 - suc k = omega arith in ap (range_with_len (a + suc k)) m
drop-range a (suc n) (suc k) =
    let e : a + 1 + k ≡ a + suc k = omega arith in
    let m : n - k ≡ suc n - suc k = omega arith in
    drop-range (a + 1) n k ∙ ap (λ b. range_with_len b (n - k)) e ∙ ap (range_with_len (a + suc k)) m

count_by-map : (P : ℕ → Bool) (g : ℕ → ℕ) (xs : List ℕ) → count_by P (map g xs) ≡ count_by (λ x. P (g x)) xs
count_by-map P g [] = refl
count_by-map P g (x ∷ xs) = let rest = count_by-map P g xs in omega (arith, count_by-cons P (g x) (map g xs), count_by-cons (λ x. P (g x)) x xs)

pub count_by-codes : (f : Shape) (sound : List ℕ) (c : ℕ) (coefs : List ℤ) (first q : ℕ) →
    count_by (λ code. code == q) (drop first (codes f sound c coefs)) ≡ count_by (λ t. code_at f sound c coefs t == q)
    (range_with_len first (samples f - first))
unfolding codes
count_by-codes f sound c coefs first q =
    let g = code_at f sound c coefs in
    let z : 0 + first ≡ first = omega arith in
    ap (count_by (λ code. code == q)) (drop-map g first (range_with_len 0 (samples f))
    ∙ ap (map g) (drop-range 0 (samples f) first ∙ ap (λ b. range_with_len b (samples f - first)) z))
    ∙ count_by-map (λ code. code == q) g (range_with_len first (samples f - first))

code-most : (place : ℕ) (right : Bool) → place ≤ 63 → place + cond right 0 64 < 128
code-most place true h = omega arith
code-most place false h = omega arith

pub codes-small : (f : Shape) (sound : List ℕ) (c : ℕ) (coefs : List ℤ) (first k d : ℕ) → first + k < samples f →
    get_or (drop first (codes f sound c coefs)) k d < 128
unfolding codes
codes-small f sound c coefs first k d h =
    let t = first + k in
    let prediction = sum_before f sound c coefs (pos t) in
    let one = sample f sound c (pos t) == 1 in
    let is : get_or (drop first (map (code_at f sound c coefs) (range_with_len 0 (samples f)))) k d ≡ code_at f sound c coefs t =
    get_or-drop first (map (code_at f sound c coefs) (range_with_len 0 (samples f))) k d
    ∙ get_or-map-range_with_len (code_at f sound c coefs) 0 (samples f) t t d h (omega arith) in
    rw is (code-most (place f sound c coefs t) (cond (is_negative prediction) (not one) one) (omega arith))

-- tables of the same numbers
last_place-same : (P Q : ℕ → Bool) (n : ℕ) → ((p : ℕ) → p < n → P p ≡ Q p) → last_place P n ≡ last_place Q n
unfolding last_place
last_place-same P Q zero h = refl
last_place-same P Q (suc n) h =
    ap (λ b. cond b (suc n) (last_place P n)) (h n (omega arith)) ∙ ap (cond (Q n) (suc n)) (last_place-same P Q n (λ p k. h p (omega arith)))

map-same : (F G : ℕ → ℕ) (a n : ℕ) → ((p : ℕ) → p < a + n → F p ≡ G p) → map F (range_with_len a n) ≡ map G (range_with_len a n)
map-same F G a zero h = refl
map-same F G a (suc n) h =
    let rest = map-same F G (a + 1) n (λ p k. h p (omega arith)) in
    ap (λ x. x ∷ map F (range_with_len (a + 1) n)) (h a (omega arith)) ∙ ap (λ t. G a ∷ t) rest

pub table_of-same : (totals wrongs others more : ℕ → ℕ) → ((p : ℕ) → p < 64 → totals p ≡ others p) → ((p : ℕ) → p < 64 → wrongs p ≡ more p) →
    table_of totals wrongs ≡ table_of others more
table_of-same totals wrongs others more h k =
    let last = last_place-same (λ p. nat_lt 0 (totals p)) (λ p. nat_lt 0 (others p)) 64 (λ p l. ap (nat_lt 0) (h p l)) in
    let most = last_place-most (λ p. nat_lt 0 (others p)) 64 in
    ap (λ n. map (λ p. entry (totals p) (wrongs p)) (range_with_len 0 (max 2 n))) last
    ∙ map-same (λ p. entry (totals p) (wrongs p)) (λ p. entry (others p) (more p)) 0 (max 2 (last_place (λ p. nat_lt 0 (others p)) 64)) (λ p l.
    ap (λ t. entry t (wrongs p)) (h p (omega arith)) ∙ ap (entry (others p)) (k p (omega arith)))

pub counted-is : (f : Shape) (sound channels : List ℕ) (coefs : List ℤ) (counts : List ℕ)
    → ((q : ℕ) → q < 128 → get_or counts q 0 ≡ count_from (length coefs) f (λ c t. code_at f sound c coefs t == q) channels)
    → table_of (λ p. get_or counts p 0 + get_or counts (p + 64) 0) (λ p. get_or counts (p + 64) 0) ≡ counted f sound channels coefs
unfolding counted
counted-is f sound channels coefs counts h =
    table_of-same (λ p. get_or counts p 0 + get_or counts (p + 64) 0) (λ p. get_or counts (p + 64) 0) (total f sound channels coefs)
    (wrong f sound channels coefs)
    (λ p k. let a = h p (omega arith) in let b = h (p + 64) (omega arith) in let t = total-codes f sound channels coefs p k in omega arith)
    (λ p k. h (p + 64) (omega arith) ∙ sym (wrong-codes f sound channels coefs p k))

-- one more channel at the end
pub count_from-push : (first : ℕ) (f : Shape) (test : ℕ → ℕ → Bool) (a n : ℕ) →
    count_from first f test (range_with_len a (n + 1)) ≡ count_from first f test (range_with_len a n) + count_by (test (a + n))
    (range_with_len first (samples f - first))
unfolding count_from
count_from-push first f test a zero = let e : a ≡ a + 0 = omega arith in ap (λ c. count_by (test c) (range_with_len first (samples f - first)) + 0) e
    ∙ omega arith
count_from-push first f test a (suc n) =
    let e : suc n + 1 ≡ suc (n + 1) = omega arith in
    let last : a + 1 + n ≡ a + suc n = omega arith in
    let rest = count_from-push first f test (a + 1) n in
    ap (λ k. count_from first f test (range_with_len a k)) e
    ∙ ap (λ k. count_by (test a) (range_with_len first (samples f - first)) + k) (rest
    ∙ ap (λ c. count_from first f test (range_with_len (a + 1) n) + count_by (test c) (range_with_len first (samples f - first))) last)
    ∙ omega arith
