-- A step of refining by a filter's counts.
use Rattle.std.proofs.Common.{◌≡◌, ℕ, zero, suc, ◌+◌, ◌-◌, ◌*◌, ◌^◌, ◌<◌, ◌≤◌, ◌==◌, ℤ, pos, ◌+ℤ◌, ◌-ℤ◌, ◌*ℤ◌, int_le, nat_lt, cond, Bool, true, false, List}
use Rattle.std.proofs.Common.{◌∷◌, length, map, get_or, Option, Some, None, not, take, length-take, inl, inr, refl, ap, sym, ◌∙◌, arith}
use Rattle.std.proofs.lemmas.Bool.{cases_lt}
use Rattle.std.proofs.lemmas.List.{get_or-take, get_or_past}
use Rattle.std.specs.Int.{is_negative}
use Rattle.std.specs.List.{range_with_len}
use Rattle.dst_spec.specs.Guess.{sum_before}
use Rattle.dst_spec.specs.Sample.{Shape, sample}
use Rattle.level_spec.specs.Correlation.{correlations}
use Rattle.level_spec.specs.Recursion.{State, lag}
use Rattle.level_spec.specs.Counts.{place, is_wrong, count_from, total, wrong, entry, table_of, counted}
use Rattle.level_spec.specs.Rows.{rows}
use Rattle.level_spec.specs.Solving.{solved}
use Rattle.level_spec.specs.Fitting.{fitted}
use Rattle.level_spec.specs.Size.{sum_below, place_bits, bits_of, entry_at, spelled_bits, size, shortened}
use Rattle.dst_spec.specs.Table.{filter_kind, prob_kind}
use Rattle.level_spec.specs.Refining.{agreement, power, weight, pull, target, moved_by, gradient, next_filter, short_table, filter_size, Refined, refine}
use Rattle.level_spec.proofs.Sums.{sum_over-same}
use Rattle.frame_predictions.specs.Codes.{code_at}
use Rattle.filter_refiner.proofs.Lengths.{test-true, test-false}
use Rattle.filter_analyser.proofs.Counting.{total-codes, wrong-codes, counted-is}
use Rattle.filter_analyser.proofs.Pulled.{gradient-same}

-- totals and wrong guesses by counts of codes
abbrev pub AreCounts : Shape → List ℕ → List ℕ → List ℤ → List ℕ → Type 0
AreCounts f sound channels coefs counts =
    (q : ℕ) → q < 128 → get_or counts q 0 ≡ count_from (length coefs) f (λ c t. code_at f sound c coefs t == q) channels

-- a code is counted as often in the same sound, with the same filter
pub counted-same : (f : Shape) (s sound channels : List ℕ) (d coefs : List ℤ) (q : ℕ) → s ≡ sound → d ≡ coefs →
    count_from (length d) f (λ c t. code_at f s c d t == q) channels ≡ count_from (length coefs) f (λ c t. code_at f sound c coefs t == q) channels
counted-same f s sound channels d coefs q a b =
    ap (λ s. count_from (length d) f (λ c t. code_at f s c d t == q) channels) a
    ∙ ap (λ d. count_from (length d) f (λ c t. code_at f sound c d t == q) channels) b

pub totals-are : (f : Shape) (sound channels : List ℕ) (coefs : List ℤ) (counts : List ℕ) (p : ℕ) → AreCounts f sound channels coefs counts → p < 64 →
    get_or counts p 0 + get_or counts (p + 64) 0 ≡ total f sound channels coefs p
totals-are f sound channels coefs counts p h k =
    let a = h p (omega arith) in let b = h (p + 64) (omega arith) in let t = total-codes f sound channels coefs p k in omega arith

pub wrongs-are : (f : Shape) (sound channels : List ℕ) (coefs : List ℤ) (counts : List ℕ) (p : ℕ) → AreCounts f sound channels coefs counts → p < 64 →
    get_or counts (p + 64) 0 ≡ wrong f sound channels coefs p
wrongs-are f sound channels coefs counts p h k = h (p + 64) (omega arith) ∙ sym (wrong-codes f sound channels coefs p k)

pub agreement-is : (f : Shape) (sound channels : List ℕ) (coefs : List ℤ) (counts : List ℕ) → AreCounts f sound channels coefs counts →
    agreement (λ p. get_or counts p 0 + get_or counts (p + 64) 0) (λ p. get_or counts (p + 64) 0)
    ≡ agreement (total f sound channels coefs) (wrong f sound channels coefs)
unfolding agreement
agreement-is f sound channels coefs counts h =
    sum_over-same (λ p. (pos (get_or counts p 0 + get_or counts (p + 64) 0) -ℤ pos (2 * get_or counts (p + 64) 0)) *ℤ pos (8 * p + 4))
    (λ p. (pos (total f sound channels coefs p) -ℤ pos (2 * wrong f sound channels coefs p)) *ℤ pos (8 * p + 4)) 0 64 (λ p least most.
    ap (λ n. (pos n -ℤ pos (2 * get_or counts (p + 64) 0)) *ℤ pos (8 * p + 4)) (totals-are f sound channels coefs counts p h (omega arith))
    ∙ ap (λ n. (pos (total f sound channels coefs p) -ℤ pos (2 * n)) *ℤ pos (8 * p + 4)) (wrongs-are f sound channels coefs counts p h (omega arith)))

pub power-is : (f : Shape) (sound channels : List ℕ) (coefs : List ℤ) (counts : List ℕ) → AreCounts f sound channels coefs counts →
    power (λ p. get_or counts p 0 + get_or counts (p + 64) 0) ≡ power (total f sound channels coefs)
unfolding power
power-is f sound channels coefs counts h =
    sum_over-same (λ p. pos ((get_or counts p 0 + get_or counts (p + 64) 0) * ((8 * p + 4) * (8 * p + 4))))
    (λ p. pos (total f sound channels coefs p * ((8 * p + 4) * (8 * p + 4)))) 0 64 (λ p least most.
    ap (λ n. pos (n * ((8 * p + 4) * (8 * p + 4)))) (totals-are f sound channels coefs counts p h (omega arith)))

sum_below-same : (F G : ℕ → ℕ) (n : ℕ) → ((p : ℕ) → p < n → F p ≡ G p) → sum_below F n ≡ sum_below G n
unfolding sum_below
sum_below-same F G zero h = refl
sum_below-same F G (suc n) h = let rest = sum_below-same F G n (λ p l. h p (omega arith)) in let last = h n (omega arith) in omega arith

-- the size of a filter by its counts
pub size-is : (f : Shape) (sound channels : List ℕ) (coefs : List ℤ) (counts : List ℕ) (m : ℕ) → AreCounts f sound channels coefs counts → m ≡ length channels →
    size coefs m (λ p. get_or counts p 0 + get_or counts (p + 64) 0) (λ p. get_or counts (p + 64) 0)
    (shortened (table_of (λ p. get_or counts p 0 + get_or counts (p + 64) 0) (λ p. get_or counts (p + 64) 0)))
    ≡ filter_size f sound channels coefs
unfolding filter_size short_table size
size-is f sound channels coefs counts m h e =
    let T : ℕ → ℕ = λ p. get_or counts p 0 + get_or counts (p + 64) 0 in
    let W : ℕ → ℕ = λ p. get_or counts (p + 64) 0 in
    let table : shortened (table_of T W) ≡ shortened (counted f sound channels coefs) = ap shortened (counted-is f sound channels coefs counts h) in
    let S = shortened (counted f sound channels coefs) in
    ap (λ t. size coefs m T W t) table ∙ ap (λ n. size coefs n T W S) e
    ∙ ap (λ n. 4096 * (spelled_bits filter_kind coefs + spelled_bits prob_kind (map pos S) + length channels * length coefs) + n)
    (sum_below-same (place_bits T W S) (place_bits (total f sound channels coefs) (wrong f sound channels coefs) S) 64 (λ p l.
    ap (λ t. W p * bits_of (entry_at S p) + (t - W p) * bits_of (256 - entry_at S p)) (totals-are f sound channels coefs counts p h l)
    ∙ ap (λ w. w * bits_of (entry_at S p) + (total f sound channels coefs p - w) * bits_of (256 - entry_at S p))
    (wrongs-are f sound channels coefs counts p h l)))

cut-at : (moves : List ℤ) (n j : ℕ) → ((j : ℕ) → n ≤ j → get_or moves j (pos 0) ≡ pos 0) → get_or (take n moves) j (pos 0) ≡ get_or moves j (pos 0)
cut-at moves n j rest = elim (cases_lt j n) [
  | inl less ↦ get_or-take n moves j (pos 0) less
  | inr more ↦ get_or_past (take n moves) j (pos 0) (omega (arith, length-take n moves)) ∙ sym (rest j more)
]

map-same : (F G : ℕ → ℤ) (a n : ℕ) → ((p : ℕ) → p < a + n → F p ≡ G p) → map F (range_with_len a n) ≡ map G (range_with_len a n)
map-same F G a zero h = refl
map-same F G a (suc n) h =
    let rest = map-same F G (a + 1) n (λ p k. h p (omega arith)) in
    ap (λ x. x ∷ map F (range_with_len (a + 1) n)) (h a (omega arith)) ∙ ap (λ t. G a ∷ t) rest

-- a step by sums and a gradient that are those of the filter
pub moved-is : (f : Shape) (sound channels : List ℕ) (coefs : List ℤ) (r0 sp pp : ℤ) (states : List State) (g : ℕ → ℤ)
    → r0 ≡ lag (correlations f sound channels) 0 →
    states ≡ rows (correlations f sound channels) 128 → sp ≡ agreement (total f sound channels coefs) (wrong f sound channels coefs)
    → pp ≡ power (total f sound channels coefs) →
    ((j : ℕ) → j < 128 → g j ≡ gradient f sound (λ c t. weight (total f sound channels coefs) (wrong f sound channels coefs) (place f sound c coefs t)
    (is_wrong f sound c coefs t))
    (length coefs) channels j) → moved_by r0 states sp pp g coefs ≡ next_filter f sound channels coefs
unfolding next_filter moved_by
moved-is f sound channels coefs r0 sp pp states g a b d e h =
    let T = total f sound channels coefs in
    let W = wrong f sound channels coefs in
    let lags = correlations f sound channels in
    let G : ℕ → ℤ = gradient f sound (λ c t. weight T W (place f sound c coefs t) (is_wrong f sound c coefs t)) (length coefs) channels in
    ap (λ ys. cond (int_le (sp *ℤ pos (2 ^ 13)) pp) None
    (elim (solved states ys) as (λ _. Option (List ℤ)) [ None ↦ None | Some d ↦ Some (fitted states (target coefs d)) ]))
    (map-same (λ j. pull r0 sp pp (g j) (get_or coefs j (pos 0))) (λ j. pull r0 sp pp (G j) (get_or coefs j (pos 0))) 0 128
    (λ j l. ap (λ z. pull r0 sp pp z (get_or coefs j (pos 0))) (h j (omega arith))))
    ∙ ap (λ r. moved_by r states sp pp G coefs) a ∙ ap (λ k. moved_by (lag lags 0) k sp pp G coefs) b
    ∙ ap (λ x. moved_by (lag lags 0) (rows lags 128) x pp G coefs) d ∙ ap (λ x. moved_by (lag lags 0) (rows lags 128) (agreement T W) x G coefs) e

pub moved-none : (r0 : ℤ) (states : List State) (sp pp : ℤ) (g : ℕ → ℤ) (coefs : List ℤ) → int_le (sp *ℤ pos (2 ^ 13)) pp ≡ true
    → moved_by r0 states sp pp g coefs ≡ None
unfolding moved_by
moved-none r0 states sp pp g coefs h =
    ap (λ b. cond b None (elim (solved states (map (λ j. pull r0 sp pp (g j) (get_or coefs j (pos 0))) (range_with_len 0 128))) as (λ _. Option (List ℤ)) [
      | None ↦ None
      | Some d ↦ Some (fitted states (target coefs d))
    ])) h

moved-solved : (r0 : ℤ) (states : List State) (sp pp : ℤ) (g : ℕ → ℤ) (coefs y : List ℤ) (answer : Option (List ℤ)) → int_le (sp *ℤ pos (2 ^ 13)) pp ≡ false →
    y ≡ map (λ j. pull r0 sp pp (g j) (get_or coefs j (pos 0))) (range_with_len 0 128) → solved states y ≡ answer →
    moved_by r0 states sp pp g coefs ≡ (elim answer as (λ _. Option (List ℤ)) [ None ↦ None | Some d ↦ Some (fitted states (target coefs d)) ])
unfolding moved_by
moved-solved r0 states sp pp g coefs y answer h e is =
    ap (λ b. cond b None (elim (solved states (map (λ j. pull r0 sp pp (g j) (get_or coefs j (pos 0))) (range_with_len 0 128))) as (λ _. Option (List ℤ)) [
      | None ↦ None
      | Some d ↦ Some (fitted states (target coefs d))
    ])) h
    ∙ ap (λ a. elim a as (λ _. Option (List ℤ)) [ None ↦ None | Some d ↦ Some (fitted states (target coefs d)) ]) (ap (solved states) (sym e) ∙ is)

-- values behind the answered ones are 0
pub target-cut : (coefs moves : List ℤ) (n : ℕ) → ((j : ℕ) → n ≤ j → get_or moves j (pos 0) ≡ pos 0) → target coefs (take n moves) ≡ target coefs moves
target-cut coefs moves n rest =
    map-same (λ j. get_or coefs j (pos 0) *ℤ pos (2 ^ 24) +ℤ get_or (take n moves) j (pos 0))
    (λ j. get_or coefs j (pos 0) *ℤ pos (2 ^ 24) +ℤ get_or moves j (pos 0)) 0 128
    (λ j l. ap (λ z. get_or coefs j (pos 0) *ℤ pos (2 ^ 24) +ℤ z) (cut-at moves n j rest))

-- the weight of a code is that of its place
weight-of : (weights : List ℕ) (T W : ℕ → ℕ) (p : ℕ) (negative one : Bool) → get_or weights p 0 ≡ weight T W p false
    → get_or weights (p + 64) 0 ≡ weight T W p true →
    get_or weights (p + cond (cond negative (not one) one) 0 64) 0 ≡ weight T W p (cond negative one (not one))
weight-of weights T W p true true a b = b
weight-of weights T W p true false a b = (let e : p + 0 ≡ p = omega arith in ap (λ q. get_or weights q 0) e) ∙ a
weight-of weights T W p false true a b = (let e : p + 0 ≡ p = omega arith in ap (λ q. get_or weights q 0) e) ∙ a
weight-of weights T W p false false a b = b

weights-are : (f : Shape) (sound channels : List ℕ) (coefs : List ℤ) (counts weights : List ℕ) → AreCounts f sound channels coefs counts →
    ((p : ℕ) → p < 64 → get_or weights p 0 ≡ weight (λ p. get_or counts p 0 + get_or counts (p + 64) 0) (λ p. get_or counts (p + 64) 0) p false) →
    ((p : ℕ) → p < 64 → get_or weights (p + 64) 0 ≡ weight (λ p. get_or counts p 0 + get_or counts (p + 64) 0) (λ p. get_or counts (p + 64) 0) p true) →
    (c t : ℕ) → get_or weights (code_at f sound c coefs t) 0
    ≡ weight (total f sound channels coefs) (wrong f sound channels coefs) (place f sound c coefs t) (is_wrong f sound c coefs t)
weights-are f sound channels coefs counts weights h right wrongly c t =
    let p = place f sound c coefs t in
    let few : p < 64 = omega arith in
    let T = total f sound channels coefs in
    let W = wrong f sound channels coefs in
    let e : entry (get_or counts p 0 + get_or counts (p + 64) 0) (get_or counts (p + 64) 0) ≡ entry (T p) (W p) =
    ap (λ n. entry n (get_or counts (p + 64) 0)) (totals-are f sound channels coefs counts p h few)
    ∙ ap (entry (T p)) (wrongs-are f sound channels coefs counts p h few) in
    weight-of weights T W p (is_negative (sum_before f sound c coefs (pos t))) (sample f sound c (pos t) == 1) (right p few ∙ e)
    (wrongly p few ∙ ap (λ x. 256 - x) e)

-- a step by what is made of a filter's counts, where they agree more than a little
pub next-solved : (f : Shape) (sound channels : List ℕ) (coefs : List ℤ) (counts weights : List ℕ) (r0 sp pp : ℤ) (states : List State)
    (grad pulls : List ℤ) (answer : Option (List ℤ)) →
    AreCounts f sound channels coefs counts → r0 ≡ lag (correlations f sound channels) 0 → states ≡ rows (correlations f sound channels) 128 →
    sp ≡ agreement (λ p. get_or counts p 0 + get_or counts (p + 64) 0) (λ p. get_or counts (p + 64) 0) →
    pp ≡ power (λ p. get_or counts p 0 + get_or counts (p + 64) 0) →
    ((p : ℕ) → p < 64 → get_or weights p 0 ≡ weight (λ p. get_or counts p 0 + get_or counts (p + 64) 0) (λ p. get_or counts (p + 64) 0) p false) →
    ((p : ℕ) → p < 64 → get_or weights (p + 64) 0 ≡ weight (λ p. get_or counts p 0 + get_or counts (p + 64) 0) (λ p. get_or counts (p + 64) 0) p true) →
    ((j : ℕ) → j < 128 → get_or grad j (pos 0) ≡ gradient f sound (λ c t. get_or weights (code_at f sound c coefs t) 0) (length coefs) channels j) →
    int_le (sp *ℤ pos (2 ^ 13)) pp ≡ false →
    pulls ≡ map (λ j. pull r0 sp pp (get_or grad j (pos 0)) (get_or coefs j (pos 0))) (range_with_len 0 128) → solved states pulls ≡ answer →
    next_filter f sound channels coefs ≡ (elim answer as (λ _. Option (List ℤ)) [ None ↦ None | Some d ↦ Some (fitted states (target coefs d)) ])
next-solved f sound channels coefs counts weights r0 sp pp states grad pulls answer h first row a p right wrongly g test is solution =
    let G : ℕ → ℤ = λ j. get_or grad j (pos 0) in
    let V : ℕ → ℕ → ℕ = λ c t. get_or weights (code_at f sound c coefs t) 0 in
    let W : ℕ → ℕ → ℕ = λ c t.
    weight (total f sound channels coefs) (wrong f sound channels coefs) (place f sound c coefs t) (is_wrong f sound c coefs t) in
    let are = weights-are f sound channels coefs counts weights h right wrongly in
    let step = moved-is f sound channels coefs r0 sp pp states G first row (a ∙ agreement-is f sound channels coefs counts h)
    (p ∙ power-is f sound channels coefs counts h) (λ j k. g j k ∙ gradient-same f sound V W (length coefs) channels j are) in
    sym step ∙ moved-solved r0 states sp pp G coefs pulls answer test is solution

-- a step of refining
refine-none : (next : List ℤ → Option (List ℤ)) (sizes : List ℤ → ℕ) (n : ℕ) (r : Refined) → next r.last ≡ None → refine next sizes n r ≡ r
unfolding refine
refine-none next sizes zero r h = refl
refine-none next sizes (suc n) r h = ap (λ a. elim a as (λ _. Refined) [
  | None ↦ r
  | Some q ↦ refine next sizes n (record { best = cond (nat_lt (sizes q) (sizes r.best)) q r.best; last = q })
]) h

refine-some : (next : List ℤ → Option (List ℤ)) (sizes : List ℤ → ℕ) (n m : ℕ) (r : Refined) (q : List ℤ) → n ≡ m + 1 → next r.last ≡ Some q →
    refine next sizes n r ≡ refine next sizes m (record { best = cond (nat_lt (sizes q) (sizes r.best)) q r.best; last = q })
unfolding refine
refine-some next sizes n m r q e h =
    let one : n ≡ suc m = omega arith in
    ap (λ k. refine next sizes k r) one ∙ ap (λ a. elim a as (λ _. Refined) [
      | None ↦ r
      | Some q ↦ refine next sizes m (record { best = cond (nat_lt (sizes q) (sizes r.best)) q r.best; last = q })
    ]) h

-- it begins with copies of the first filter
pub refine-copied : (next : List ℤ → Option (List ℤ)) (sizes : List ℤ → ℕ) (n : ℕ) (first best last : List ℤ) → best ≡ first → last ≡ first →
    refine next sizes (n - 0) (record { best = best; last = last }) ≡ refine next sizes n (record { best = first; last = first })
refine-copied next sizes n first best last b l =
    let none : n - 0 ≡ n = omega arith in
    ap (λ k. refine next sizes k (record { best = best; last = last })) none
    ∙ ap (λ b. refine next sizes n (record { best = b; last = last })) b
    ∙ ap (λ l. refine next sizes n (record { best = first; last = l })) l

-- it ends behind the last step, and where nothing moves
pub refine-ended : (next : List ℤ → Option (List ℤ)) (sizes : List ℤ → ℕ) (n : ℕ) (r end : Refined) → n ≡ 0 → refine next sizes n r ≡ end → r ≡ end
unfolding refine
refine-ended next sizes n r end e h = sym (ap (λ k. refine next sizes k r) e) ∙ h

pub refine-stopped : (next : List ℤ → Option (List ℤ)) (sizes : List ℤ → ℕ) (n : ℕ) (r end : Refined) → next r.last ≡ None →
    refine next sizes n r ≡ end → r ≡ end
refine-stopped next sizes n r end none h = sym (refine-none next sizes n r none) ∙ h

-- it goes on with the better of two filters, by their sizes
pub refine-moved : (next : List ℤ → Option (List ℤ)) (sizes : List ℤ → ℕ) (n m : ℕ) (best last q : List ℤ) (end : Refined) → n ≡ m + 1 →
    next last ≡ Some q → refine next sizes n (record { best = best; last = last }) ≡ end →
    (sizes q < sizes best → refine next sizes m (record { best = q; last = q }) ≡ end) ×
    (sizes best ≤ sizes q → refine next sizes m (record { best = best; last = q }) ≡ end)
refine-moved next sizes n m best last q end e taken before =
    let h = sym (refine-some next sizes n m (record { best = best; last = last }) q e taken) ∙ before in (
      λ less. ap (λ b. refine next sizes m (record { best = cond b q best; last = q })) (sym (test-true (sizes q) (sizes best) less)) ∙ h,
      λ more. ap (λ b. refine next sizes m (record { best = cond b q best; last = q })) (sym (test-false (sizes q) (sizes best) more)) ∙ h,
    )
