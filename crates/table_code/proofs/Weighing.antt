-- How large weighted sums of values are, and how they go on.
use Rattle.std.proofs.Common.{◌≡◌, ℕ, zero, suc, ◌+◌, ◌-◌, ◌*◌, ◌/◌, ◌<◌, ◌≤◌, List, [], ◌∷◌, length, get_or, drop, reverse, refl, ap, ap₂, sym}
use Rattle.std.proofs.Common.{subst, ◌∙◌, arith, drop-cons, add-one, ℤ, pos, negsuc, neg_ℤ, ◌+ℤ◌, ◌*ℤ◌, ◌≤ℤ◌, nat_abs}
use Rattle.std.proofs.lemmas.Int.{ints, unsigned_abs-mul}
use Rattle.std.proofs.lemmas.Nat.{mul-le}
use Rattle.std.proofs.lemmas.List.{length-reverse, get_or-reverse}
use Rattle.std.proofs.lemmas.List.Sums.{sum_by-cons, sum_by-take-drop}
use mathlib.Core.List.{reverse-cons}
use Rattle.std.specs.Int.{int_div_euclid}
use Rattle.std.specs.List.{AllByRecursion, sum_by}
use Rattle.dst_spec.specs.Table.{Kind, InRange, weighted}
use Rattle.dst_spec.proofs.Lists.{all_append, get_all, all_drop}
use Rattle.table_code.specs.Kinds.{IsSmall, HasWeights}

-- sizes of signed numbers
pub abs_between : (z : ℤ) (n : ℕ) → nat_abs z ≤ n → (neg_ℤ (pos n) ≤ℤ z) × (z ≤ℤ pos n)
abs_between (pos m) n h = (omega (arith, ints), omega (arith, ints))
abs_between (negsuc m) n h = (omega (arith, ints), omega (arith, ints))

pub abs_most : (z : ℤ) (n : ℕ) → neg_ℤ (pos n) ≤ℤ z → z ≤ℤ pos n → nat_abs z ≤ n
abs_most (pos m) n h k = omega (arith, ints)
abs_most (negsuc m) n h k = omega (arith, ints)

abs_add : (a b : ℤ) (m n : ℕ) → nat_abs a ≤ m → nat_abs b ≤ n → nat_abs (a +ℤ b) ≤ m + n
abs_add a b m n h k =
    let p = abs_between a m h in
    let q = abs_between b n k in
    abs_most (a +ℤ b) (m + n) (omega (arith, ints, p.0, q.0)) (omega (arith, ints, p.1, q.1))

abbrev IsByte : ℤ → Type 0
IsByte v = nat_abs v ≤ 256

pub small_value : (K : Kind) (v : ℤ) → IsSmall K → InRange K v → nat_abs v ≤ 256
small_value K v s h = abs_most v 256 (omega (arith, ints, s.least, h.0)) (omega (arith, ints, s.greatest, h.1))

small_values : (K : Kind) (vs : List ℤ) → IsSmall K → AllByRecursion (InRange K) vs → AllByRecursion IsByte vs
small_values K [] s h = tt
small_values K (v ∷ vs) s h = (small_value K v s h.0, small_values K vs s h.1)

all_reverse : {A : Type 0} (P : A → Type 0) (xs : List A) → AllByRecursion P xs → AllByRecursion P (reverse xs)
all_reverse P [] h = tt
all_reverse P (x ∷ xs) h = subst (AllByRecursion P) (sym (reverse-cons x xs)) (all_append P (reverse xs) (x ∷ []) (all_reverse P xs h.1) (h.0, tt))

-- a weighted sum is at most 256 times the sizes of its weights
weighted_most : (ws vs : List ℤ) → AllByRecursion IsByte vs → nat_abs (weighted ws vs) ≤ sum_by nat_abs ws * 256
unfolding weighted
weighted_most [] vs h = omega arith
weighted_most (w ∷ ws) [] h = omega arith
weighted_most (w ∷ ws) (v ∷ vs) h =
    let one : nat_abs (w *ℤ v) ≤ nat_abs w * 256 = omega (arith, unsigned_abs-mul w v, mul-le (nat_abs w) (nat_abs v) (nat_abs w) 256 (omega arith) h.0) in
    let rest = weighted_most ws vs h.1 in
    let sums = sum_by-cons nat_abs w ws in
    let both = abs_add (w *ℤ v) (weighted ws vs) (nat_abs w * 256) (sum_by nat_abs ws * 256) one rest in
    omega arith

sum-drop : (n : ℕ) (ws : List ℤ) → sum_by nat_abs (drop n ws) ≤ sum_by nat_abs ws
sum-drop n ws = omega (arith, sum_by-take-drop nat_abs ws n)

one-le-sum : (ws : List ℤ) (k : ℕ) → nat_abs (get_or ws k (pos 0)) ≤ sum_by nat_abs ws
one-le-sum [] k = omega arith
one-le-sum (w ∷ ws) zero = omega (arith, sum_by-cons nat_abs w ws)
one-le-sum (w ∷ ws) (suc k) = omega (arith, one-le-sum ws k, sum_by-cons nat_abs w ws)

-- what is left of a method's sum from a weight on
pub rest_is_small : (K : Kind) (method k : ℕ) (vs : List ℤ) → IsSmall K → HasWeights K → method < 3 → AllByRecursion (InRange K) vs →
    nat_abs (weighted (drop k (K.weights method)) (drop k (reverse vs))) ≤ 14336
rest_is_small K method k vs s weights h each =
    let earlier : AllByRecursion IsByte (drop k (reverse vs)) = all_drop IsByte k (reverse vs) (all_reverse IsByte vs (small_values K vs s each)) in
    omega (arith, weighted_most (drop k (K.weights method)) (drop k (reverse vs)) earlier, sum-drop k (K.weights method), (weights method h).1)

pub weight_is_small : (K : Kind) (method k : ℕ) → HasWeights K → method < 3 → nat_abs (get_or (K.weights method) k (pos 0)) ≤ 56
weight_is_small K method k weights h = omega (arith, one-le-sum (K.weights method) k, (weights method h).1)

pub value_is_small : (K : Kind) (vs : List ℤ) (j : ℕ) (d : ℤ) → IsSmall K → AllByRecursion (InRange K) vs → j < length vs → nat_abs (get_or vs j d) ≤ 256
value_is_small K vs j d s each h = small_value K (get_or vs j d) s (get_all (InRange K) vs j d each h)

-- one weight more
pub weighted_next : (ws vs : List ℤ) (k : ℕ) → k < length ws → k < length vs →
    weighted (drop k ws) (drop k (reverse vs)) ≡ get_or ws k (pos 0) *ℤ get_or vs (length vs - 1 - k) (pos 0) +ℤ weighted (drop (k + 1) ws)
    (drop (k + 1) (reverse vs))
unfolding weighted
weighted_next ws vs k h i =
    let front = drop-cons ws k (pos 0) h in
    let there : k < length (reverse vs) = omega (arith, length-reverse vs) in
    let back = drop-cons (reverse vs) k (pos 0) there in
    let at = get_or-reverse vs k (pos 0) i in
    ap₂ weighted front back ∙ ap (λ v. get_or ws k (pos 0) *ℤ v +ℤ weighted (drop (suc k) ws) (drop (suc k) (reverse vs))) at
    ∙ ap (λ i. get_or ws k (pos 0) *ℤ get_or vs (length vs - 1 - k) (pos 0) +ℤ weighted (drop i ws) (drop i (reverse vs))) (sym (add-one k))

pub weighted_past : (ws vs : List ℤ) (k : ℕ) → length ws ≡ k → weighted (drop k ws) vs ≡ pos 0
unfolding weighted
weighted_past [] vs zero e = refl
weighted_past [] vs (suc k) e = refl
weighted_past (w ∷ ws) vs zero e = absurd (omega arith)
weighted_past (w ∷ ws) vs (suc k) e = weighted_past ws vs k (omega arith)

-- an eighth of a sum
pub eighth_is_small : (x : ℤ) → nat_abs x ≤ 14336 → (negsuc 1791 ≤ℤ int_div_euclid (x +ℤ pos 4) (pos 8)) × (int_div_euclid (x +ℤ pos 4) (pos 8) ≤ℤ pos 1792)
eighth_is_small x h =
    let p = abs_between x 14336 h in
    go (x +ℤ pos 4) (omega (arith, ints, p.0)) (omega (arith, ints, p.1))
  where
    go : (y : ℤ) → neg_ℤ (pos 14332) ≤ℤ y → y ≤ℤ pos 14340 → (negsuc 1791 ≤ℤ int_div_euclid y (pos 8)) × (int_div_euclid y (pos 8) ≤ℤ pos 1792)
    go (pos a) h k =
        let most : a ≤ 14340 = omega (arith, ints) in
        let d : a / 8 ≤ 1792 = omega arith in
        (omega (arith, ints), omega (arith, ints))
    go (negsuc a) h k =
        let most : a ≤ 14331 = omega (arith, ints) in
        let d : a / 8 ≤ 1791 = omega arith in
        (omega (arith, ints), omega (arith, ints))

-- what is summed up lies between two sums
pub sum_is_small : (s rest whole : ℤ) → s +ℤ rest ≡ whole → nat_abs rest ≤ 14336 → nat_abs whole ≤ 14336 → nat_abs s ≤ 28672
sum_is_small s rest whole e h k =
    let p = abs_between rest 14336 h in
    let q = abs_between whole 14336 k in
    abs_most s 28672 (omega (arith, ints, p.0, p.1, q.0, q.1)) (omega (arith, ints, p.0, p.1, q.0, q.1))
