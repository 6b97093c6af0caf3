-- Parts of the greatest, and roundings that are fed back.
use Rattle.std.proofs.Common.{◌≡◌, ℕ, zero, suc, ◌+◌, ◌-◌, ◌*◌, ◌^◌, ◌<◌, ◌≤◌, max, ℤ, pos, ◌-ℤ◌, ◌*ℤ◌, nat_abs, List, [], ◌∷◌}
use Rattle.std.proofs.Common.{◌++◌, length, map, drop, get_or, set, fold, to_z, of_z, append_assoc, refl, ap, sym, ◌∙◌, arith}
use mir.Syntax.{w64}
use mir.Val.{SFits}
use lib.Signed.{shr_z}
use Rattle.std.proofs.lemmas.List.{get_or_past}
use Rattle.filter_refiner.proofs.Growing.{product-is}
use Rattle.std.specs.List.{range_with_len}
use Rattle.std.proofs.lemmas.Int.{ints}
use Rattle.std.proofs.lemmas.List.FromFn.{get_or-map-range_with_len}
use Rattle.filter_refiner.proofs.Keeping.{map-same}
use Rattle.level_spec.specs.Recursion.{State, whole}
use Rattle.level_spec.specs.Rows.{no_row, row_value}
use Rattle.level_spec.specs.Fitting.{greatest, nearest, rounding, fed_back, fit_down}
use Rattle.filter_refiner.proofs.Numbers.{product-most, whole-most, same_64, shifted}

-- each value is at most the greatest one in size
fold-most : (x : List ℤ) (n : ℕ) → n ≤ fold (λ most a. max most (nat_abs a)) n x
fold-most [] n = omega arith
fold-most (a ∷ x) n = omega (arith, fold-most x (max n (nat_abs a)))

below-fold : (x : List ℤ) (n k : ℕ) → nat_abs (get_or x k (pos 0)) ≤ fold (λ most a. max most (nat_abs a)) n x
below-fold [] n k = omega arith
below-fold (a ∷ x) n zero = omega (arith, fold-most x (max n (nat_abs a)))
below-fold (a ∷ x) n (suc k) = below-fold x (max n (nat_abs a)) k

pub below-greatest : (x : List ℤ) (k : ℕ) → nat_abs (get_or x k (pos 0)) ≤ greatest x
unfolding greatest
below-greatest x k = below-fold x 0 k

fold-least : (x : List ℤ) (n m : ℕ) → n ≤ m → ((k : ℕ) → nat_abs (get_or x k (pos 0)) ≤ m) → fold (λ most a. max most (nat_abs a)) n x ≤ m
fold-least [] n m h each = h
fold-least (a ∷ x) n m h each = let here = each 0 in fold-least x (max n (nat_abs a)) m (omega arith) (λ k. each (suc k))

pub greatest-most : (x : List ℤ) (m : ℕ) → ((k : ℕ) → nat_abs (get_or x k (pos 0)) ≤ m) → greatest x ≤ m
unfolding greatest
greatest-most x m each = fold-least x 0 m (omega arith) each

-- coefficients depend on the values below n alone
fed_back-same : (rows : List State) (v w : List ℤ) (i : ℕ) → ((k : ℕ) → k ≤ i → get_or v k (pos 0) ≡ get_or w k (pos 0)) → fed_back rows v i ≡ fed_back rows w i
unfolding fed_back
fed_back-same rows v w i h =
    map-same (λ j. get_or v j (pos 0) -ℤ whole (rounding (get_or v i (pos 0)) *ℤ row_value rows i j))
    (λ j. get_or w j (pos 0) -ℤ whole (rounding (get_or w i (pos 0)) *ℤ row_value rows i j)) 0 i
    (λ j l. ap (λ z. z -ℤ whole (rounding (get_or v i (pos 0)) *ℤ row_value rows i j)) (h j (omega arith))
    ∙ ap (λ z. get_or w j (pos 0) -ℤ whole (rounding z *ℤ row_value rows i j)) (h i (omega arith)))

pub fit_down-same : (rows : List State) (v w : List ℤ) (n : ℕ) → ((k : ℕ) → k < n → get_or v k (pos 0) ≡ get_or w k (pos 0)) →
    fit_down rows v n ≡ fit_down rows w n
unfolding fit_down
fit_down-same rows v w zero h = refl
fit_down-same rows v w (suc i) h =
    ap (λ x. fit_down rows x i ++ nearest (get_or v i (pos 0)) ∷ []) (fed_back-same rows v w i (λ k l. h k (omega arith)))
    ∙ ap (λ z. fit_down rows (fed_back rows w i) i ++ nearest z ∷ []) (h i (omega arith))

-- one value rounded: those before it are w, and the coefficients behind it are known
pub fit_down-next : (rows : List State) (v w coefs all : List ℤ) (i : ℕ) (q : ℤ) → fit_down rows v (i + 1) ++ drop (i + 1) coefs ≡ all →
    ((k : ℕ) → k < i → get_or w k (pos 0) ≡ get_or v k (pos 0) -ℤ whole (rounding (get_or v i (pos 0)) *ℤ row_value rows i k)) →
    q ≡ nearest (get_or v i (pos 0)) → (more : List ℤ) → drop i more ≡ q ∷ drop (i + 1) coefs → fit_down rows w i ++ drop i more ≡ all
unfolding fit_down fed_back
fit_down-next rows v w coefs all i q h before e more last =
    let one : i + 1 ≡ suc i = omega arith in
    let F : ℕ → ℤ = λ j. get_or v j (pos 0) -ℤ whole (rounding (get_or v i (pos 0)) *ℤ row_value rows i j) in
    let same = fit_down-same rows w (map F (range_with_len 0 i)) i (λ k l. before k l ∙ sym (get_or-map-range_with_len F 0 i k k (pos 0) l (omega arith))) in
    ap (λ t. fit_down rows w i ++ t) last ∙ ap (λ x. x ++ q ∷ drop (i + 1) coefs) same
    ∙ ap (λ z. fit_down rows (map F (range_with_len 0 i)) i ++ z ∷ drop (i + 1) coefs) e
    ∙ sym (append_assoc (fit_down rows (map F (range_with_len 0 i)) i) (nearest (get_or v i (pos 0)) ∷ []) (drop (i + 1) coefs))
    ∙ ap (λ n. fit_down rows v n ++ drop (i + 1) coefs) (sym one) ∙ h

pub shares-most : (old e v : ℤ) → nat_abs e ≤ 2 ^ 24 → nat_abs v ≤ 2 ^ 32 → nat_abs (old -ℤ whole (e *ℤ v)) ≤ nat_abs old + 2 ^ 32
shares-most old e v h k =
    let size : nat_abs (e *ℤ v) ≤ 2 ^ 24 * 2 ^ 32 = product-most e v (2 ^ 24) (2 ^ 32) h k in
    let most : nat_abs (whole (e *ℤ v)) ≤ 2 ^ 32 = whole-most (e *ℤ v) (2 ^ 32) (omega arith) in
    omega (arith, ints)

pub get_or-mapped : (F : ℤ → ℤ) (xs : List ℤ) (k : ℕ) → k < length xs → get_or (map F xs) k (pos 0) ≡ F (get_or xs k (pos 0))
get_or-mapped F [] k h = absurd (omega arith)
get_or-mapped F (x ∷ xs) zero h = refl
get_or-mapped F (x ∷ xs) (suc k) h = get_or-mapped F xs k (omega arith)

-- what follows from an error, by a value of a row
pub share-is : (e v : ℤ) → nat_abs e ≤ 2 ^ 24 → nat_abs v ≤ 2 ^ 32 →
    SFits w64 (to_z w64 (of_z w64 e) *ℤ to_z w64 (of_z w64 v))
    × (to_z w64 (of_z w64 (shr_z (to_z w64 (of_z w64 (to_z w64 (of_z w64 e) *ℤ to_z w64 (of_z w64 v)))) 16777216)) ≡ whole (e *ℤ v))
    × (nat_abs (to_z w64 (of_z w64 (shr_z (to_z w64 (of_z w64 (to_z w64 (of_z w64 e) *ℤ to_z w64 (of_z w64 v)))) 16777216))) ≤ 2 ^ 32)
share-is e v h k =
    let is : to_z w64 (of_z w64 e) *ℤ to_z w64 (of_z w64 v) ≡ e *ℤ v = product-is e v _ (omega arith) (omega arith) refl in
    let size : nat_abs (e *ℤ v) ≤ 2 ^ 24 * 2 ^ 32 = product-most e v (2 ^ 24) (2 ^ 32) h k in
    let most : nat_abs (whole (e *ℤ v)) ≤ 2 ^ 32 = whole-most (e *ℤ v) (2 ^ 32) (omega arith) in
    let small : nat_abs (to_z w64 (of_z w64 e) *ℤ to_z w64 (of_z w64 v)) ≤ 2 ^ 56 = rw is (omega arith) in
    let shift : shr_z (to_z w64 (of_z w64 (to_z w64 (of_z w64 e) *ℤ to_z w64 (of_z w64 v)))) 16777216 ≡ whole (e *ℤ v) =
    ap (λ z. shr_z z 16777216) (same_64 (to_z w64 (of_z w64 e) *ℤ to_z w64 (of_z w64 v)) (omega arith) ∙ is) ∙ shifted (e *ℤ v) in
    let same : to_z w64 (of_z w64 (shr_z (to_z w64 (of_z w64 (to_z w64 (of_z w64 e) *ℤ to_z w64 (of_z w64 v)))) 16777216)) ≡ whole (e *ℤ v) =
    ap (λ z. to_z w64 (of_z w64 z)) shift ∙ same_64 (whole (e *ℤ v)) (omega arith) in
    (omega (arith, ints), same, rw same most)

-- where there is no row, nothing is fed back
pub no-row : (rows : List State) (e old : ℤ) (i k : ℕ) → length rows ≤ i → old ≡ old -ℤ whole (e *ℤ row_value rows i k)
no-row rows e old i k h =
    let none : row_value rows i k ≡ pos 0 = ap (λ s. get_or s.values (i - k - 1) (pos 0)) (get_or_past rows i no_row h) in
    let nothing : e *ℤ row_value rows i k ≡ pos 0 = ap (λ z. e *ℤ z) none ∙ omega (arith, ints) in
    rw nothing (omega (arith, ints))

pub drop-set : (xs : List ℤ) (i : ℕ) (q : ℤ) → i < length xs → drop i (set xs i q) ≡ q ∷ drop (i + 1) xs
drop-set [] i q h = absurd (omega arith)
drop-set (x ∷ xs) zero q h = refl
drop-set (x ∷ xs) (suc i) q h = drop-set xs i q (omega arith) ∙ (let e : suc i + 1 ≡ suc (i + 1) = omega arith in ap (λ n. q ∷ drop n (x ∷ xs)) (sym e))
