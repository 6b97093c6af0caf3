-- Rows in arrays.
use Rattle.std.proofs.Common.{◌≡◌, ℕ, zero, suc, ◌+◌, ◌-◌, ◌<◌, ℤ, pos, List, [], ◌∷◌, ◌++◌, length, map, take, get_or, refl, ap, sym, ◌∙◌, subst, arith}
use Rattle.std.proofs.Common.{length-append, inl, inr}
use Rattle.std.proofs.lemmas.Bool.{cases_lt}
use Rattle.std.proofs.lemmas.List.{get_or_append_left, get_or-append_right}
use Rattle.std.proofs.lemmas.List.FromFn.{length-map-range_with_len, get_or-map-range_with_len, map-range_with_len_more}
use Rattle.std.specs.List.{range_with_len}
use Rattle.level_spec.specs.Recursion.{State}
use Rattle.level_spec.specs.Rows.{no_row}
use Rattle.filter_refiner.specs.SideBySide.{states, IsNthRow, AreNthRows}

pub length-states : (errors : List ℤ) (values : List (List ℤ)) (n : ℕ) → length (states errors values n) ≡ n
length-states errors values n = length-map-range_with_len (λ k. record { error = get_or errors k (pos 0); values = take k (get_or values k []) }) 0 n

pub state-at : (errors : List ℤ) (values : List (List ℤ)) (n k : ℕ) → k < n →
    get_or (states errors values n) k no_row ≡ record { error = get_or errors k (pos 0); values = take k (get_or values k []) }
state-at errors values n k h =
    get_or-map-range_with_len (λ k. record { error = get_or errors k (pos 0); values = take k (get_or values k []) }) 0 n k k no_row h (omega arith)

pub map-same : {A : Type 0} (F G : ℕ → A) (a n : ℕ) → ((p : ℕ) → p < a + n → F p ≡ G p) → map F (range_with_len a n) ≡ map G (range_with_len a n)
map-same F G a zero h = refl
map-same F G a (suc n) h =
    let rest = map-same F G (a + 1) n (λ p k. h p (omega arith)) in
    ap (λ x. x ∷ map F (range_with_len (a + 1) n)) (h a (omega arith)) ∙ ap (λ t. G a ∷ t) rest

state : ℤ → List ℤ → State
state e v = record { error = e; values = v }

-- one more row, with the others as they were
pub states-push : (errors more : List ℤ) (values others : List (List ℤ)) (n : ℕ) (row : List ℤ) →
    ((k : ℕ) → k < n → get_or more k (pos 0) ≡ get_or errors k (pos 0)) → ((k : ℕ) → k < n → get_or others k [] ≡ get_or values k []) →
    take n (get_or others n []) ≡ row →
    states more others (n + 1) ≡ states errors values n ++ record { error = get_or more n (pos 0); values = row } ∷ []
states-push errors more values others n row h k e =
    let F : ℕ → State = λ k. record { error = get_or errors k (pos 0); values = take k (get_or values k []) } in
    let G : ℕ → State = λ k. record { error = get_or more k (pos 0); values = take k (get_or others k []) } in
    let S : ℤ → List ℤ → State = λ e v. record { error = e; values = v } in
    map-range_with_len_more G 0 n n (omega arith)
    ∙ ap (λ xs. xs ++ G n ∷ []) (map-same G F 0 n (λ p l. ap (λ e. S e (take p (get_or others p []))) (h p (omega arith))
    ∙ ap (λ v. S (get_or errors p (pos 0)) (take p v)) (k p (omega arith))))
    ∙ ap (λ v. map F (range_with_len 0 n) ++ S (get_or more n (pos 0)) v ∷ []) e

pub AreNthRows-push : (rows : List State) (s : State) → AreNthRows rows → IsNthRow (length rows) s → AreNthRows (rows ++ s ∷ [])
AreNthRows-push rows s h last = record {
  each = λ k inside.
      let long : length (rows ++ s ∷ []) ≡ length rows + 1 = omega (arith, length-append {A = State}) in
      elim (cases_lt k (length rows)) [
        | inl less ↦ subst (IsNthRow k) (sym (get_or_append_left rows (s ∷ []) no_row k less)) (h.each k less)
        | inr more ↦
            let is : k ≡ length rows = omega arith in
            subst (λ j. IsNthRow j (get_or (rows ++ s ∷ []) j no_row)) (sym is) (subst (IsNthRow (length rows))
            (sym (get_or-append_right rows (s ∷ []) (length rows) (length rows) no_row refl (omega arith)
            ∙ (let z : length rows - length rows ≡ 0 = omega arith in
            ap (λ j. get_or (s ∷ []) j no_row) z))) last)
      ];
}

-- a row, by the arrays
pub row-of : (errors : List ℤ) (values : List (List ℤ)) {n k : ℕ} {rows : List State} → states errors values n ≡ rows → AreNthRows (states errors values n) →
    k < length rows →
    (k < n) × (get_or rows k no_row ≡ record { error = get_or errors k (pos 0); values = take k (get_or values k []) })
    × IsNthRow k (record { error = get_or errors k (pos 0); values = take k (get_or values k []) })
row-of errors values {n} {k} {rows} e h inside =
    let long = length-states errors values n in
    let less : k < n = omega (arith, ap length e) in
    let is = state-at errors values n k less in
    (less, ap (λ r. get_or r k no_row) (sym e) ∙ is, subst (IsNthRow k) is (h.each k (omega arith)))
