-- Refined filters and shortened tables are tables of their kinds.
use Rattle.std.proofs.Common.{◌≡◌, ℕ, zero, suc, ◌-◌, ◌≤◌, min, max, ℤ, pos, ◌+ℤ◌, ◌*ℤ◌, ◌^◌, int_le, Bool, true, false, cond, not, ◌==◌, nat_lt, nat_abs, List}
use Rattle.std.proofs.Common.{[], ◌∷◌, ◌++◌, length, map, take, get_or, Option, Some, None, refl, subst, arith, length-append, length-take}
use Rattle.std.proofs.lemmas.Int.{ints}
use Rattle.std.proofs.lemmas.List.{length-map, take-map}
use Rattle.std.proofs.lemmas.List.FromFn.{length-map-range_with_len}
use Rattle.std.specs.List.{AllByRecursion, range_with_len}
use Rattle.dst_spec.specs.Table.{filter_kind, prob_kind, InRange, IsTable}
use Rattle.dst_spec.specs.Sample.{Shape}
use Rattle.dst_spec.proofs.Lists.{all_take}
use Rattle.level_spec.specs.Scale.{last_place, without_zeros}
use Rattle.level_spec.specs.Counts.{entry, table_of, total, wrong, counted}
use Rattle.level_spec.specs.Recursion.{State, whole}
use Rattle.level_spec.specs.Correlation.{correlations}
use Rattle.level_spec.specs.Rows.{rows, row_solution}
use Rattle.level_spec.specs.Solving.{solved}
use Rattle.level_spec.specs.Fitting.{greatest, at_255, nearest, fed_back, fit_down, fitted}
use Rattle.level_spec.specs.Size.{shortened}
use Rattle.level_spec.specs.Refining.{pull, target, moved_by, next_filter, short_table, Refined, refine, refined_from, first_filter}
use Rattle.level_spec.proofs.Tables.{last_place-most, bounded-range, IsTable-table_of}
use Rattle.level_spec.proofs.RowSteps.{length-row_solution}

pub length-fit_down : (rows : List State) (v : List ℤ) (n : ℕ) → length (fit_down rows v n) ≡ n
unfolding fit_down
length-fit_down rows v zero = refl
length-fit_down rows v (suc i) = omega (arith, length-append {A = ℤ}, length-fit_down rows (fed_back rows v i) i)

all-push : {A : Type 0} (P : A → Type 0) (xs : List A) (x : A) → AllByRecursion P xs → P x → AllByRecursion P (xs ++ x ∷ [])
all-push P [] x h k = (k, tt)
all-push P (y ∷ ys) x h k = (h.0, all-push P ys x h.1 k)

pub fit_down-range : (rows : List State) (v : List ℤ) (n : ℕ) → AllByRecursion (InRange filter_kind) (fit_down rows v n)
unfolding fit_down
fit_down-range rows v zero = tt
fit_down-range rows v (suc i) =
    all-push (InRange filter_kind) (fit_down rows (fed_back rows v i) i) (nearest (get_or v i (pos 0))) (fit_down-range rows (fed_back rows v i) i)
    (bounded-range (whole (get_or v i (pos 0) +ℤ pos (2 ^ 23))))

pub IsTable-without_zeros : (coefs : List ℤ) → 1 ≤ length coefs → length coefs ≤ 128 → AllByRecursion (InRange filter_kind) coefs →
    IsTable filter_kind (without_zeros coefs)
IsTable-without_zeros coefs some few each =
    let n = last_place (λ j. not (nat_abs (get_or coefs j (pos 0)) == 0)) (length coefs) in
    let less : n ≤ length coefs = last_place-most (λ j. not (nat_abs (get_or coefs j (pos 0)) == 0)) (length coefs) in
    let is : length (take (max 1 n) coefs) ≡ min (max 1 n) (length coefs) = length-take (max 1 n) coefs in
    record {
      least = omega arith;
      most = omega arith;
      each = all_take (InRange filter_kind) (max 1 n) coefs each;
      alone = λ lone _. absurd (cc);
    }

pub IsTable-fitted : (rows : List State) (x : List ℤ) → 1 ≤ length x → length x ≤ 128 → IsTable filter_kind (fitted rows x)
unfolding fitted
IsTable-fitted rows x some few = elim (greatest x == 0) as (λ b. IsTable filter_kind (cond b (pos 0 ∷ []) (without_zeros (fit_down rows (at_255 x)
    (length x))))) [
      | true ↦ record { least = omega arith; most = omega arith; each = ((omega (arith, ints), omega (arith, ints)), tt); alone = λ lone _. absurd (cc) }
      | false ↦ let long = length-fit_down rows (at_255 x) (length x) in
          IsTable-without_zeros (fit_down rows (at_255 x) (length x)) (omega arith) (omega arith) (fit_down-range rows (at_255 x) (length x))
    ]

-- what holds of the value, where there is one
abbrev pub IfThere : {A : Type 0} → (A → Type 0) → Option A → Type 0
IfThere P None = Unit
IfThere P (Some a) = P a

moved-by_answer : (states : List State) (coefs : List ℤ) (answer : Option (List ℤ)) → IfThere (IsTable filter_kind)
    (elim answer as (λ _. Option (List ℤ)) [ None ↦ None | Some d ↦ Some (fitted states (target coefs d)) ])
moved-by_answer states coefs None = tt
moved-by_answer states coefs (Some d) =
    let long : length (target coefs d) ≡ 128 = length-map-range_with_len (λ j. get_or coefs j (pos 0) *ℤ pos (2 ^ 24) +ℤ get_or d j (pos 0)) 0 128 in
    IsTable-fitted states (target coefs d) (omega arith) (omega arith)

pub IsTable-moved_by : (r0 : ℤ) (states : List State) (sp pp : ℤ) (g : ℕ → ℤ) (coefs : List ℤ) →
    IfThere (IsTable filter_kind) (moved_by r0 states sp pp g coefs)
unfolding moved_by
IsTable-moved_by r0 states sp pp g coefs =
    let answer = solved states (map (λ j. pull r0 sp pp (g j) (get_or coefs j (pos 0))) (range_with_len 0 128)) in
    elim (int_le (sp *ℤ pos (2 ^ 13)) pp) as (λ b. IfThere (IsTable filter_kind) (cond b None
    (elim answer as (λ _. Option (List ℤ)) [ None ↦ None | Some d ↦ Some (fitted states (target coefs d)) ]))) [
      | true ↦ tt
      | false ↦ moved-by_answer states coefs answer
    ]

pub IsTable-next_filter : (f : Shape) (sound channels : List ℕ) (coefs : List ℤ) → IfThere (IsTable filter_kind) (next_filter f sound channels coefs)
unfolding next_filter
IsTable-next_filter f sound channels coefs = IsTable-moved_by _ _ _ _ _ _

-- both filters are tables
abbrev pub AreTables : Refined → Type 0
AreTables r = IsTable filter_kind r.best × IsTable filter_kind r.last

better : (sizes : List ℤ → ℕ) (best q : List ℤ) → IsTable filter_kind best → IsTable filter_kind q →
    IsTable filter_kind (cond (nat_lt (sizes q) (sizes best)) q best)
better sizes best q h k = elim (nat_lt (sizes q) (sizes best)) as (λ b. IsTable filter_kind (cond b q best)) [ true ↦ k | false ↦ h ]

pub AreTables-refine : (next : List ℤ → Option (List ℤ)) (sizes : List ℤ → ℕ) (n : ℕ) (r : Refined) →
    ((q : List ℤ) → IfThere (IsTable filter_kind) (next q)) → AreTables r → AreTables (refine next sizes n r)
unfolding refine
AreTables-refine next sizes zero r each h = h
AreTables-refine next sizes (suc n) r each h =
    elim (next r.last) as (λ a. IfThere (IsTable filter_kind) a → AreTables (elim a as (λ _. Refined) [
      | None ↦ r
      | Some q ↦ refine next sizes n (record { best = cond (nat_lt (sizes q) (sizes r.best)) q r.best; last = q })
    ])) [
      | None ↦ λ _. h
      | Some q ↦ λ k. AreTables-refine next sizes n (record { best = cond (nat_lt (sizes q) (sizes r.best)) q r.best; last = q }) each
          (better sizes r.best q h.0 k, k)
    ] (each r.last)

pub AreTables-refined_from : (f : Shape) (sound channels : List ℕ) (steps : ℕ) (first : List ℤ) → IsTable filter_kind first →
    AreTables (refined_from f sound channels steps first)
unfolding refined_from
AreTables-refined_from f sound channels steps first h =
    AreTables-refine _ _ steps (record { best = first; last = first }) (IsTable-next_filter f sound channels) (h, h)

pub IsTable-first_filter : (f : Shape) (sound channels : List ℕ) → IsTable filter_kind (first_filter f sound channels)
unfolding first_filter
IsTable-first_filter f sound channels =
    let lags = correlations f sound channels in
    let long = length-row_solution lags 128 in
    IsTable-fitted (rows lags 128) (row_solution lags 128) (omega arith) (omega arith)

-- a table of two entries or more stays one when it is shortened
pub IsTable-shortened : (entries : List ℕ) → 2 ≤ length entries → IsTable prob_kind (map pos entries) → IsTable prob_kind (map pos (shortened entries))
unfolding shortened
IsTable-shortened entries some h =
    let test : ℕ → Bool = λ p. not (get_or entries p 0 == get_or entries (p - 1) 0) in
    let n = last_place test (length entries) in
    let few = last_place-most test (length entries) in
    let long : length (map pos entries) ≡ length entries = length-map entries pos in
    let is : length (take (max 2 n) (map pos entries)) ≡ min (max 2 n) (length (map pos entries)) = length-take (max 2 n) (map pos entries) in
    let most : length (map pos entries) ≤ 64 = h.most in
    subst (IsTable prob_kind) (take-map pos (max 2 n) entries) (record {
      least = omega arith;
      most = omega arith;
      each = all_take (InRange prob_kind) (max 2 n) (map pos entries) h.each;
      alone = λ _ one. absurd (omega arith);
    })

pub length-table_of : (totals wrongs : ℕ → ℕ) → 2 ≤ length (table_of totals wrongs)
length-table_of totals wrongs =
    omega (arith, length-map-range_with_len (λ p. entry (totals p) (wrongs p)) 0 (max 2 (last_place (λ p. nat_lt 0 (totals p)) 64)))

pub IsTable-short_table_of : (totals wrongs : ℕ → ℕ) → IsTable prob_kind (map pos (shortened (table_of totals wrongs)))
IsTable-short_table_of totals wrongs =
    IsTable-shortened (table_of totals wrongs) (length-table_of totals wrongs) (IsTable-table_of totals wrongs)

pub IsTable-short_table : (f : Shape) (sound channels : List ℕ) (coefs : List ℤ) → IsTable prob_kind (map pos (short_table f sound channels coefs))
unfolding short_table counted
IsTable-short_table f sound channels coefs = IsTable-short_table_of (total f sound channels coefs) (wrong f sound channels coefs)
