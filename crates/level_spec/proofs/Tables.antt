-- A quantised filter and a counted table are tables of their kinds.
use Rattle.std.proofs.Common.{◌≡◌, ℕ, zero, suc, ◌+◌, ◌-◌, ◌*◌, ◌/◌, ◌≤◌, min, max, ℤ, pos, nat_abs, Bool, true, false, cond, not, ◌==◌, nat_lt, List}
use Rattle.std.proofs.Common.{[], ◌∷◌, length, map, take, get_or, refl, ap, sym, subst, arith, length-append, length-take}
use Rattle.std.proofs.lemmas.Int.{ints, clamps}
use Rattle.std.proofs.lemmas.List.{length-map, length-replicate}
use Rattle.std.proofs.lemmas.List.FromFn.{length-map-range_with_len}
use Rattle.std.specs.List.{AllByRecursion, range_with_len}
use Rattle.dst_spec.specs.Table.{filter_kind, prob_kind, InRange, IsTable}
use Rattle.dst_spec.specs.Sample.{Shape}
use Rattle.dst_spec.proofs.Lists.{all_map, all_range, all_take}
use Rattle.level_spec.specs.Recursion.{after, solution}
use Rattle.level_spec.specs.Scale.{coefficient, scale, bounded, last_place, quantised}
use Rattle.level_spec.specs.Counts.{entry, table_of, total, wrong, counted}
use Rattle.level_spec.proofs.Steps.{length-after}

pub length-solution : (lags : List ℤ) (N : ℕ) → length (solution lags N) ≡ N
unfolding solution
length-solution lags N =
    let values = (after lags N).values in
    omega (arith, length-append {A = ℤ}, length-replicate (N - length values) (pos 0), length-after lags N)

pub last_place-most : (test : ℕ → Bool) (n : ℕ) → last_place test n ≤ n
unfolding last_place
last_place-most test zero = omega arith
last_place-most test (suc n) = elim (test n) as (λ b. cond b (suc n) (last_place test n) ≤ suc n) [
  | true ↦ omega arith
  | false ↦ omega (
    arith,
    last_place-most test n,
  )
]

pub bounded-range : (q : ℤ) → InRange filter_kind (bounded q)
bounded-range q = (omega (arith, ints, clamps), omega (arith, ints, clamps))

all_anyway : {A : Type 0} (P : A → Type 0) (xs : List A) → ((x : A) → P x) → AllByRecursion P xs
all_anyway P [] h = tt
all_anyway P (x ∷ xs) h = (h x, all_anyway P xs h)

pub IsTable-quantised : (values : List ℤ) → 1 ≤ length values → length values ≤ 128 → IsTable filter_kind (quantised values)
unfolding quantised
IsTable-quantised values least most =
    let move : ℤ → ℤ = λ a. bounded (coefficient (scale 8 values) a) in
    let coefs = map move values in
    let long : length coefs ≡ length values = length-map values move in
    let n = last_place (λ j. not (nat_abs (get_or coefs j (pos 0)) == 0)) (length coefs) in
    let few : n ≤ length coefs = last_place-most (λ j. not (nat_abs (get_or coefs j (pos 0)) == 0)) (length coefs) in
    let is : length (take (max 1 n) coefs) ≡ min (max 1 n) (length coefs) = length-take (max 1 n) coefs in
    record {
      least = omega arith;
      most = omega arith;
      each = all_take (InRange filter_kind) (max 1 n) coefs (all_map (InRange filter_kind) move values
          (all_anyway (λ a. InRange filter_kind (move a)) values (λ a. bounded-range (coefficient (scale 8 values) a))));
      alone = λ lone _. absurd (cc);
    }

entry-range : (total wrong : ℕ) → InRange prob_kind (pos (entry total wrong))
entry-range total wrong =
    elim (total == 0) as (λ b. InRange prob_kind (pos (cond b 128 (min 128 (max 1 ((256 * wrong + total / 2) / total)))))) [
      | true ↦ (omega (arith, ints), omega (arith, ints))
      | false ↦ (omega (arith, ints), omega (arith, ints))
    ]

map-pos : (f : ℕ → ℕ) (a n : ℕ) → map pos (map f (range_with_len a n)) ≡ map (λ p. pos (f p)) (range_with_len a n)
map-pos f a zero = refl
map-pos f a (suc n) = ap (λ t. pos (f a) ∷ t) (map-pos f (a + 1) n)

pub IsTable-table_of : (totals wrongs : ℕ → ℕ) → IsTable prob_kind (map pos (table_of totals wrongs))
IsTable-table_of totals wrongs =
    let n = max 2 (last_place (λ p. nat_lt 0 (totals p)) 64) in
    let few = last_place-most (λ p. nat_lt 0 (totals p)) 64 in
    let each : ℕ → ℤ = λ p. pos (entry (totals p) (wrongs p)) in
    let long : length (map each (range_with_len 0 n)) ≡ n = length-map-range_with_len each 0 n in
    subst (IsTable prob_kind) (sym (map-pos (λ p. entry (totals p) (wrongs p)) 0 n)) (record {
      least = omega arith;
      most = omega arith;
      each = all_map (InRange prob_kind) each (range_with_len 0 n) (all_range (λ p. InRange prob_kind (each p)) 0 n (λ p h. entry-range (totals p) (wrongs p)));
      alone = λ _ one. absurd (omega arith);
    })

pub IsTable-counted : (f : Shape) (sound channels : List ℕ) (coefs : List ℤ) → IsTable prob_kind (map pos (counted f sound channels coefs))
unfolding counted
IsTable-counted f sound channels coefs = IsTable-table_of (total f sound channels coefs) (wrong f sound channels coefs)
