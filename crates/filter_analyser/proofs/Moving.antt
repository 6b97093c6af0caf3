-- The moved values of a step, one by one.
use Rattle.std.proofs.Common.{◌≡◌, ℕ, ◌+◌, ◌-◌, ◌<◌, ◌≤◌, ◌≢◌, ℤ, pos, ◌-ℤ◌, ◌*ℤ◌, List, [], ◌∷◌, ◌++◌, length, map, get_or, set, get_or-set_other}
use Rattle.std.proofs.Common.{get_or-set_same, length-set, inl, inr, refl, ap, sym, ◌∙◌, subst, arith}
use Rattle.std.proofs.lemmas.Bool.{cases_lt}
use Rattle.std.proofs.lemmas.List.{get_or_append_left, get_or-append-add, ext_get_or}
use Rattle.std.proofs.lemmas.List.FromFn.{length-map-range_with_len, get_or-map-range_with_len}
use Rattle.std.specs.List.{range_with_len}
use Rattle.level_spec.specs.Recursion.{value, whole, moved}
use Rattle.level_spec.proofs.Steps.{length-moved}

moved-at : (values : List ℤ) (f : ℤ) (i j : ℕ) → 1 + j < i →
    get_or (moved values f i) j (pos 0) ≡ value values (1 + j) -ℤ whole (f *ℤ value values (i - (1 + j)))
unfolding moved
moved-at values f i j h =
    let G : ℕ → ℤ = λ j. value values j -ℤ whole (f *ℤ value values (i - j)) in
    let front = map G (range_with_len 1 (i - 1)) in
    let long : length front ≡ i - 1 = length-map-range_with_len G 1 (i - 1) in
    get_or_append_left front (f ∷ []) (pos 0) j (omega arith) ∙ get_or-map-range_with_len G 1 (i - 1) j (1 + j) (pos 0) (omega arith) refl

moved-last : (values : List ℤ) (f : ℤ) (i : ℕ) → 1 ≤ i → get_or (moved values f i) (i - 1) (pos 0) ≡ f
unfolding moved
moved-last values f i h =
    let G : ℕ → ℤ = λ j. value values j -ℤ whole (f *ℤ value values (i - j)) in
    let front = map G (range_with_len 1 (i - 1)) in
    let long : length front ≡ i - 1 = length-map-range_with_len G 1 (i - 1) in
    let e : length front + 0 ≡ i - 1 = omega arith in
    ap (λ k. get_or (front ++ f ∷ []) k (pos 0)) (sym e) ∙ get_or-append-add front (f ∷ []) 0 (pos 0)

pub moved-is : (values next : List ℤ) (f : ℤ) (i : ℕ) → 1 ≤ i → length next ≡ i
    → ((j : ℕ) → 1 + j < i → get_or next j (pos 0) ≡ value values (1 + j) -ℤ whole (f *ℤ value values (i - (1 + j))))
    → set next (i - 1) f ≡ moved values f i
moved-is values next f i h long known =
    let same : length (set next (i - 1) f) ≡ length next = length-set next (i - 1) f in
    let whole_long = length-moved values f i h in
    ext_get_or (pos 0) (set next (i - 1) f) (moved values f i) (omega arith) (λ k inside.
    elim (cases_lt k (i - 1)) [
      | inl earlier ↦ let ne : k ≢ i - 1 = omega arith in rw get_or-set_other (known k (omega arith) ∙ sym (moved-at values f i k (omega arith)))
      | inr here ↦
          let e : k ≡ i - 1 = omega arith in
          let last : i - 1 < length next = omega arith in
          let stored : get_or (set next (i - 1) f) (i - 1) (pos 0) ≡ get_or (moved values f i) (i - 1) (pos 0) =
          rw get_or-set_same (sym (moved-last values f i h)) in
          subst (λ q. get_or (set next (i - 1) f) q (pos 0) ≡ get_or (moved values f i) q (pos 0)) (sym e) stored
    ])
