-- The nearest coefficient less the value fits its word, so that cut at 1 either way it is the definition's.
use Rattle.std.proofs.Common.{◌≡◌, ◌^◌, ◌≤◌, ℤ, pos, negsuc, neg_ℤ, ◌-ℤ◌, ◌*ℤ◌, nat_abs, to_z, of_z, ap, ◌∙◌, arith}
use mir.Syntax.{w64}
use Rattle.std.specs.Int.{int_min, int_max}
use Rattle.std.proofs.lemmas.Int.{ints, clamps}
use Rattle.level_spec.specs.Fitting.{nearest}
use Rattle.filter_refiner.proofs.Numbers.{same_64}
use Rattle.filter_refiner.proofs.fitting.rounding.Goals as goal

-- the nearer bound, either way round
clamped : (v q n lesser greater : ℤ) → nat_abs v ≤ 2 ^ 40 → nat_abs n ≤ 256 → n ≡ q →
    lesser ≡ int_min (to_z w64 (of_z w64 (to_z w64 (of_z w64 (to_z w64 (of_z w64 n) *ℤ pos 16777216)) -ℤ to_z w64 (of_z w64 v)))) (pos 16777216) →
    greater ≡ int_max (to_z w64 (of_z w64 lesser)) (negsuc 16777215) →
    (to_z w64 (of_z w64 greater) ≡ int_max (neg_ℤ (pos (2 ^ 24))) (int_min (pos (2 ^ 24)) (q *ℤ pos (2 ^ 24) -ℤ v)))
    × (nat_abs (to_z w64 (of_z w64 greater)) ≤ 2 ^ 24)
clamped v q n lesser greater h k e a b =
    let inner : to_z w64 (of_z w64 (to_z w64 (of_z w64 (to_z w64 (of_z w64 n) *ℤ pos 16777216)) -ℤ to_z w64 (of_z w64 v))) ≡ q *ℤ pos (2 ^ 24) -ℤ v =
    omega (arith, ints) in
    let less : lesser ≡ int_min (q *ℤ pos (2 ^ 24) -ℤ v) (pos 16777216) = a ∙ ap (λ z. int_min z (pos 16777216)) inner in
    let small : nat_abs lesser ≤ 2 ^ 41 = omega (arith, ints, clamps) in
    let more : greater ≡ int_max lesser (negsuc 16777215) = b ∙ ap (λ z. int_max z (negsuc 16777215)) (same_64 lesser (omega arith)) in
    let few : nat_abs greater ≤ 2 ^ 24 = omega (arith, ints, clamps) in
    let held : to_z w64 (of_z w64 greater) ≡ greater = same_64 greater (omega arith) in
    (held ∙ omega (arith, ints, clamps), rw held few)

pub returns-clause-rounding : goal.returns-clause-rounding
returns-clause-rounding c =
    let is : c.nearest.result ≡ nearest c.args.value = c.nearest.ensures.nearest ∙ ap nearest (same_64 c.args.value (omega (arith, c.requires))) in
    (clamped c.args.value (nearest c.args.value) c.nearest.result c.min.result c.max.result c.requires c.nearest.ensures.small is c.min.ensures.value
    c.max.ensures.value).0

pub returns-clause-small : goal.returns-clause-small
returns-clause-small c =
    let is : c.nearest.result ≡ nearest c.args.value = c.nearest.ensures.nearest ∙ ap nearest (same_64 c.args.value (omega (arith, c.requires))) in
    (clamped c.args.value (nearest c.args.value) c.nearest.result c.min.result c.max.result c.requires c.nearest.ensures.small is c.min.ensures.value
    c.max.ensures.value).1
