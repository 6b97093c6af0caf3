-- What the values leave of the one wanted: each product fits its bits, and is taken exactly.
use Rattle.std.proofs.Common.{◌≡◌, ◌+◌, ◌-◌, ◌^◌, ◌≤◌, ℕ, pos, ◌+ℤ◌, ◌-ℤ◌, ◌*ℤ◌, nat_abs, to_z, of_z, length, get_or, ap, ◌∙◌, arith}
use mir.Syntax.{w128}
use Rattle.std.proofs.lemmas.Int.{ints}
use Rattle.level_spec.specs.Correlation.{sum_over}
use Rattle.level_spec.specs.Recursion.{value}
use Rattle.filter_refiner.proofs.Numbers.{product-most, same_64, sum_over-next}
use Rattle.filter_refiner.proofs.Growing.{left-most, product-is}
use Rattle.filter_refiner.proofs.solving.left_by.Goals as goal

pub loop-j-init : goal.loop-j-init
unfolding sum_over
loop-j-init c =
    let y = get_or c.args.wanted.now (length c.args.values.now) (pos 0) in
    let small = c.requires.wanted (length c.args.values.now) in
    let is : c.product-rest.result ≡ y *ℤ pos 16777216 = c.product-rest.ensures ∙ ap (λ z. z *ℤ pos 16777216) (same_64 y (omega arith)) in
    omega (arith, ints)

-- what a turn takes is the next product, and it and what is left before fit their bits
product-taken : (c : goal.After-product-rest-in-loop-j) → (c.product-rest-in-loop-j.result
    ≡ get_or c.args.values.now (length c.args.values.now - c.loop-j.j - 1) (pos 0) *ℤ get_or c.args.wanted.now c.loop-j.j (pos 0))
    × (nat_abs c.product-rest-in-loop-j.result ≤ 2 ^ 91) × (nat_abs (to_z w128 c.loop-j.rest-bits) ≤ 2 ^ 99)
product-taken c =
    let values = c.args.values.now in
    let n = length values in
    let j = c.loop-j.j in
    let a = get_or values (n - j - 1) (pos 0) in
    let b = get_or c.args.wanted.now j (pos 0) in
    let small_a = c.requires.values (n - j - 1) in
    let small_b = c.requires.wanted j in
    let is = product-is a b c.product-rest-in-loop-j.result (omega arith) (omega arith) c.product-rest-in-loop-j.ensures in (
      is,
      rw is (product-most a b (2 ^ 32) (2 ^ 59) small_a small_b),
      rw c.loop-j.invariant (left-most values c.args.wanted.now n j c.requires.values c.requires.wanted (omega arith)),
    )

pub overflow_sub-rest : goal.overflow_sub-rest
overflow_sub-rest c =
    let taken = product-taken c in
    omega (arith, ints, taken.1)

pub loop-j-preserved : goal.loop-j-preserved
loop-j-preserved c =
    let j = c.loop-j.j in
    let F = λ (j : ℕ). value c.args.values.now (length c.args.values.now - j) *ℤ get_or c.args.wanted.now j (pos 0) in
    let y = get_or c.args.wanted.now (length c.args.values.now) (pos 0) *ℤ pos (2 ^ 24) in
    let taken = product-taken c in
    let new : to_z w128 (of_z w128 (to_z w128 c.loop-j.rest-bits -ℤ to_z w128 (of_z w128 c.product-rest-in-loop-j.result)))
    ≡ to_z w128 c.loop-j.rest-bits -ℤ c.product-rest-in-loop-j.result = omega (arith, ints, taken.1) in
    let next : sum_over F 0 (j + 1) ≡ sum_over F 0 j +ℤ F j = sum_over-next F 0 j ∙
    (let z : 0 + j ≡ j = omega arith in ap (λ k. sum_over F 0 j +ℤ F k) z) in
    let joined : y -ℤ sum_over F 0 j -ℤ F j ≡ y -ℤ sum_over F 0 (j + 1) = rw next (omega (arith, ints)) in
    new ∙ ap (λ z. z -ℤ c.product-rest-in-loop-j.result) c.loop-j.invariant ∙ ap (λ z. y -ℤ sum_over F 0 j -ℤ z) taken.0 ∙ joined

pub returns-clause-left : goal.returns-clause-left
returns-clause-left c =
    let values = c.args.values.now in
    let e : c.loop-j.j ≡ length values = omega arith in
    c.loop-j.invariant ∙ ap (λ j. get_or c.args.wanted.now (length values) (pos 0) *ℤ pos (2 ^ 24)
    -ℤ sum_over (λ j. value values (length values - j) *ℤ get_or c.args.wanted.now j (pos 0)) 0 j) e

pub returns-clause-most : goal.returns-clause-most
returns-clause-most c =
    rw c.loop-j.invariant (left-most c.args.values.now c.args.wanted.now (length c.args.values.now) c.loop-j.j c.requires.values c.requires.wanted
    (omega arith))
