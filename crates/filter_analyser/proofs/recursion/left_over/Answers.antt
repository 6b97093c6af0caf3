-- What the values leave of a correlation: each share fits its bits, and is taken exactly.
use Rattle.std.proofs.Common.{◌≡◌, ◌-◌, ◌^◌, ◌≤◌, pos, ◌-ℤ◌, ◌*ℤ◌, nat_abs, to_z, of_z, get_or, ap, ◌∙◌, arith}
use mir.Syntax.{w128}
use Rattle.std.proofs.lemmas.Int.{ints}
use Rattle.level_spec.specs.Correlation.{sum_over}
use Rattle.level_spec.specs.Recursion.{lag, value, left_over}
use Rattle.filter_refiner.proofs.Numbers.{product-most, same_64}
use Rattle.filter_refiner.proofs.Growing.{product-is}
use Rattle.filter_analyser.proofs.Shares.{left-most, left-next, lags-most}
use Rattle.filter_analyser.proofs.recursion.left_over.Goals as goal

pub loop-j-init : goal.loop-j-init
unfolding sum_over
loop-j-init c =
    let small = lags-most c.args.lags.now c.args.place c.requires.correlations in
    let is : c.product-rest.result ≡ get_or c.args.lags.now c.args.place (pos 0) *ℤ pos 16777216 = c.product-rest.ensures
    ∙ ap (λ z. z *ℤ pos 16777216) (same_64 (get_or c.args.lags.now c.args.place (pos 0)) (omega arith)) in
    omega (arith, ints)

-- what a turn takes is the next share, and it and what is left before fit their bits
share-taken : (c : goal.After-product-rest-in-loop-j) →
    (c.product-rest-in-loop-j.result ≡ get_or c.args.values.now (c.loop-j.j - 1) (pos 0) *ℤ get_or c.args.lags.now (c.args.place - c.loop-j.j) (pos 0))
    × (nat_abs c.product-rest-in-loop-j.result ≤ 2 ^ 60) × (nat_abs (to_z w128 c.loop-j.rest-bits) ≤ 2 ^ 68)
share-taken c =
    let j = c.loop-j.j in
    let a = get_or c.args.values.now (j - 1) (pos 0) in
    let b = get_or c.args.lags.now (c.args.place - j) (pos 0) in
    let small_a = c.requires.values (j - 1) in
    let small_b = lags-most c.args.lags.now (c.args.place - j) c.requires.correlations in
    let is = product-is a b c.product-rest-in-loop-j.result (omega arith) (omega arith) c.product-rest-in-loop-j.ensures in (
      is,
      rw is (product-most a b (2 ^ 40) (2 ^ 20) small_a small_b),
      rw c.loop-j.invariant (left-most c.args.lags.now c.args.values.now c.args.place (j - 1) c.requires.correlations c.requires.values (omega arith)),
    )

pub overflow_sub-rest : goal.overflow_sub-rest
overflow_sub-rest c =
    let taken = share-taken c in
    omega (arith, ints, taken.1)

pub loop-j-preserved : goal.loop-j-preserved
loop-j-preserved c =
    let taken = share-taken c in
    let new : to_z w128 (of_z w128 (to_z w128 c.loop-j.rest-bits -ℤ to_z w128 (of_z w128 c.product-rest-in-loop-j.result)))
    ≡ to_z w128 c.loop-j.rest-bits -ℤ c.product-rest-in-loop-j.result = omega (arith, ints, taken.1) in
    new ∙ ap (λ z. z -ℤ c.product-rest-in-loop-j.result) c.loop-j.invariant
    ∙ ap (λ z. lag c.args.lags.now c.args.place *ℤ pos (2 ^ 24) -ℤ sum_over (λ j. value c.args.values.now j *ℤ lag c.args.lags.now (c.args.place - j)) 1
    (c.loop-j.j - 1) -ℤ z) taken.0
    ∙ left-next c.args.lags.now c.args.values.now c.args.place c.loop-j.j (omega arith)

pub returns : goal.returns
unfolding left_over
returns c =
    let e : c.loop-j.j ≡ c.args.place = omega arith in
    let is : to_z w128 c.loop-j.rest-bits ≡ left_over c.args.lags.now c.args.values.now c.args.place =
    c.loop-j.invariant ∙ ap (λ j. lag c.args.lags.now c.args.place *ℤ pos (2 ^ 24) -ℤ sum_over
    (λ j. value c.args.values.now j *ℤ lag c.args.lags.now (c.args.place - j)) 1 (j - 1)) e in
    record {
      left = is;
      most = rw is (left-most c.args.lags.now c.args.values.now c.args.place (c.args.place - 1) c.requires.correlations c.requires.values
          (omega arith));
    }
