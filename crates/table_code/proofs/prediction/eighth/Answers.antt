-- The sum and what is left to add are the weighted sum; both are small for any part of the weights, so it fits.
use Rattle.std.proofs.Common.{◌≡◌, ◌+◌, ◌<◌, ◌≤◌, rules, pos, ◌+ℤ◌, nat_abs, drop, length, reverse, ap, ◌∙◌, arith}
use Rattle.std.proofs.lemmas.Int.{ints, to_z-of_z, fits_signed_from_abs}
use mir.Val.{SFits}
use mir.Syntax.{w32}
use Rattle.std.specs.Int.{int_div_euclid}
use Rattle.dst_spec.specs.Table.{weighted}
use Rattle.table_code.proofs.Weighing.{abs_between, abs_most, rest_is_small, sum_is_small, weighted_next, weighted_past, eighth_is_small}
use Rattle.table_code.proofs.prediction.eighth.Given as given
use Rattle.table_code.proofs.prediction.eighth.Goals as goal

sum_most : (g : given.Over) (c : goal.After-term-sum g) → nat_abs c.loop-k.sum ≤ 28672
sum_most g c =
    let K = g.K.TableKind.kind in
    sum_is_small c.loop-k.sum (weighted (drop c.loop-k.k (K.weights c.args.method)) (drop c.loop-k.k (reverse c.args.values.now)))
    (weighted (K.weights c.args.method) (reverse c.args.values.now)) (rw c.loop-k.sum-is at c.loop-k.invariant)
    (rest_is_small K c.args.method c.loop-k.k c.args.values.now g.met.K.TableKind.small g.met.K.TableKind.weights c.requires.method c.requires.each)
    (rest_is_small K c.args.method 0 c.args.values.now g.met.K.TableKind.small g.met.K.TableKind.weights c.requires.method c.requires.each)

next_fits : (g : given.Over) (c : goal.After-term-sum g) → SFits w32 (c.loop-k.sum +ℤ c.term-sum.result)
next_fits g c =
    let p = abs_between c.loop-k.sum 28672 (sum_most g c) in
    let q = abs_between c.term-sum.result 14336 c.term-sum.ensures.small in
    fits_signed_from_abs w32 (c.loop-k.sum +ℤ c.term-sum.result)
    (omega (arith, abs_most (c.loop-k.sum +ℤ c.term-sum.result) 43008 (omega (arith, ints, p.0, q.0)) (omega (arith, ints, p.1, q.1))))

pub overflow_add-sum : goal.overflow_add-sum
overflow_add-sum g c =
    let fits : SFits w32 c.term-sum.result = search rules in
    rw (to_z-of_z w32 c.term-sum.result fits, c.loop-k.sum-is) (next_fits g c)

pub loop-k-preserved : goal.loop-k-preserved
loop-k-preserved g c =
    let K = g.K.TableKind.kind in
    let ws = K.weights c.args.method in
    let rest = weighted (drop (c.loop-k.k + 1) ws) (drop (c.loop-k.k + 1) (reverse c.args.values.now)) in
    let few : c.loop-k.k < length ws = omega (arith, (g.met.K.TableKind.weights c.args.method c.requires.method).0) in
    let next = weighted_next ws c.args.values.now c.loop-k.k few (omega arith) in
    let fits : SFits w32 c.term-sum.result = search rules in
    rw (to_z-of_z w32 c.term-sum.result fits, c.loop-k.sum-is, to_z-of_z w32 (c.loop-k.sum +ℤ c.term-sum.result) (next_fits g c))
    (omega (arith, ints, c.loop-k.invariant, next, c.term-sum.ensures.term))

whole_sum : (g : given.Over) (c : goal.After-loop-k g) → c.loop-k.sum ≡ weighted (g.K.TableKind.kind.weights c.args.method) (reverse c.args.values.now)
whole_sum g c =
    let K = g.K.TableKind.kind in
    let past = weighted_past (K.weights c.args.method) (drop c.loop-k.k (reverse c.args.values.now)) c.loop-k.k
    (omega (arith, (g.met.K.TableKind.weights c.args.method c.requires.method).0)) in
    omega (arith, ints, c.loop-k.invariant, past)

whole_most : (g : given.Over) (c : goal.After-loop-k g) → nat_abs c.loop-k.sum ≤ 14336
whole_most g c =
    rw (whole_sum g c) (rest_is_small g.K.TableKind.kind c.args.method 0 c.args.values.now g.met.K.TableKind.small g.met.K.TableKind.weights
    c.requires.method c.requires.each)

pub rounded-requires-clause-least : goal.rounded-requires-clause-least
rounded-requires-clause-least g c =
    let p = abs_between c.loop-k.sum 14336 (whole_most g c) in
    rw c.loop-k.sum-is (omega (arith, ints, p.0))

pub rounded-requires-clause-greatest : goal.rounded-requires-clause-greatest
rounded-requires-clause-greatest g c =
    let p = abs_between c.loop-k.sum 14336 (whole_most g c) in
    rw c.loop-k.sum-is (omega (arith, ints, p.1))

quotient_is : (g : given.Over) (c : goal.After-rounded g) → c.rounded.result ≡ int_div_euclid (c.loop-k.sum +ℤ pos 4) (pos 8)
quotient_is g c = rw c.loop-k.sum-is at c.rounded.ensures

pub returns-clause-eighth : goal.returns-clause-eighth
returns-clause-eighth g c =
    let fits : SFits w32 c.rounded.result = search rules in
    rw (to_z-of_z w32 c.rounded.result fits) (quotient_is g c ∙ ap (λ x. int_div_euclid (x +ℤ pos 4) (pos 8)) (whole_sum g c.before))

pub returns-clause-lowest : goal.returns-clause-lowest
returns-clause-lowest g c =
    let fits : SFits w32 c.rounded.result = search rules in
    rw (to_z-of_z w32 c.rounded.result fits, quotient_is g c) (eighth_is_small c.loop-k.sum (whole_most g c.before)).0

pub returns-clause-highest : goal.returns-clause-highest
returns-clause-highest g c =
    let fits : SFits w32 c.rounded.result = search rules in
    rw (to_z-of_z w32 c.rounded.result fits, quotient_is g c) (eighth_is_small c.loop-k.sum (whole_most g c.before)).1
