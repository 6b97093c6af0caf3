-- A part of the gradient: the quotient, which fits its word.
use Rattle.std.proofs.Common.{◌≡◌, ◌^◌, ◌≤◌, pos, ◌*ℤ◌, nat_abs, to_z, of_z, ◌∙◌, arith}
use mir.Syntax.{w64, w128}
use Rattle.std.specs.Int.{int_div_euclid}
use Rattle.std.proofs.lemmas.Int.{ints}
use Rattle.filter_refiner.proofs.Pulling.{part-bounds, part-is, products-fit}
use Rattle.filter_refiner.proofs.steps.part.Goals as goal

pub overflow_mul-product : goal.overflow_mul-product
overflow_mul-product c =
    (products-fit c.args.gradient c.args.sums.power c.from.result c.from-2.result c.requires.gradient c.requires.most c.from.ensures c.from-2.ensures).0

pub overflow_mul-product-2 : goal.overflow_mul-product-2
overflow_mul-product-2 c =
    (products-fit c.args.gradient c.args.sums.power c.from.result c.from-2.result c.requires.gradient c.requires.most c.from.ensures c.from-2.ensures).1

pub div_euclid-requires-clause-no_overflow : goal.div_euclid-requires-clause-no_overflow
div_euclid-requires-clause-no_overflow c = λ h _.
    let b = part-bounds c.args.gradient c.args.sums.power c.args.sums.agreement c.requires.gradient c.requires.power c.requires.most c.requires.agree in
    let some = b.0 in
    let few = c.requires.few in
    let is = c.from-3.ensures in
    omega (arith, ints)

-- the quotient is the part, and has at most 58 bits
quotient : (c : goal.After-div_euclid) → (nat_abs c.div_euclid.result ≤ 2 ^ 58)
    × (c.div_euclid.result ≡ int_div_euclid (c.args.gradient *ℤ c.args.sums.power *ℤ pos (2 ^ 17)) c.args.sums.agreement)
quotient c =
    let sums = c.args.sums in
    let b = part-bounds c.args.gradient sums.power sums.agreement c.requires.gradient c.requires.power c.requires.most c.requires.agree in
    let is = part-is c.args.gradient sums.power sums.agreement c.from.result c.from-2.result c.from-3.result c.div_euclid.result c.requires.gradient
    c.requires.power c.requires.most c.requires.agree c.from.ensures c.from-2.ensures c.from-3.ensures c.div_euclid.ensures (omega (arith, c.requires.few)) in
    (rw is b.2, is)

pub overflow_cast-result : goal.overflow_cast-result
overflow_cast-result c =
    let most = (quotient c).0 in
    omega (arith, ints)

pub returns : goal.returns
returns c =
    let known = quotient c in
    let most = known.0 in
    let same : to_z w64 (of_z w64 (to_z w128 (of_z w128 c.div_euclid.result))) ≡ c.div_euclid.result = omega (arith, ints) in
    record { part = same ∙ known.1; most = rw same most }
