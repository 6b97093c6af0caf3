-- By the lemma on pulls the product with the coefficient and the difference fit.
use Rattle.std.proofs.Common.{◌^◌, pos, ◌-ℤ◌, ◌*ℤ◌, ap, ◌∙◌, arith}
use mir.Syntax.{w64}
use Rattle.std.specs.Int.{int_div_euclid}
use Rattle.std.proofs.lemmas.Int.{ints, fits_signed_from_abs}
use Rattle.level_spec.specs.Refining.{pull}
use Rattle.filter_refiner.proofs.Numbers.{product-most, same_64}
use Rattle.filter_refiner.proofs.Pulling.{pull-is}
use Rattle.filter_refiner.proofs.steps.pull.Goals as goal

pub part-requires-clause-gradient : goal.part-requires-clause-gradient
part-requires-clause-gradient c = rw (same_64 c.args.gradient (omega (arith, c.requires.gradient))) c.requires.gradient

pub overflow_mul-result : goal.overflow_mul-result
overflow_mul-result c =
    let size = product-most c.args.r0 c.args.coef (2 ^ 20) 256 c.requires.r0 c.requires.coef in
    rw (same_64 c.args.r0 (omega (arith, c.requires.r0)), same_64 c.args.coef (omega (arith, c.requires.coef)))
    (fits_signed_from_abs w64 (c.args.r0 *ℤ c.args.coef) (omega (arith, size)))

pub overflow_mul-result-2 : goal.overflow_mul-result-2
overflow_mul-result-2 c = let is = pull-is c.args.r0 c.args.coef c.part.result c.requires.r0 c.requires.coef c.part.ensures.most in omega (arith, ints, is.0)

pub overflow_sub-result : goal.overflow_sub-result
overflow_sub-result c = let is = pull-is c.args.r0 c.args.coef c.part.result c.requires.r0 c.requires.coef c.part.ensures.most in is.1

pub returns-clause-pull : goal.returns-clause-pull
unfolding pull
returns-clause-pull c =
    let is = pull-is c.args.r0 c.args.coef c.part.result c.requires.r0 c.requires.coef c.part.ensures.most in
    is.2 ∙ ap (λ z. z -ℤ pos 64 *ℤ (c.args.r0 *ℤ c.args.coef)) (c.part.ensures.part
    ∙ ap (λ g. int_div_euclid (g *ℤ c.args.sums.power *ℤ pos (2 ^ 17)) c.args.sums.agreement) (same_64 c.args.gradient (omega (arith, c.requires.gradient))))

pub returns-clause-most : goal.returns-clause-most
returns-clause-most c = let is = pull-is c.args.r0 c.args.coef c.part.result c.requires.r0 c.requires.coef c.part.ensures.most in is.3
