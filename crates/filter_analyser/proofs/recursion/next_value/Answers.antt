-- What is left, with 24 more bits, still fits, and its quotient by the error is the reflection.
use Rattle.std.proofs.Common.{◌≡◌, ◌+◌, ◌^◌, ◌≤◌, pos, ◌*ℤ◌, nat_abs, to_z, of_z, length, ap, ◌∙◌, arith}
use mir.Syntax.{w64, w128}
use Rattle.std.specs.Int.{int_div_euclid}
use Rattle.std.proofs.lemmas.Int.{ints}
use Rattle.level_spec.specs.Recursion.{reflection, left_over}
use Rattle.filter_analyser.proofs.recursion.next_value.Goals as goal

pub returns : goal.returns
unfolding reflection
returns c =
    let left = c.left_over-rest.result in
    let is : left ≡ left_over c.args.lags.now c.args.values.now (length c.args.values.now + 1) = c.left_over-rest.ensures.left in
    let small : nat_abs left ≤ 2 ^ 68 = c.left_over-rest.ensures.most in
    let unit : to_z w128 (of_z w128 c.from.result) ≡ pos 16777216 = let e : c.from.result ≡ pos 16777216 = c.from.ensures in omega (arith, ints) in
    let raised : to_z w128 (of_z w128 (to_z w128 (of_z w128 left) *ℤ to_z w128 (of_z w128 c.from.result))) ≡ left *ℤ pos 16777216 =
    ap (λ z. to_z w128 (of_z w128 (to_z w128 (of_z w128 left) *ℤ z))) unit ∙ omega (arith, ints) in
    let error : to_z w128 (of_z w128 c.from-2.result) ≡ c.args.error = let e : c.from-2.result ≡ to_z w64 (of_z w64 c.args.error) =
    c.from-2.ensures in omega (arith, ints) in
    let whole : to_z w128 (of_z w128 c.div_euclid.result) ≡ c.div_euclid.result = omega (arith, ints) in
    whole ∙ c.div_euclid.ensures ∙ ap (λ z. int_div_euclid z (to_z w128 (of_z w128 c.from-2.result))) raised
    ∙ ap (λ z. int_div_euclid (left *ℤ pos 16777216) z) error ∙ ap (λ z. int_div_euclid (z *ℤ pos 16777216) c.args.error) is
