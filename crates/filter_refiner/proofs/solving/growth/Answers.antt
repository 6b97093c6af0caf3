-- What the row leaves, with 24 more bits, still fits, and is divided by the row's error.
use Rattle.std.proofs.Common.{◌≡◌, ◌-◌, ◌^◌, ◌≤◌, ℕ, ℤ, pos, ◌-ℤ◌, ◌*ℤ◌, nat_abs, to_z, of_z, List, get_or, ap, ◌∙◌, arith}
use mir.Syntax.{w64, w128}
use Rattle.std.specs.Int.{int_div_euclid}
use Rattle.std.proofs.lemmas.Int.{ints}
use Rattle.level_spec.specs.Correlation.{sum_over}
use Rattle.level_spec.specs.Recursion.{value}
use Rattle.level_spec.specs.Rows.{no_row}
use Rattle.level_spec.specs.Solving.{left_by, growth}
use Rattle.filter_refiner.proofs.solving.growth.Goals as goal

pub returns : goal.returns
unfolding growth left_by
returns c =
    let rows = c.args.rows.now in
    let y = c.args.wanted.now in
    let i = c.args.place in
    let values = c.values.result.now in
    let row = (get_or rows i no_row).values in
    let left = c.left_by-rest.result in
    let L : List ℤ → ℕ → ℤ = λ vs n. get_or y n (pos 0) *ℤ pos (2 ^ 24) -ℤ sum_over (λ j. value vs (n - j) *ℤ get_or y j (pos 0)) 0 n in
    let is : left ≡ L row i = c.left_by-rest.ensures.left ∙ ap (L values) c.values.ensures.long ∙ ap (λ vs. L vs i) c.values.ensures.values in
    let small : nat_abs left ≤ 2 ^ 99 = c.left_by-rest.ensures.most in
    let unit : to_z w128 (of_z w128 c.from.result) ≡ pos 16777216 = let e : c.from.result ≡ pos 16777216 = c.from.ensures in omega (arith, ints) in
    let raised : to_z w128 (of_z w128 (to_z w128 (of_z w128 left) *ℤ to_z w128 (of_z w128 c.from.result))) ≡ left *ℤ pos 16777216 =
    ap (λ z. to_z w128 (of_z w128 (to_z w128 (of_z w128 left) *ℤ z))) unit ∙ omega (arith, ints) in
    let error : to_z w128 (of_z w128 c.from-2.result) ≡ c.error.result = let e : c.from-2.result ≡ to_z w64 (of_z w64 c.error.result) =
    c.from-2.ensures in omega (arith, ints) in
    let whole : to_z w128 (of_z w128 c.div_euclid.result) ≡ c.div_euclid.result = omega (arith, ints) in
    whole ∙ c.div_euclid.ensures ∙ ap (λ z. int_div_euclid z (to_z w128 (of_z w128 c.from-2.result))) raised
    ∙ ap (λ z. int_div_euclid (left *ℤ pos 16777216) z) (error ∙ c.error.ensures.error)
    ∙ ap (λ z. int_div_euclid (z *ℤ pos 16777216) (get_or rows i no_row).error) is
