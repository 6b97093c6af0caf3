-- By the lemma on shares the part of a number is no greater than the number, so that it fits.
use Rattle.std.proofs.Common.{◌≡◌, ◌^◌, ◌≤◌, nat_abs, to_z, of_z, ◌∙◌, arith}
use mir.Syntax.{w64, w128}
use lib.Signed.{shr_z}
use Rattle.std.proofs.lemmas.Int.{ints}
use Rattle.filter_analyser.proofs.Shares.{share-is}
use Rattle.filter_analyser.proofs.recursion.share.Goals as goal

pub overflow_cast-result : goal.overflow_cast-result
overflow_cast-result c =
    let is = share-is c.args.part c.args.number c.product.result c.requires.part c.requires.number c.product.ensures in
    let small : nat_abs (shr_z (to_z w128 (of_z w128 c.product.result)) 16777216) ≤ 2 ^ 45 = rw is.0 is.2 in
    omega (arith, ints)

pub returns : goal.returns
returns c =
    let is = share-is c.args.part c.args.number c.product.result c.requires.part c.requires.number c.product.ensures in
    let x = shr_z (to_z w128 (of_z w128 c.product.result)) 16777216 in
    let small : nat_abs x ≤ 2 ^ 45 = rw is.0 is.2 in
    let e : to_z w64 (of_z w64 (to_z w128 (of_z w128 x))) ≡ x = omega (arith, ints) in
    record { share = e ∙ is.0; most = rw (e ∙ is.0) is.1 }
