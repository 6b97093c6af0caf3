-- The error less its share by the square of the reflection is from 1 to the error before.
use Rattle.std.proofs.Common.{◌≡◌, ◌^◌, ◌≤◌, ◌-ℤ◌, ◌*ℤ◌, nat_abs, to_z, of_z, ap, ◌∙◌, arith}
use mir.Syntax.{w64}
use Rattle.std.proofs.lemmas.Int.{ints}
use Rattle.level_spec.specs.Recursion.{whole, fallen}
use Rattle.level_spec.proofs.Bounds.{fallen-bounds}
use Rattle.filter_refiner.proofs.Numbers.{same_64}
use Rattle.filter_analyser.proofs.recursion.fallen.Goals as goal

pub returns : goal.returns
unfolding fallen
returns c =
    let f = c.args.reflection in
    let error = c.args.error in
    let bounds = fallen-bounds error f c.requires.least c.requires.reflection in
    let square : c.share-square.result ≡ whole (f *ℤ f) = c.share-square.ensures.share ∙ ap (λ z. whole (z *ℤ z)) (same_64 f (omega arith)) in
    let small : nat_abs c.share-square.result ≤ 2 ^ 24 = let m = c.share-square.ensures.most in omega (arith, ints) in
    let e : to_z w64 (of_z w64 error) ≡ error = omega (arith, ints) in
    let is : c.share.result ≡ whole (whole (f *ℤ f) *ℤ error) = c.share.ensures.share
    ∙ ap (λ z. whole (z *ℤ to_z w64 (of_z w64 error))) (same_64 c.share-square.result (omega arith) ∙ square) ∙ ap (λ z. whole (whole (f *ℤ f) *ℤ z)) e in
    let less : nat_abs c.share.result ≤ 2 ^ 45 = let m = c.share.ensures.most in omega (arith, ints) in
    let new : to_z w64 (of_z w64 (to_z w64 (of_z w64 error) -ℤ to_z w64 (of_z w64 c.share.result))) ≡ error -ℤ c.share.result = omega (arith, ints) in
    let all = new ∙ ap (λ z. error -ℤ z) is in
    record { fallen = all; least = rw all bounds.0; most = rw all bounds.1 }
