-- Coefficients at a scale, and the last of them that isn't 0.
use Rattle.std.proofs.Common.{◌≡◌, ℕ, ◌*◌, ◌%◌, ◌^◌, ◌<◌, ◌≤◌, ℤ, pos, ◌+ℤ◌, ◌*ℤ◌, nat_abs, to_z, of_z, true}
use Rattle.std.proofs.Common.{not, ◌==◌, ap, ◌∙◌, arith}
use mir.Syntax.{w64}
use lib.Signed.{shr_z}
use Rattle.std.proofs.lemmas.Int.{ints}
use Rattle.std.proofs.lemmas.Bool.Decides.{nat_tests}
use Rattle.std.proofs.lemmas.Nat.{one_shl}
use Rattle.std.proofs.Math.Nat.{pow-le-pow_right}
use Rattle.level_spec.specs.Recursion.{whole}
use Rattle.level_spec.specs.Scale.{coefficient}
use Rattle.filter_refiner.proofs.Numbers.{product-most, whole-most, same_64}
use Rattle.filter_analyser.proofs.Shares.{shifted}

pub scale-fits : (g : ℕ) → g ≤ 8 → 2 ^ g ≤ 256
scale-fits g h = pow-le-pow_right {n = 2} (omega arith) h

pub scale-is : (g : ℕ) → g ≤ 8 → to_z w64 (1 * 2 ^ g % 2 ^ 64) ≡ pos (2 ^ g)
scale-is g h = let fits = scale-fits g h in let e = one_shl g 64 (omega arith) in omega (arith, ints)

pub scaled-most : (a : ℤ) (g : ℕ) → g ≤ 8 → nat_abs a ≤ 2 ^ 40 → nat_abs (to_z w64 (of_z w64 a) *ℤ to_z w64 (1 * 2 ^ g % 2 ^ 64)) ≤ 2 ^ 48
scaled-most a g h k =
    let fits = scale-fits g h in
    let most = product-most a (pos (2 ^ g)) (2 ^ 40) 256 k fits in
    let e : to_z w64 (of_z w64 a) *ℤ to_z w64 (1 * 2 ^ g % 2 ^ 64) ≡ a *ℤ pos (2 ^ g) =
    ap (λ z. z *ℤ to_z w64 (1 * 2 ^ g % 2 ^ 64)) (same_64 a (omega arith)) ∙ ap (λ z. a *ℤ z) (scale-is g h) in
    rw e most

pub coefficient-is : (a : ℤ) (g : ℕ) → g ≤ 8 → nat_abs a ≤ 2 ^ 40 →
    to_z w64 (of_z w64 (shr_z (to_z w64 (of_z w64 (to_z w64 (of_z w64 (to_z w64 (of_z w64 a) *ℤ to_z w64 (1 * 2 ^ g % 2 ^ 64))) +ℤ pos 8388608))) 16777216))
    ≡ coefficient g a
coefficient-is a g h k =
    let most = scaled-most a g h k in
    let X = to_z w64 (of_z w64 a) *ℤ to_z w64 (1 * 2 ^ g % 2 ^ 64) in
    let Y = a *ℤ pos (2 ^ g) +ℤ pos 8388608 in
    let e : X ≡ a *ℤ pos (2 ^ g) = ap (λ z. z *ℤ to_z w64 (1 * 2 ^ g % 2 ^ 64)) (same_64 a (omega arith)) ∙ ap (λ z. a *ℤ z) (scale-is g h) in
    let small : nat_abs (a *ℤ pos (2 ^ g)) ≤ 2 ^ 48 = rw (← e) most in
    let inner : to_z w64 (of_z w64 (to_z w64 (of_z w64 X) +ℤ pos 8388608)) ≡ Y = ap (λ z. to_z w64 (of_z w64 (to_z w64 (of_z w64 z) +ℤ pos 8388608))) e
    ∙ omega (arith, ints) in
    let cut : shr_z (to_z w64 (of_z w64 (to_z w64 (of_z w64 X) +ℤ pos 8388608))) 16777216 ≡ whole Y = ap (λ z. shr_z z 16777216) inner ∙ shifted Y in
    let bound : nat_abs (whole Y) ≤ 2 ^ 62 = whole-most Y (2 ^ 62) (omega (arith, ints)) in
    ap (λ z. to_z w64 (of_z w64 z)) cut ∙ same_64 (whole Y) bound

positive_test : (n : ℕ) → 0 < n → not (n == 0) ≡ true
positive_test n h = grind (arith, nat_tests)
