-- How great the numbers of a step can be.
use Rattle.std.proofs.Common.{◌≡◌, ℕ, ◌+◌, ◌*◌, ◌^◌, ◌<◌, ◌≤◌, ℤ, pos, negsuc, ◌-ℤ◌, ◌*ℤ◌, ◌≤ℤ◌, ◌<ℤ◌, nat_abs, to_z, of_z, ap, ◌∙◌, arith}
use mir.Syntax.{w64, w128}
use mir.Val.{SFits}
use native.Mathlib.Numerals.{unary_clauses}
use Rattle.std.specs.Int.{int_div_euclid}
use Rattle.std.proofs.lemmas.Int.{ints, fits_signed_from_abs}
use Rattle.std.proofs.lemmas.Nat.{div_below}
use Rattle.filter_refiner.proofs.Numbers.{product-most, same_64, same_128}

-- a quotient by a positive number
pub div-most : (a : ℤ) (b m : ℕ) → 1 ≤ b → nat_abs a ≤ m * b → nat_abs (int_div_euclid a (pos b)) ≤ m
div-most (pos n) b m h k = let less = div_below n b (m + 1) (omega arith) (simp unary_clauses (omega arith)) in omega arith
div-most (negsuc n) b m h k = let less = div_below n b m (omega arith) (omega arith) in omega arith

-- the gradient by what a filter predicts
pub part-bounds : (g pp sp : ℤ) → nat_abs g ≤ 2 ^ 28 → pos 0 ≤ℤ pp → nat_abs pp ≤ 2 ^ 45 → pp <ℤ (sp *ℤ pos (2 ^ 13)) →
    (pos 1 ≤ℤ sp) × (nat_abs (g *ℤ pp) ≤ 2 ^ 73) × (nat_abs (int_div_euclid (g *ℤ pp *ℤ pos (2 ^ 17)) sp) ≤ 2 ^ 58)
part-bounds g pp (pos sp) h positive most agree =
    let some : pos 1 ≤ℤ pos sp = omega (arith, ints, positive, agree) in
    let size = product-most g pp (2 ^ 28) (2 ^ 45) h most in
    let by : nat_abs (g *ℤ pp) ≤ 2 ^ 28 * nat_abs pp = product-most g pp (2 ^ 28) (nat_abs pp) h (omega arith) in
    let few : nat_abs pp < sp * 2 ^ 13 = omega (arith, ints, positive, agree) in
    let scaled : nat_abs (g *ℤ pp *ℤ pos (2 ^ 17)) ≤ 2 ^ 58 * sp = omega (arith, ints) in
    (some, omega arith, div-most (g *ℤ pp *ℤ pos (2 ^ 17)) sp (2 ^ 58) (omega (arith, ints)) scaled)
part-bounds g pp (negsuc sp) h positive most agree = absurd (omega (arith, ints, positive, agree))

pub part-is : (g pp sp a b d q : ℤ) → nat_abs g ≤ 2 ^ 28 → pos 0 ≤ℤ pp → nat_abs pp ≤ 2 ^ 45 → pp <ℤ (sp *ℤ pos (2 ^ 13)) → a ≡ to_z w64 (of_z w64 g) →
    b ≡ to_z w64 (of_z w64 pp) → d ≡ to_z w64 (of_z w64 sp) →
    q ≡ int_div_euclid (to_z w128 (of_z w128 (to_z w128 (of_z w128 (to_z w128 (of_z w128 a) *ℤ to_z w128 (of_z w128 b))) *ℤ pos 131072))) (to_z w128
    (of_z w128 d)) →
    nat_abs sp ≤ 2 ^ 62 → q ≡ int_div_euclid (g *ℤ pp *ℤ pos (2 ^ 17)) sp
part-is g pp sp a b d q h positive most agree e f k is small =
    let bounds = part-bounds g pp sp h positive most agree in
    let first : to_z w128 (of_z w128 a) ≡ g = omega (arith, ints) in
    let second : to_z w128 (of_z w128 b) ≡ pp = omega (arith, ints) in
    let third : to_z w128 (of_z w128 d) ≡ sp = omega (arith, ints) in
    let product : to_z w128 (of_z w128 a) *ℤ to_z w128 (of_z w128 b) ≡ g *ℤ pp = ap (λ z. z *ℤ to_z w128 (of_z w128 b)) first ∙ ap (λ z. g *ℤ z) second in
    let P = g *ℤ pp in
    let few : nat_abs P ≤ 2 ^ 73 = bounds.1 in
    let raised : to_z w128 (of_z w128 (to_z w128 (of_z w128 (to_z w128 (of_z w128 a) *ℤ to_z w128 (of_z w128 b))) *ℤ pos 131072)) ≡ P *ℤ pos (2 ^ 17) =
    ap (λ z. to_z w128 (of_z w128 (to_z w128 (of_z w128 z) *ℤ pos 131072))) product
    ∙ ap (λ z. to_z w128 (of_z w128 (z *ℤ pos 131072))) (same_128 P (omega arith)) ∙ same_128 (P *ℤ pos 131072) (omega (arith, ints)) in
    is ∙ ap (λ z. int_div_euclid z (to_z w128 (of_z w128 d))) raised ∙ ap (int_div_euclid (P *ℤ pos (2 ^ 17))) third

pub products-fit : (g pp a b : ℤ) → nat_abs g ≤ 2 ^ 28 → nat_abs pp ≤ 2 ^ 45 → a ≡ to_z w64 (of_z w64 g) → b ≡ to_z w64 (of_z w64 pp) →
    SFits w128 (to_z w128 (of_z w128 a) *ℤ to_z w128 (of_z w128 b))
    × SFits w128 (to_z w128 (of_z w128 (to_z w128 (of_z w128 a) *ℤ to_z w128 (of_z w128 b))) *ℤ pos 131072)
products-fit g pp a b h k e f =
    let first : to_z w128 (of_z w128 a) ≡ g = omega (arith, ints) in
    let second : to_z w128 (of_z w128 b) ≡ pp = omega (arith, ints) in
    let P = g *ℤ pp in
    let size : nat_abs P ≤ 2 ^ 73 = product-most g pp (2 ^ 28) (2 ^ 45) h k in
    rw (first, second) (fits_signed_from_abs w128 P (omega arith), rw (same_128 P (omega arith)) (omega (arith, ints)))

pub pull-is : (r0 q part : ℤ) → nat_abs r0 ≤ 2 ^ 20 → nat_abs q ≤ 256 → nat_abs part ≤ 2 ^ 58 →
    (nat_abs (to_z w64 (of_z w64 (to_z w64 (of_z w64 r0) *ℤ to_z w64 (of_z w64 q)))) ≤ 2 ^ 28)
    × SFits w64 (to_z w64 (of_z w64 part) -ℤ to_z w64 (of_z w64 (pos 64 *ℤ to_z w64 (of_z w64 (to_z w64 (of_z w64 r0) *ℤ to_z w64 (of_z w64 q))))))
    × (to_z w64 (of_z w64 (to_z w64 (of_z w64 part) -ℤ to_z w64 (of_z w64 (pos 64 *ℤ to_z w64 (of_z w64 (to_z w64 (of_z w64 r0) *ℤ to_z w64 (of_z w64 q)))))))
    ≡ part -ℤ pos 64 *ℤ (r0 *ℤ q))
    × (nat_abs (to_z w64 (of_z w64 (to_z w64 (of_z w64 part) -ℤ to_z w64 (of_z w64 (pos 64 *ℤ to_z w64 (of_z w64 (to_z w64 (of_z w64 r0) *ℤ to_z w64
    (of_z w64 q))))))))
    ≤ 2 ^ 59)
pull-is r0 q part h k most =
    let product : to_z w64 (of_z w64 r0) *ℤ to_z w64 (of_z w64 q) ≡ r0 *ℤ q = ap (λ z. z *ℤ to_z w64 (of_z w64 q)) (same_64 r0 (omega arith))
    ∙ ap (λ z. r0 *ℤ z) (same_64 q (omega arith)) in
    let size = product-most r0 q (2 ^ 20) 256 h k in
    let held : to_z w64 (of_z w64 (to_z w64 (of_z w64 r0) *ℤ to_z w64 (of_z w64 q))) ≡ r0 *ℤ q = ap (λ z. to_z w64 (of_z w64 z)) product
    ∙ same_64 (r0 *ℤ q) (omega arith) in
    let X = to_z w64 (of_z w64 (to_z w64 (of_z w64 r0) *ℤ to_z w64 (of_z w64 q))) in
    let few : nat_abs X ≤ 2 ^ 28 = rw held (omega arith) in
    let is : to_z w64 (of_z w64 (to_z w64 (of_z w64 part) -ℤ to_z w64 (of_z w64 (pos 64 *ℤ X)))) ≡ part -ℤ pos 64 *ℤ X = omega (arith, ints) in
    (few, omega (arith, ints), is ∙ ap (λ z. part -ℤ pos 64 *ℤ z) held, rw is (omega (arith, ints)))
