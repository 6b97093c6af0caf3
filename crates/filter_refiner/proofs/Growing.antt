-- How great the numbers of solving can be.
use Rattle.std.proofs.Common.{◌≡◌, ℕ, ◌+◌, ◌-◌, ◌*◌, ◌^◌, ◌≤◌, ℤ, pos, ◌-ℤ◌, ◌*ℤ◌, nat_abs, to_z, of_z, List, get_or, ap, ◌∙◌, arith}
use Rattle.std.proofs.lemmas.Int.{ints}
use Rattle.level_spec.specs.Correlation.{sum_over}
use mir.Syntax.{w64, w128}
use lib.Signed.{shr_z}
use Rattle.level_spec.specs.Recursion.{value, whole}
use Rattle.level_spec.proofs.Sums.{sum_over-below}
use Rattle.filter_refiner.proofs.Numbers.{product-most, whole-most, same_64, same_128, shifted}

-- the sum of what values take of wanted ones
pub left-most : (values wanted : List ℤ) (n m : ℕ) → ((j : ℕ) → nat_abs (get_or values j (pos 0)) ≤ 2 ^ 32) →
    ((j : ℕ) → nat_abs (get_or wanted j (pos 0)) ≤ 2 ^ 59) → m ≤ 128 →
    nat_abs (get_or wanted n (pos 0) *ℤ pos (2 ^ 24) -ℤ sum_over (λ j. value values (n - j) *ℤ get_or wanted j (pos 0)) 0 m) ≤ 2 ^ 99
left-most values wanted n m small known few =
    let here = known n in
    let sum = sum_over-below (λ j. value values (n - j) *ℤ get_or wanted j (pos 0)) 0 m (2 ^ 32 * 2 ^ 59)
    (λ j _ _. product-most (value values (n - j)) (get_or wanted j (pos 0)) (2 ^ 32) (2 ^ 59) (small (n - j - 1)) (known j)) in
    omega (arith, ints)

-- a product of two numbers
pub product-is : (a b p : ℤ) → nat_abs a ≤ 2 ^ 62 → nat_abs b ≤ 2 ^ 62 → p ≡ to_z w64 (of_z w64 a) *ℤ to_z w64 (of_z w64 b) → p ≡ a *ℤ b
product-is a b p h k e = e ∙ ap (λ z. z *ℤ to_z w64 (of_z w64 b)) (same_64 a h) ∙ ap (λ z. a *ℤ z) (same_64 b k)

pub part-is : (a b p : ℤ) → nat_abs a ≤ 2 ^ 62 → nat_abs b ≤ 2 ^ 32 → p ≡ to_z w64 (of_z w64 a) *ℤ to_z w64 (of_z w64 b) →
    (to_z w128 (of_z w128 (shr_z (to_z w128 (of_z w128 p)) 16777216)) ≡ whole (a *ℤ b))
    × (nat_abs (to_z w128 (of_z w128 (shr_z (to_z w128 (of_z w128 p)) 16777216))) ≤ 2 ^ 70)
part-is a b p h k e =
    let is = product-is a b p h (omega arith) e in
    let size : nat_abs (a *ℤ b) ≤ 2 ^ 62 * 2 ^ 32 = product-most a b (2 ^ 62) (2 ^ 32) h k in
    let small : nat_abs p ≤ 2 ^ 126 = rw is (omega arith) in
    let shift : shr_z (to_z w128 (of_z w128 p)) 16777216 ≡ whole (a *ℤ b) = ap (λ z. shr_z z 16777216) (same_128 p small ∙ is) ∙ shifted (a *ℤ b) in
    let most : nat_abs (whole (a *ℤ b)) ≤ 2 ^ 70 = whole-most (a *ℤ b) (2 ^ 70) (omega arith) in
    let same : to_z w128 (of_z w128 (shr_z (to_z w128 (of_z w128 p)) 16777216)) ≡ whole (a *ℤ b) =
    ap (λ z. to_z w128 (of_z w128 z)) shift ∙ same_128 (whole (a *ℤ b)) (omega arith) in
    (same, rw same most)

pub follows-most : (old g v : ℤ) → nat_abs g ≤ 2 ^ 62 → nat_abs v ≤ 2 ^ 32 → nat_abs (old -ℤ whole (g *ℤ v)) ≤ nat_abs old + 2 ^ 70
follows-most old g v h k =
    let size : nat_abs (g *ℤ v) ≤ 2 ^ 62 * 2 ^ 32 = product-most g v (2 ^ 62) (2 ^ 32) h k in
    let most : nat_abs (whole (g *ℤ v)) ≤ 2 ^ 70 = whole-most (g *ℤ v) (2 ^ 70) (omega arith) in
    omega (arith, ints)
