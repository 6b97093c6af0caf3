-- Differences and middles are small, and so is their product.
use Rattle.std.proofs.Common.{◌≡◌, ℕ, ◌+◌, ◌*◌, ◌^◌, ◌<◌, ◌≤◌, ℤ, pos, ◌+ℤ◌, ◌-ℤ◌, ◌*ℤ◌, nat_abs, to_z, of_z, arith}
use mir.Syntax.{w64}
use mir.Val.{SFits}
use Rattle.std.proofs.lemmas.Int.{ints, fits_signed_from_abs}
use Rattle.filter_refiner.proofs.Numbers.{product-most, same_64}
use Rattle.filter_refiner.proofs.steps.agreement_at.Goals as goal

-- in 64 bits: a difference and the middle of a place
abbrev difference : ℤ → ℤ → ℤ
difference a b = to_z w64 (of_z w64 (to_z w64 (of_z w64 a) -ℤ to_z w64 (of_z w64 b)))

abbrev middle : ℕ → ℤ
middle place = to_z w64 (of_z w64 (to_z w64 (of_z w64 (pos 8 *ℤ to_z w64 place)) +ℤ pos 4))

product-is : (right wrong place : ℕ) (a b : ℤ) → right ≤ 6 * 150528 → wrong ≤ 6 * 150528 → place < 64 → a ≡ pos right → b ≡ pos wrong →
    SFits w64 (difference a b *ℤ middle place)
    × (to_z w64 (of_z w64 (difference a b *ℤ middle place)) ≡ (pos (right + wrong) -ℤ pos (2 * wrong)) *ℤ pos (8 * place + 4))
    × (nat_abs (to_z w64 (of_z w64 (difference a b *ℤ middle place))) ≤ 2 ^ 38)
product-is right wrong place a b h k l e f =
    let D = pos (right + wrong) -ℤ pos (2 * wrong) in
    let M = pos (8 * place + 4) in
    let first : difference a b ≡ D = omega (arith, ints) in
    let second : middle place ≡ M = omega (arith, ints) in
    let size : nat_abs (D *ℤ M) ≤ 2 ^ 29 = product-most D M (2 ^ 20) (2 ^ 9) (omega (arith, ints)) (omega arith) in
    let held : to_z w64 (of_z w64 (D *ℤ M)) ≡ D *ℤ M = same_64 (D *ℤ M) (omega arith) in
    rw (first, second) (fits_signed_from_abs w64 (D *ℤ M) (omega arith), held, rw held (omega arith))

pub overflow_mul-result-2 : goal.overflow_mul-result-2
overflow_mul-result-2 c =
    (product-is c.args.right c.args.wrong c.args.place c.from.result c.from-2.result c.requires.right
    c.requires.wrong c.requires.place c.from.ensures c.from-2.ensures).0

pub returns-clause-agreement : goal.returns-clause-agreement
returns-clause-agreement c =
    (product-is c.args.right c.args.wrong c.args.place c.from.result c.from-2.result c.requires.right
    c.requires.wrong c.requires.place c.from.ensures c.from-2.ensures).1

pub returns-clause-most : goal.returns-clause-most
returns-clause-most c =
    (product-is c.args.right c.args.wrong c.args.place c.from.result c.from-2.result c.requires.right
    c.requires.wrong c.requires.place c.from.ensures c.from-2.ensures).2
