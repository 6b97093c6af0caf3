-- A number no greater than another has a quotient by it that is no greater than the factor.
use Rattle.std.proofs.Common.{◌≡◌, ℕ, ◌*◌, ◌^◌, ◌≤◌, ℤ, pos, ◌*ℤ◌, nat_abs, to_z, of_z, rules, ap, ap₂, ◌∙◌, arith}
use mir.Syntax.{w64, w128}
use mir.Val.{SFits}
use Rattle.std.specs.Int.{int_div_euclid}
use Rattle.std.proofs.lemmas.Int.{ints}
use Rattle.filter_refiner.proofs.Numbers.{product-most, same_128}
use Rattle.filter_refiner.proofs.Pulling.{div-most}
use Rattle.filter_refiner.proofs.fitting.part_of.Goals as goal

-- the product and the quotient in 128 bits
abbrev product : ℤ → ℤ
product a = to_z w128 (of_z w128 a) *ℤ pos 4278190080

abbrev quotient : ℤ → ℤ → ℤ
quotient a d = int_div_euclid (to_z w128 (of_z w128 (product a))) (to_z w128 (of_z w128 d))

product-is : (z a : ℤ) (n : ℕ) → n ≤ 2 ^ 56 → nat_abs z ≤ n → a ≡ to_z w64 (of_z w64 z) → product a ≡ z *ℤ pos 4278190080
product-is z a n few size e = let held : to_z w128 (of_z w128 a) ≡ z = omega (arith, ints) in rw held

part-is : (z a d q : ℤ) (n : ℕ) → 1 ≤ n → n ≤ 2 ^ 56 → nat_abs z ≤ n → a ≡ to_z w64 (of_z w64 z) → d ≡ pos n → q ≡ quotient a d →
    (q ≡ int_div_euclid (z *ℤ pos 4278190080) (pos n)) × (nat_abs q ≤ 4278190080)
part-is z a d q n some few size e f is =
    let P = z *ℤ pos 4278190080 in
    let most : nat_abs P ≤ n * 4278190080 = product-most z (pos 4278190080) n 4278190080 size (omega arith) in
    let by : to_z w128 (of_z w128 d) ≡ pos n = omega (arith, ints) in
    let whole : q ≡ int_div_euclid P (pos n) =
    is ∙ ap₂ int_div_euclid (ap (λ y. to_z w128 (of_z w128 y)) (product-is z a n few size e) ∙ same_128 P (omega arith)) by in
    (whole, rw whole (div-most P n 4278190080 some (omega arith)))

-- the same in 64 bits
unchanged : (q : ℤ) → nat_abs q ≤ 4278190080 → to_z w64 (of_z w64 (to_z w128 (of_z w128 q))) ≡ q
unchanged q h = omega (arith, ints)

part-same : (z a d q : ℤ) (n : ℕ) → 1 ≤ n → n ≤ 2 ^ 56 → nat_abs z ≤ n → a ≡ to_z w64 (of_z w64 z) → d ≡ pos n → q ≡ quotient a d →
    to_z w64 (of_z w64 (to_z w128 (of_z w128 q))) ≡ int_div_euclid (z *ℤ pos 4278190080) (pos n)
part-same z a d q n some few size e f is = let p = part-is z a d q n some few size e f is in unchanged q p.1 ∙ p.0

part-small : (z a d q : ℤ) (n : ℕ) → 1 ≤ n → n ≤ 2 ^ 56 → nat_abs z ≤ n → a ≡ to_z w64 (of_z w64 z) → d ≡ pos n → q ≡ quotient a d →
    nat_abs (to_z w64 (of_z w64 (to_z w128 (of_z w128 q)))) ≤ 4278190080
part-small z a d q n some few size e f is = let p = part-is z a d q n some few size e f is in rw (unchanged q p.1) p.1

part-fits : (z a d q : ℤ) (n : ℕ) → 1 ≤ n → n ≤ 2 ^ 56 → nat_abs z ≤ n → a ≡ to_z w64 (of_z w64 z) → d ≡ pos n → q ≡ quotient a d →
    SFits w64 (to_z w128 (of_z w128 q))
part-fits z a d q n some few size e f is = let most = (part-is z a d q n some few size e f is).1 in omega (arith, ints)

pub overflow_mul-from : goal.overflow_mul-from
overflow_mul-from c =
    rw (product-is c.args.number c.from.result c.args.most c.requires.most c.requires.number c.from.ensures) (omega (arith, ints, c.requires))

pub overflow_cast-result : goal.overflow_cast-result
overflow_cast-result c =
    let by = λ (q : ℤ). part-fits c.args.number c.from.result c.from-2.result q c.args.most c.requires.some c.requires.most c.requires.number
    c.from.ensures c.from-2.ensures in
    search (rules, by)

pub returns-clause-part : goal.returns-clause-part
returns-clause-part c =
    let by = λ (q : ℤ). part-same c.args.number c.from.result c.from-2.result q c.args.most c.requires.some c.requires.most c.requires.number
    c.from.ensures c.from-2.ensures in
    search (rules, by)

pub returns-clause-small : goal.returns-clause-small
returns-clause-small c =
    let by = λ (q : ℤ). part-small c.args.number c.from.result c.from-2.result q c.args.most c.requires.some c.requires.most c.requires.number
    c.from.ensures c.from-2.ensures in
    search (rules, by)
