-- The shift by 24 bits is the whole part, which fits; behind the last number both are 0.
use Rattle.std.proofs.Common.{◌≡◌, ◌≢◌, ◌^◌, ◌<◌, ◌≤◌, ℕ, ℤ, pos, nat_abs, to_z, of_z, List, length, get_or, inl, inr}
use Rattle.std.proofs.Common.{length-set, get_or-set_other, get_or-set_same, below_more, ap, sym, ◌∙◌, arith}
use mir.Syntax.{w64, w128}
use lib.Signed.{shr_z}
use Rattle.std.proofs.lemmas.Int.{ints}
use Rattle.std.proofs.lemmas.Bool.{cases_lt}
use Rattle.std.proofs.lemmas.List.{get_or_past}
use Rattle.level_spec.specs.Recursion.{whole}
use Rattle.filter_refiner.proofs.Numbers.{same_64, same_128, shifted, whole-most}
use Rattle.filter_refiner.proofs.solving.wholes.Goals as goal

-- the whole part of a number of 78 bits
part : (z : ℤ) → nat_abs z ≤ 2 ^ 78 →
    (to_z w128 (of_z w128 (shr_z (to_z w128 (of_z w128 z)) 16777216)) ≡ whole z)
    × (to_z w64 (of_z w64 (to_z w128 (of_z w128 (shr_z (to_z w128 (of_z w128 z)) 16777216)))) ≡ whole z) × (nat_abs (whole z) ≤ 2 ^ 54)
part z h =
    let most : nat_abs (whole z) ≤ 2 ^ 54 = whole-most z (2 ^ 54) (omega arith) in
    let shift : shr_z (to_z w128 (of_z w128 z)) 16777216 ≡ whole z = ap (λ z. shr_z z 16777216) (same_128 z (omega arith)) ∙ shifted z in
    let wide : to_z w128 (of_z w128 (shr_z (to_z w128 (of_z w128 z)) 16777216)) ≡ whole z =
    ap (λ z. to_z w128 (of_z w128 z)) shift ∙ same_128 (whole z) (omega arith) in
    (wide, ap (λ z. to_z w64 (of_z w64 z)) wide ∙ same_64 (whole z) (omega arith), most)

pub overflow_cast-wholes : goal.overflow_cast-wholes
overflow_cast-wholes c =
    let z = get_or c.args.numbers.now c.loop-j.j (pos 0) in
    let is = part z (c.requires c.loop-j.j) in
    rw is.0 (let most = is.2 in omega (arith, ints))

pub loop-j-preserved : goal.loop-j-preserved
loop-j-preserved c =
    let j = c.loop-j.j in
    let is = part (get_or c.args.numbers.now j (pos 0)) (c.requires j) in
    let inside : j < length c.loop-j.wholes = omega (arith, c.loop-j.invariant.long) in
    record {
      long = omega (arith, length-set {A = ℤ}, c.loop-j.invariant.long);
      known = below_more _ _
          (λ k h. let ne : k ≢ j = omega arith in rw get_or-set_other (c.loop-j.invariant.known k h))
          (rw get_or-set_same is.1);
    }

all : (wholes numbers : List ℤ) (k : ℕ) → length wholes ≡ 128 → length numbers ≡ 128 → ((k : ℕ) → k < 128 →
    get_or wholes k (pos 0) ≡ whole (get_or numbers k (pos 0))) →
    get_or wholes k (pos 0) ≡ whole (get_or numbers k (pos 0))
all wholes numbers k long many h = elim (cases_lt k 128) [
  | inl less ↦ h k less
  | inr more ↦ get_or_past wholes k (pos 0) (omega arith) ∙ sym (ap whole (get_or_past numbers k (pos 0) (omega arith)))
]

pub returns-clause-wholes : goal.returns-clause-wholes
returns-clause-wholes c = λ k. all c.loop-j.wholes c.args.numbers.now k c.loop-j.invariant.long c.told-numbers (λ k h. c.loop-j.invariant.known k (omega arith))

pub returns-clause-long : goal.returns-clause-long
returns-clause-long c = c.loop-j.invariant.long

pub returns-clause-most : goal.returns-clause-most
returns-clause-most c = λ k.
    rw (all c.loop-j.wholes c.args.numbers.now k c.loop-j.invariant.long c.told-numbers (λ k h. c.loop-j.invariant.known k (omega arith)))
    (part (get_or c.args.numbers.now k (pos 0)) (c.requires k)).2
