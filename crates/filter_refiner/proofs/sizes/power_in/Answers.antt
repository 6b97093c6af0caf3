-- The first power of 2 above the number tells the one below it; behind the last one it is 7.
use Rattle.std.proofs.Common.{◌≡◌, ◌+◌, ◌^◌, ◌≤◌, refl, sym, subst, arith}
use Rattle.filter_refiner.proofs.Logarithms.{power-next, power-below, power-is}
use Rattle.filter_refiner.proofs.sizes.power_in.Goals as goal

pub loop-power-init : goal.loop-power-init
loop-power-init c = record { next = refl; below = c.requires.least }

pub overflow_mul-next : goal.overflow_mul-next
overflow_mul-next c = let few = power-below (c.loop-power.power + 1) 8 (omega arith) in omega (arith, c.loop-power.invariant.next)

pub loop-power-preserved : goal.loop-power-preserved
loop-power-preserved c =
    let twice = power-next (c.loop-power.power + 1) in
    let next = c.loop-power.invariant.next in
    record { next = omega arith; below = omega arith }

pub returns-then-number-next-clause-power : goal.returns-then-number-next-clause-power
returns-then-number-next-clause-power c =
    let next = c.loop-power.invariant.next in
    sym (power-is c.args.number c.loop-power.power (omega arith) c.loop-power.invariant.below (omega arith))

pub returns-then-number-next-clause-above : goal.returns-then-number-next-clause-above
returns-then-number-next-clause-above c = let next = c.loop-power.invariant.next in omega arith

pub returns-clause-power : goal.returns-clause-power
returns-clause-power c =
    let all : c.loop-power.power ≡ 7 = omega arith in
    let below : 2 ^ 7 ≤ c.args.number = subst (λ k. 2 ^ k ≤ c.args.number) all c.loop-power.invariant.below in
    sym (power-is c.args.number 7 (omega arith) below (omega arith))
