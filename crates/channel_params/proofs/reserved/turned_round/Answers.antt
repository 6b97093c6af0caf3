-- One bit more comes behind those that are turned round, and seven of them are less than 128.
use Rattle.std.proofs.Common.{◌≡◌, ◌+◌, ◌*◌, ◌/◌, ◌%◌, ap, ◌∙◌, refl, arith}
use Rattle.std.proofs.lemmas.Nat.{shr-shr}
use Rattle.channel_params.specs.Reserved.{turned}
use Rattle.channel_params.proofs.Maps.{turned-suc, turned-small}
use Rattle.channel_params.proofs.reserved.turned_round.Goals as goal
use Rattle.channel_params.proofs.reserved.turned_round.Goals.{In-loop-place}

next : (c : In-loop-place) → 2 * c.loop-place.number + c.loop-place.left % 2 ≡ turned (c.loop-place.place + 1) c.args.bits
next c =
    let value = c.loop-place.invariant.0 in
    let left = ap (λ x. x % 2) c.loop-place.invariant.1 in
    omega (arith, turned-suc c.loop-place.place c.args.bits, value, left)

pub loop-place-init : goal.loop-place-init
unfolding turned
loop-place-init c = (refl, omega arith)

pub overflow_mul-number : goal.overflow_mul-number
overflow_mul-number c = omega (arith, next c, turned-small (c.loop-place.place + 1) c.args.bits (omega arith))

pub overflow_add-number : goal.overflow_add-number
overflow_add-number c = omega (arith, next c, turned-small (c.loop-place.place + 1) c.args.bits (omega arith))

pub loop-place-preserved : goal.loop-place-preserved
loop-place-preserved c = (next c, ap (λ x. x / 2) c.loop-place.invariant.1 ∙ shr-shr c.args.bits c.loop-place.place 1)

pub returns-clause-value : goal.returns-clause-value
returns-clause-value c =
    let all : c.loop-place.place ≡ 7 = omega arith in
    c.loop-place.invariant.0 ∙ ap (λ n. turned n c.args.bits) all

pub returns-clause-small : goal.returns-clause-small
returns-clause-small c = omega (arith, c.loop-place.invariant.0, turned-small c.loop-place.place c.args.bits (omega arith))
