-- Each step takes the next digit, and twelve digits are below 4,096.
use Rattle.std.proofs.Common.{◌≡◌, refl, ap, ◌∙◌, arith}
use Rattle.level_spec.specs.Size.{Logarithm, next_digit, digits_after}
use Rattle.filter_refiner.proofs.Logarithms.{power-next, power-below, digits-next}
use Rattle.filter_refiner.proofs.sizes.digits_of.Goals as goal

pub loop-step-init : goal.loop-step-init
unfolding digits_after
loop-step-init c = record { state = refl; rest = c.requires; digits = omega arith }

pub next_digit-next-requires-clause-digits : goal.next_digit-next-requires-clause-digits
next_digit-next-requires-clause-digits c = let few = power-below c.loop-step._step 12 (omega arith) in omega (arith, c.loop-step.invariant.digits)

pub loop-step-preserved : goal.loop-step-preserved
loop-step-preserved c =
    let n = c.loop-step._step in
    let start : Logarithm = record { rest = c.args.number; digits = 0 } in
    record {
      state = c.next_digit-next.ensures.next ∙ ap next_digit c.loop-step.invariant.state ∙ digits-next n start;
      rest = c.next_digit-next.ensures.rest;
      digits = let twice = power-next n in omega (arith, c.next_digit-next.ensures.digits, c.loop-step.invariant.digits);
    }

pub returns-clause-digits : goal.returns-clause-digits
returns-clause-digits c =
    let all : c.loop-step._step ≡ 12 = omega arith in
    let start : Logarithm = record { rest = c.args.number; digits = 0 } in
    ap (λ s. s.digits) (c.loop-step.invariant.state ∙ ap (λ n. digits_after n start) all)

pub returns-clause-most : goal.returns-clause-most
returns-clause-most c = let few = power-below c.loop-step._step 12 (omega arith) in omega (arith, c.loop-step.invariant.digits)
