-- The probability, scaled by its power of 2, is below 2 with 31 fraction bits, and its digits are those defined.
use Rattle.std.proofs.Common.{◌≡◌, ◌-◌, ◌*◌, ◌%◌, ◌^◌, ℕ, ap, ◌∙◌, arith}
use Rattle.level_spec.specs.Size.{digits_after, bits_of}
use Rattle.filter_refiner.proofs.Logarithms.{scaled}
use Rattle.filter_refiner.proofs.sizes.bits_of.Goals as goal

pub digits_of-requires : goal.digits_of-requires
digits_of-requires c =
    let small = scaled c.args.probability c.power_in-power.result c.power_in-power.ensures.most c.power_in-power.ensures.above in
    omega arith

pub returns-clause-bits : goal.returns-clause-bits
unfolding bits_of
returns-clause-bits c =
    let x = c.args.probability in
    let p = c.power_in-power.result in
    let small = scaled x p c.power_in-power.ensures.most c.power_in-power.ensures.above in
    let whole : x * 2 ^ (31 - p) % 2 ^ 64 ≡ x * 2 ^ (31 - p) = omega arith in
    let D : ℕ → ℕ = λ r. (digits_after 12 (record { rest = r; digits = 0 })).digits in
    ap (λ d. 4096 * (8 - p) - d) (c.digits_of.ensures.digits ∙ ap D whole)
    ∙ ap (λ p. 4096 * (8 - p) - D (x * 2 ^ (31 - p))) c.power_in-power.ensures.power
