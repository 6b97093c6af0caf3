-- The square of a number below 2 ^ 32 fits; the digit is 1 where the square reaches 2, else 0.
use Rattle.std.proofs.Common.{◌-◌, ◌^◌, arith}
use Rattle.std.proofs.lemmas.Nat.{mul-le}
use Rattle.filter_refiner.proofs.Logarithms.{digit-one, digit-none}
use Rattle.filter_refiner.proofs.sizes.next_digit.Goals as goal

pub overflow_mul-square : goal.overflow_mul-square
overflow_mul-square c =
    let most = mul-le c.args.rest c.args.rest (2 ^ 32 - 1) (2 ^ 32 - 1) (omega (arith, c.requires.rest)) (omega (arith, c.requires.rest)) in
    omega arith

pub returns-then-square : goal.returns-then-square
returns-then-square c =
    let most = mul-le c.args.rest c.args.rest (2 ^ 32 - 1) (2 ^ 32 - 1) (omega (arith, c.requires.rest)) (omega (arith, c.requires.rest)) in
    record { next = digit-one c.args.rest c.args.digits c.if-square.true; rest = omega arith; digits = omega arith }

pub returns-else-square : goal.returns-else-square
returns-else-square c = record { next = digit-none c.args.rest c.args.digits c.if-square.false; rest = omega arith; digits = omega arith }
