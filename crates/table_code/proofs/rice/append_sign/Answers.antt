-- A positive residual has the sign bit 0, a negative one the bit 1.
use Rattle.std.proofs.Common.{◌++◌, ◌<ℤ◌, pos, rules, ap, ◌∙◌, arith}
use Rattle.std.proofs.lemmas.Int.{ints, to_z-of_z}
use mir.Val.{SFits}
use mir.Syntax.{w32}
use Rattle.table_code.proofs.RiceParts.{sign_of_positive, sign_of_negative}
use Rattle.table_code.proofs.rice.append_sign.Goals as goal

pub returns-then-r-gt0-clause-bits : goal.returns-then-r-gt0-clause-bits
returns-then-r-gt0-clause-bits c =
    let fits : SFits w32 c.args.r = search rules in
    let test = rw (to_z-of_z w32 c.args.r fits) at c.if-r-gt0.true in
    let some : pos 0 <ℤ c.args.r = omega (arith, ints) in
    c.append.ensures.bits ∙ ap (λ xs. c.args.writer.now.bits ++ xs) (sign_of_positive c.args.r some)

pub returns-then-r-lt0-clause-bits : goal.returns-then-r-lt0-clause-bits
returns-then-r-lt0-clause-bits c =
    let fits : SFits w32 c.args.r = search rules in
    let test = rw (to_z-of_z w32 c.args.r fits) at c.if-r-lt0.true in
    let some : c.args.r <ℤ pos 0 = omega (arith, ints) in
    c.append-then-r-lt0.ensures.bits ∙ ap (λ xs. c.args.writer.now.bits ++ xs) (sign_of_negative c.args.r some)
