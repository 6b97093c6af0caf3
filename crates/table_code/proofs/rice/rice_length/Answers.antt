-- A residual has its quotient in zeros, a one, the low bits, and a sign where it isn't 0.
use Rattle.std.proofs.Common.{◌≡◌, nat_abs, rules, arith, ap, ◌∙◌}
use Rattle.std.proofs.lemmas.Int.{to_z-of_z}
use mir.Val.{SFits}
use mir.Syntax.{w32}
use Rattle.dst_spec.proofs.Rices.{length-rice, length-sign_bits}
use Rattle.table_code.proofs.RiceParts.{sign_bit}
use Rattle.table_code.proofs.rice.rice_length.Goals as goal

pub returns : goal.returns
returns c =
    let fits : SFits w32 c.args.r = search rules in
    let size : c.unsigned_abs-size.result ≡ nat_abs c.args.r = c.unsigned_abs-size.ensures.value ∙ ap nat_abs (to_z-of_z w32 c.args.r fits) in
    let long = length-rice c.args.r c.args.m in
    let sign = length-sign_bits c.args.r in
    let one = c.from.ensures ∙ sign_bit c.unsigned_abs-size.result in
    rw (one, size, long, sign) (omega arith)
