-- Each residual has at most 2,057 bits, and there are at most 128 of them, so the sum fits.
use Rattle.std.proofs.Common.{◌≡◌, ◌≤◌, ℤ, pos, rules, length, get_or, arith}
use Rattle.std.proofs.lemmas.Int.{to_z-of_z}
use Rattle.std.proofs.lemmas.List.Sums.{sum_by_more}
use mir.Val.{SFits}
use mir.Syntax.{w32}
use Rattle.dst_spec.specs.Rice.{rice}
use Rattle.dst_spec.proofs.Lists.{get_all}
use Rattle.table_code.specs.Choices.{IsResidual}
use Rattle.table_code.proofs.Lengths.{rice_most}
use Rattle.table_code.proofs.spelling.lengths.Goals as goal

length_is : (c : goal.After-rice_length-sum) → c.rice_length-sum.result ≡ length (rice (get_or c.args.residuals.now c.loop-r.r-index (pos 0)) c.args.m)
length_is c =
    let r : ℤ = get_or c.args.residuals.now c.loop-r.r-index (pos 0) in
    let fits : SFits w32 r = search rules in
    rw (to_z-of_z w32 r fits) at c.rice_length-sum.ensures

length_most : (c : goal.After-rice_length-sum) → c.rice_length-sum.result ≤ 2057
length_most c =
    let r : ℤ = get_or c.args.residuals.now c.loop-r.r-index (pos 0) in
    rw (length_is c) (rice_most r c.args.m (get_all IsResidual c.args.residuals.now c.loop-r.r-index (pos 0) c.requires.each (omega arith)) c.requires.small)

pub overflow_add-sum : goal.overflow_add-sum
overflow_add-sum c = record { fits = omega (arith, length_most c, c.loop-r.invariant.most) }

pub loop-r-preserved : goal.loop-r-preserved
loop-r-preserved c = record {
  summed = omega (
    arith,
    length_is c,
    c.loop-r.invariant.summed,
    sum_by_more (λ r. length (rice r c.args.m)) c.args.residuals.now c.loop-r.r-index (pos 0) (omega arith),
  );
  most = omega (arith, length_most c, c.loop-r.invariant.most);
}
