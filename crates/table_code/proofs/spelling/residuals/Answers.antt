-- A value and an eighth are small, so their sum is a residual, and it is the next one that the method leaves.
use Rattle.std.proofs.Common.{◌≡◌, ◌+◌, ℤ, pos, negsuc, ◌+ℤ◌, ◌≤ℤ◌, rules, [], ◌∷◌, ◌++◌, length, length-append, get_or, take, drop, reverse, ap, sym}
use Rattle.std.proofs.Common.{subst, ◌∙◌, arith, append_assoc}
use Rattle.std.proofs.lemmas.Int.{ints, to_z-of_z, fits_signed_from_abs}
use Rattle.std.specs.List.{AllByRecursion}
use mir.Val.{SFits}
use mir.Syntax.{w32}
use Rattle.dst_spec.specs.Table.{InRange, eighth}
use Rattle.dst_spec.proofs.Lists.{get_all, all_append}
use Rattle.table_code.specs.Choices.{residuals, IsResidual}
use Rattle.table_code.proofs.Weighing.{abs_most}
use Rattle.table_code.proofs.Lengths.{residuals_next}
use Rattle.table_code.proofs.spelling.residuals.Goals as goal

pub overflow_add-values : goal.overflow_add-values
overflow_add-values g c =
    let K = g.K.TableKind.kind in
    let small = g.met.K.TableKind.small in
    let v : ℤ = get_or c.args.values.now c.loop-j.j (pos 0) in
    let range = get_all (InRange K) c.args.values.now c.loop-j.j (pos 0) c.requires.each (omega arith) in
    let fits_v : SFits w32 v = search rules in
    let fits_e : SFits w32 c.eighth.result = search rules in
    let r : ℤ = v +ℤ c.eighth.result in
    let low : negsuc 2047 ≤ℤ r = omega (arith, ints, range.0, small.least, c.eighth.ensures.lowest) in
    let high : r ≤ℤ pos 2047 = omega (arith, ints, range.1, small.greatest, c.eighth.ensures.highest) in
    rw (to_z-of_z w32 v fits_v, to_z-of_z w32 c.eighth.result fits_e) (omega (arith, ints))

pub loop-j-preserved : goal.loop-j-preserved
loop-j-preserved g c =
    let K = g.K.TableKind.kind in
    let small = g.met.K.TableKind.small in
    let v : ℤ = get_or c.args.values.now c.loop-j.j (pos 0) in
    let r : ℤ = v +ℤ c.eighth.result in
    let range = get_all (InRange K) c.args.values.now c.loop-j.j (pos 0) c.requires.each (omega arith) in
    let low : negsuc 2047 ≤ℤ r = omega (arith, ints, range.0, small.least, c.eighth.ensures.lowest) in
    let high : r ≤ℤ pos 2047 = omega (arith, ints, range.1, small.greatest, c.eighth.ensures.highest) in
    let fits_v : SFits w32 v = search rules in
    let fits_e : SFits w32 c.eighth.result = search rules in
    let fits : SFits w32 r = fits_signed_from_abs w32 r (omega (arith, abs_most r 2048 (omega (arith, ints)) (omega (arith, ints)))) in
    let pushed : c.push.new.self.items ≡ c.loop-j.residuals.items ++ r ∷ [] =
    rw (to_z-of_z w32 v fits_v, to_z-of_z w32 c.eighth.result fits_e, to_z-of_z w32 r fits) at c.push.ensures.items in
    let ws = K.weights c.args.method in
    let is : r ≡ v +ℤ eighth ws (reverse (take c.loop-j.j c.args.values.now)) = ap (λ e. v +ℤ e) c.eighth.ensures.eighth in
    let next = residuals_next ws c.args.values.now c.loop-j.j r (omega arith) is in
    let behind = residuals ws (reverse (take (c.loop-j.j + 1) c.args.values.now)) (drop (c.loop-j.j + 1) c.args.values.now) in
    record {
      counted = omega (arith, ap length pushed, length-append c.loop-j.residuals.items (r ∷ []), c.loop-j.invariant.counted);
      each = subst (AllByRecursion IsResidual) (sym pushed) (all_append IsResidual c.loop-j.residuals.items (r ∷ []) c.loop-j.invariant.each ((low, high), tt));
      rest = ap (λ xs. xs ++ behind) pushed ∙ append_assoc c.loop-j.residuals.items (r ∷ []) behind ∙ ap (λ xs. c.loop-j.residuals.items ++ xs) (sym next)
          ∙ c.loop-j.invariant.rest;
    }
