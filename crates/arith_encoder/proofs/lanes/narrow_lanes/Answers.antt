-- At first no symbol is taken, and each step takes one more in every lane.
use Rattle.std.proofs.Common.{◌≤◌, false, [], length, get_or, sym, subst, arith}
use Rattle.std.proofs.lemmas.List.{take_all}
use Rattle.dst_spec.proofs.Lists.{get_or-zeros}
use Rattle.arith_encoder.specs.Lanes.{Leaves}
use Rattle.arith_encoder.proofs.SideBySide.{none-taken, step-of, leaves-more}
use Rattle.arith_encoder.proofs.lanes.narrow_lanes.Goals as goal

pub loop-step-init : goal.loop-step-init
loop-step-init c = λ lane pairs lt h r.
    subst (Leaves (get_or c.args.ranges.now lane 0) [] (get_or c.args.ranges.now lane 0)) (sym (get_or-zeros 8 lane))
    (none-taken (get_or c.args.ranges.now lane 0) r)

pub loop-step-preserved : goal.loop-step-preserved
loop-step-preserved c = λ lane pairs lt h r.
    let k = c.loop-step.step-index in
    leaves-more (get_or c.args.ranges.now lane 0) lane c.args.steps.now pairs k (get_or c.loop-step.now lane 0) (get_or c.loop-step.doublings lane 0)
    (get_or c.narrow_each.new.ranges lane 0) (get_or c.narrow_each.new.doublings lane 0) h c.loop-step-test.true c.requires
    (c.loop-step.invariant lane pairs lt h r)
    (λ now. c.narrow_each.ensures lane (get_or pairs k (false, 0)).0 (get_or pairs k (false, 0)).1 lt
    (step-of lane c.args.steps.now pairs k [] h c.loop-step-test.true) now)

pub returns : goal.returns
returns c = λ lane pairs lt h r.
    let k = c.loop-step.step-index in
    let long = h.long in
    let all : length pairs ≤ k = omega arith in
    subst (λ xs. Leaves (get_or c.args.ranges.now lane 0) xs (get_or c.loop-step.now lane 0) (get_or c.loop-step.doublings lane 0))
    (take_all k pairs all) (c.loop-step.invariant lane pairs lt h r)
