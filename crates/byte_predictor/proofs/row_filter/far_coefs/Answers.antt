-- The first eight places are 0, the others have the coefficients there, so each number is in a filter's range.
use Rattle.std.proofs.Common.{subst, sym, refl, arith}
use Rattle.dst_spec.specs.Table.{filter_kind, InRange}
use Rattle.byte_predictor.proofs.Lanes.{is-far, far-range, zeros-at}
use Rattle.byte_predictor.proofs.row_filter.far_coefs.Goals as goal

pub loop-j-init : goal.loop-j-init
loop-j-init c = (refl, λ k h. zeros-at 136 k, λ k h i. absurd (omega arith), λ k h. zeros-at 136 k, omega arith)

pub returns-clause-places : goal.returns-clause-places
returns-clause-places c =
    is-far c.args.coefs.now c.loop-j.later c.requires.most c.loop-j.invariant.0 c.loop-j.invariant.1 (λ k h i. c.loop-j.invariant.2 k h (omega arith))
    (λ k h. c.loop-j.invariant.3 k (omega arith))

pub returns-clause-range : goal.returns-clause-range
returns-clause-range c = λ k.
    let at = is-far c.args.coefs.now c.loop-j.later c.requires.most c.loop-j.invariant.0 c.loop-j.invariant.1
    (λ m h i. c.loop-j.invariant.2 m h (omega arith)) (λ m h. c.loop-j.invariant.3 m (omega arith)) k in
    subst (InRange filter_kind) (sym at) (far-range c.args.coefs.now k c.requires.each)
