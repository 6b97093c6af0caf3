-- The coefficients stand eight places behind, with zeros around them, so each number is in a filter's range.
use Rattle.std.proofs.Common.{subst, sym, refl, arith}
use Rattle.dst_spec.specs.Table.{filter_kind, InRange}
use Rattle.byte_predictor.proofs.Lanes.{zeros-at}
use Rattle.byte_predictor.proofs.KnownSums.{is-shifted, shifted-range}
use Rattle.byte_predictor.proofs.known.shifted_coefs.Goals as goal

pub loop-j-init : goal.loop-j-init
loop-j-init c = (refl, λ k h. zeros-at 144 k, λ k h. absurd (omega arith), λ k h. zeros-at 144 k)

pub returns-clause-places : goal.returns-clause-places
returns-clause-places c =
    is-shifted c.args.coefs.now c.loop-j.later c.requires.most c.loop-j.invariant.1 (λ k h. c.loop-j.invariant.2 k (omega arith))
    (λ k h. c.loop-j.invariant.3 k (omega arith))

pub returns-clause-range : goal.returns-clause-range
returns-clause-range c = λ k. subst (InRange filter_kind) (sym (returns-clause-places c k)) (shifted-range c.args.coefs.now k c.requires.each c.requires.most)
