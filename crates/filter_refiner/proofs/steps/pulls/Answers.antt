-- One pull more is that of its gradient and its coefficient, and in its bound.
use Rattle.std.proofs.Common.{◌≡◌, ◌≢◌, ◌^◌, ◌<◌, ◌≤◌, ℤ, pos, nat_abs, to_z, of_z, length, get_or, set, inl, inr}
use Rattle.std.proofs.Common.{length-set, get_or-set_other, get_or-set_same, below_more, refl, ap, sym, ◌∙◌, subst, arith}
use mir.Syntax.{w64}
use Rattle.std.proofs.lemmas.Int.{ints}
use Rattle.std.proofs.lemmas.Bool.{cases_lt}
use Rattle.std.proofs.lemmas.List.FromFn.{fill_by_all}
use Rattle.level_spec.specs.Refining.{pull}
use Rattle.filter_refiner.proofs.Numbers.{same_64, zeros-at}
use Rattle.filter_refiner.proofs.steps.pulls.Goals as goal

pub loop-lag-init : goal.loop-lag-init
loop-lag-init c = record { long = refl; known = λ k h. absurd (omega arith); most = λ k. omega (arith, ap nat_abs (zeros-at 128 k)) }

pub pull-pull-requires-clause-gradient : goal.pull-pull-requires-clause-gradient
pull-pull-requires-clause-gradient c =
    let small = c.requires.gradient c.loop-lag.lag in
    rw (same_64 (get_or c.args.gradient.now c.loop-lag.lag (pos 0)) (omega arith)) small

pub loop-lag-preserved : goal.loop-lag-preserved
loop-lag-preserved c =
    let j = c.loop-lag.lag in
    let r0 = to_z w64 (of_z w64 c.args.r0) in
    let sp = c.args.sums.agreement in
    let pp = c.args.sums.power in
    let g = get_or c.args.gradient.now j (pos 0) in
    let q = get_or c.args.filter.now j (pos 0) in
    let small = c.requires.gradient j in
    let few = c.coefficient.ensures.small in
    let is : c.pull-pull.result ≡ pull r0 sp pp g q = c.pull-pull.ensures.pull
    ∙ ap (λ z. pull r0 sp pp z (to_z w64 (of_z w64 c.coefficient.result))) (same_64 g (omega arith))
    ∙ ap (λ z. pull r0 sp pp g z) (same_64 c.coefficient.result (omega arith) ∙ c.coefficient.ensures.coefficient) in
    let most = c.pull-pull.ensures.most in
    let held : to_z w64 (of_z w64 c.pull-pull.result) ≡ c.pull-pull.result = omega (arith, ints) in
    let inside : j < length c.loop-lag.pulls = omega (arith, c.loop-lag.invariant.long) in
    record {
      long = omega (arith, length-set {A = ℤ}, c.loop-lag.invariant.long);
      known = below_more _ _
          (λ k h. let ne : k ≢ j = omega arith in rw get_or-set_other (c.loop-lag.invariant.known k h))
          (rw get_or-set_same (held ∙ is));
      most = λ k. elim (cases_lt k j) [
        | inl less ↦ let ne : k ≢ j = omega arith in rw get_or-set_other (c.loop-lag.invariant.most k)
        | inr more ↦ elim (cases_lt j k) [
          | inl past ↦ let ne : k ≢ j = omega arith in rw get_or-set_other (c.loop-lag.invariant.most k)
          | inr at ↦ let e : k ≡ j = omega arith in
              subst (λ q. nat_abs (get_or (set c.loop-lag.pulls j (to_z w64 (of_z w64 c.pull-pull.result))) q (pos 0)) ≤ 2 ^ 59) (sym e)
              (rw get_or-set_same (rw held most))
        ]
      ];
    }

pub returns-clause-pulls : goal.returns-clause-pulls
returns-clause-pulls c =
    fill_by_all (λ j. pull c.args.r0 c.args.sums.agreement c.args.sums.power (get_or c.args.gradient.now j (pos 0)) (get_or c.args.filter.now j (pos 0)))
    c.loop-lag.pulls 128 (pos 0) c.loop-lag.invariant.long (λ k h. c.loop-lag.invariant.known k (omega arith)
    ∙ ap (λ z. pull z c.args.sums.agreement c.args.sums.power (get_or c.args.gradient.now k (pos 0)) (get_or c.args.filter.now k (pos 0)))
    (same_64 c.args.r0 (omega (arith, c.requires.r0))))
