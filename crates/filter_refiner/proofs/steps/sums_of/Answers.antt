-- One place more adds its agreement and its power, and both sums fit.
use Rattle.std.proofs.Common.{◌≡◌, ◌+◌, ◌*◌, ℕ, pos, ◌+ℤ◌, ◌-ℤ◌, ◌*ℤ◌, to_z, of_z, get_or, ap, sym, ◌∙◌, arith}
use mir.Syntax.{w64}
use Rattle.std.proofs.lemmas.Int.{ints}
use Rattle.level_spec.specs.Correlation.{sum_over}
use Rattle.level_spec.specs.Refining.{agreement, power}
use Rattle.filter_refiner.proofs.Numbers.{sum_over-next}
use Rattle.filter_refiner.proofs.steps.sums_of.Goals as goal

pub loop-place-init : goal.loop-place-init
unfolding sum_over
loop-place-init c = record { agreement = omega (arith, ints); power = omega (arith, ints); few = omega (arith, ints); most = omega arith }

pub overflow_add-agreement : goal.overflow_add-agreement
overflow_add-agreement c =
    let few = c.loop-place.invariant.few in
    let most = c.agreement_at-agreement.ensures.most in
    omega (arith, ints)

pub overflow_add-power : goal.overflow_add-power
overflow_add-power c =
    let few = c.loop-place.invariant.most in
    let most = c.power_at-power.ensures.most in
    omega (arith, ints)

pub loop-place-preserved : goal.loop-place-preserved
loop-place-preserved c =
    let counts = c.args.counts.now in
    let p = c.loop-place.place in
    let A = λ (p : ℕ). (pos (get_or counts p 0 + get_or counts (p + 64) 0) -ℤ pos (2 * get_or counts (p + 64) 0)) *ℤ pos (8 * p + 4) in
    let P = λ (p : ℕ). pos ((get_or counts p 0 + get_or counts (p + 64) 0) * ((8 * p + 4) * (8 * p + 4))) in
    let few = c.loop-place.invariant.few in
    let most = c.agreement_at-agreement.ensures.most in
    let z : 0 + p ≡ p = omega arith in
    let next : sum_over A 0 (p + 1) ≡ sum_over A 0 p +ℤ A p = sum_over-next A 0 p ∙ ap (λ k. sum_over A 0 p +ℤ A k) z in
    let more : sum_over P 0 (p + 1) ≡ sum_over P 0 p +ℤ P p = sum_over-next P 0 p ∙ ap (λ k. sum_over P 0 p +ℤ P k) z in
    let new : to_z w64 (of_z w64 (to_z w64 c.loop-place.agreement-bits +ℤ to_z w64 (of_z w64 c.agreement_at-agreement.result)))
    ≡ to_z w64 c.loop-place.agreement-bits +ℤ c.agreement_at-agreement.result = omega (arith, ints) in
    record {
      agreement = new ∙ ap (λ z. z +ℤ c.agreement_at-agreement.result) c.loop-place.invariant.agreement
          ∙ ap (λ z. sum_over A 0 p +ℤ z) c.agreement_at-agreement.ensures.agreement ∙ sym next;
      power = (let e : pos (c.loop-place.power + c.power_at-power.result) ≡ pos c.loop-place.power +ℤ pos c.power_at-power.result = omega (arith, ints) in e)
          ∙ ap (λ z. z +ℤ pos c.power_at-power.result) c.loop-place.invariant.power
          ∙ ap (λ n. sum_over P 0 p +ℤ pos n) c.power_at-power.ensures.power ∙ sym more;
      few = rw new (omega (arith, ints));
      most = omega (arith, c.power_at-power.ensures.most, c.loop-place.invariant.most);
    }

pub returns-clause-agreement : goal.returns-clause-agreement
unfolding agreement
returns-clause-agreement c =
    let all : c.loop-place.place ≡ 64 = omega arith in
    c.loop-place.invariant.agreement ∙ ap (sum_over (λ p. (pos (get_or c.args.counts.now p 0 + get_or c.args.counts.now (p + 64) 0)
    -ℤ pos (2 * get_or c.args.counts.now (p + 64) 0)) *ℤ pos (8 * p + 4)) 0) all

pub returns-clause-power : goal.returns-clause-power
unfolding power
returns-clause-power c =
    let all : c.loop-place.place ≡ 64 = omega arith in
    let most = c.loop-place.invariant.most in
    (let e : to_z w64 c.loop-place.power ≡ pos c.loop-place.power = omega (arith, ints) in e)
    ∙ c.loop-place.invariant.power ∙ ap (sum_over (λ p. pos ((get_or c.args.counts.now p 0 + get_or c.args.counts.now (p + 64) 0) * ((8 * p + 4)
    * (8 * p + 4)))) 0) all

pub returns-clause-few : goal.returns-clause-few
returns-clause-few c = omega (arith, c.loop-place.invariant.few)

pub returns-clause-least : goal.returns-clause-least
returns-clause-least c = let most = c.loop-place.invariant.most in omega (arith, ints)

pub returns-clause-most : goal.returns-clause-most
returns-clause-most c = let most = c.loop-place.invariant.most in omega (arith, ints)
