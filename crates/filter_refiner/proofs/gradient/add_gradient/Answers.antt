-- By the lemma on lags the sums of cells are how the samples agree, and adding them fits.
use Rattle.std.proofs.Common.{◌≡◌, ◌≢◌, ◌+◌, ◌*◌, ◌^◌, ◌<◌, ◌≤◌, ℤ, pos, ◌+ℤ◌, nat_abs, to_z, of_z, length, get_or, inl, inr}
use Rattle.std.proofs.Common.{length-set, get_or-set_other, get_or-set_same, below_more, refl, ap, ◌∙◌, arith}
use mir.Syntax.{w64}
use Rattle.std.proofs.lemmas.Int.{ints}
use Rattle.std.proofs.lemmas.Bool.{cases_lt}
use Rattle.level_spec.specs.Correlation.{sum_over}
use Rattle.level_spec.specs.Refining.{weighted_agreement}
use Rattle.filter_refiner.specs.Cells.{weighted, taken}
use Rattle.filter_refiner.proofs.Numbers.{zero_cells}
use Rattle.filter_refiner.proofs.Agreeing.{lag-is, agreement-most}
use Rattle.filter_refiner.proofs.gradient.add_gradient.Goals as goal

pub add_bytes-requires-clause-zeros : goal.add_bytes-requires-clause-zeros
add_bytes-requires-clause-zeros c = λ cell lane. zero_cells 544 8 cell lane

pub loop-lag-init : goal.loop-lag-init
loop-lag-init c = record { long = c.told-gradient; done = λ j h. absurd (omega arith); rest = λ j h. refl }

pub overflow_add-gradient : goal.overflow_add-gradient
overflow_add-gradient c =
    let j = c.loop-lag.lag in
    let before = c.loop-lag.invariant.rest j (omega arith) in
    let small = c.requires.gradient j in
    let most = c.lag_sum-sum.ensures.most in
    let held : nat_abs (get_or c.loop-lag.gradient j (pos 0)) ≤ 2 ^ 40 = rw before small in
    omega (arith, ints)

pub loop-lag-preserved : goal.loop-lag-preserved
loop-lag-preserved c =
    let f = c.args.channels in
    let j = c.loop-lag.lag in
    let bytes = c.fill_history-octets.new.bytes in
    let weights = c.args.weights.now in
    let codes = c.args.codes.now in
    let old = get_or c.loop-lag.gradient j (pos 0) in
    let before = c.loop-lag.invariant.rest j (omega arith) in
    let small = c.requires.gradient j in
    let most = c.lag_sum-sum.ensures.most in
    let held : nat_abs old ≤ 2 ^ 40 = rw before small in
    let new : to_z w64 (of_z w64 (to_z w64 (of_z w64 old) +ℤ to_z w64 (of_z w64 c.lag_sum-sum.result))) ≡ old +ℤ c.lag_sum-sum.result = omega (arith, ints) in
    let is : c.lag_sum-sum.result ≡ weighted_agreement f c.args.sound.now (λ c t. get_or weights (get_or codes t 0) 0) c.args.first c.args.channel j =
    c.lag_sum-sum.ensures.sum
    ∙ lag-is f c.args.sound.now codes weights c.args.channel c.args.first j c.add_bytes.new.cells bytes c.fill_history-octets.ensures.history
    (omega (arith, c.requires.first, c.fill_history-octets.ensures.count, c.fill_history-octets.ensures.least)) c.loop-lag-test.true (λ cell lane
    inside near. c.add_bytes.ensures.cells cell lane inside near
    ∙ ap (sum_over (λ m. taken bytes m cell (weighted bytes codes weights c.args.first (8 * m + lane))) 0) c.fill_history-octets.ensures.count) in
    let inside : j < length c.loop-lag.gradient = omega (arith, c.loop-lag.invariant.long) in
    record {
      long = omega (arith, length-set {A = ℤ}, c.loop-lag.invariant.long);
      done = below_more _ _
          (λ k h. let ne : k ≢ j = omega arith in rw get_or-set_other (c.loop-lag.invariant.done k h))
          (rw get_or-set_same (new ∙ ap (λ z. z +ℤ c.lag_sum-sum.result) before ∙ ap (λ z. get_or c.args.gradient.now j (pos 0) +ℤ z) is));
      rest = λ k h. let ne : k ≢ j = omega arith in rw get_or-set_other (c.loop-lag.invariant.rest k (omega arith));
    }

pub returns-clause-gradient : goal.returns-clause-gradient
returns-clause-gradient c = λ k h. c.loop-lag.invariant.done k (omega arith)

pub returns-clause-most : goal.returns-clause-most
returns-clause-most c = λ k. elim (cases_lt k 128) [
  | inl less ↦
      let part = agreement-most c.args.channels c.args.sound.now c.args.codes.now c.args.weights.now c.args.channel c.args.first k c.fits-weights
      (omega (arith, c.fill_history-octets.ensures.count, c.fill_history-octets.ensures.most)) in
      rw (c.loop-lag.invariant.done k (omega arith)) (omega (arith, ints))
  | inr more ↦ rw (c.loop-lag.invariant.rest k (omega arith)) (omega arith)
]
