-- Each value is brought between the first one and its opposite, and the first one is written at the front.
use Rattle.std.proofs.Common.{◌≡◌, ◌^◌, ◌<◌, ◌≤ℤ◌, ℤ, pos, nat_abs, to_z, of_z, length, get_or, set, get_or-set_same, length-set, refl, arith}
use mir.Syntax.{w64}
use Rattle.std.proofs.lemmas.Int.{ints, clamps}
use Rattle.filter_refiner.proofs.Numbers.{zeros-at}
use Rattle.filter_analyser.proofs.Writing.{set-most}
use Rattle.pick_tests.proofs.picks.lags_from.Goals as goal

pub loop-lag-init : goal.loop-lag-init
loop-lag-init c =
    let less = c.min-first.ensures.value in
    let more = c.max.ensures.value in
    let least : pos 1 ≤ℤ to_z w64 (of_z w64 c.min-first.result) = omega (arith, ints, clamps) in
    let most : to_z w64 (of_z w64 c.min-first.result) ≤ℤ pos (2 ^ 20) = omega (arith, ints, clamps) in
    (refl, λ k. rw (zeros-at 129 k) (omega arith), least, most)

pub loop-lag-preserved : goal.loop-lag-preserved
loop-lag-preserved c =
    let less = c.min-value.ensures.value in
    let more = c.max-in-loop-lag.ensures.value in
    let least = c.loop-lag.invariant.2 in
    let most = c.loop-lag.invariant.3 in (
      omega (arith, length-set {A = ℤ}, c.loop-lag.invariant.0),
      set-most c.loop-lag.lags c.loop-lag.lag (nat_abs (to_z w64 (of_z w64 c.min-first.result))) (to_z w64 (of_z w64 c.min-value.result))
          (omega (arith, c.loop-lag.invariant.0)) c.loop-lag.invariant.1 (omega (arith, ints, clamps)),
      least,
      most,
    )

pub returns : goal.returns
returns c =
    let first = to_z w64 (of_z w64 c.min-first.result) in
    let inside : 0 < length c.loop-lag.lags = omega (arith, c.loop-lag.invariant.0) in
    let stored : get_or (set c.loop-lag.lags 0 first) 0 (pos 0) ≡ first = rw get_or-set_same refl in
    record {
      least = rw stored c.loop-lag.invariant.2;
      most = rw stored c.loop-lag.invariant.3;
      others = λ k. rw stored (set-most c.loop-lag.lags 0 (nat_abs first) first inside c.loop-lag.invariant.1 (omega arith) k);
    }
