-- Each value is brought between 2 ^ 40 and its opposite.
use Rattle.std.proofs.Common.{◌^◌, ℤ, to_z, of_z, length-set, refl, arith}
use mir.Syntax.{w64}
use Rattle.std.proofs.lemmas.Int.{ints, clamps}
use Rattle.filter_refiner.proofs.Numbers.{zeros-at}
use Rattle.filter_analyser.proofs.Writing.{set-most}
use Rattle.pick_tests.proofs.picks.solution_from.Goals as goal

pub loop-place-init : goal.loop-place-init
loop-place-init c = (refl, λ k. rw (zeros-at 128 k) (omega arith))

pub loop-place-preserved : goal.loop-place-preserved
loop-place-preserved c =
    let less = c.min-value.ensures.value in
    let more = c.max.ensures.value in (
      omega (arith, length-set {A = ℤ}, c.loop-place.invariant.0),
      set-most c.loop-place.solution c.loop-place.place (2 ^ 40)
          (to_z w64 (of_z w64 c.min-value.result)) (omega (arith, c.loop-place.invariant.0)) c.loop-place.invariant.1 (omega (arith, ints, clamps)),
    )
