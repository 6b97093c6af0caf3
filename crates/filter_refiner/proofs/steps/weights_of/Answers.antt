-- The weight of a right guess and that of a wrong one are put at their two places, and make 256 together.
use Rattle.std.proofs.Common.{◌≡◌, ◌≢◌, ◌+◌, ◌-◌, ◌<◌, ℕ, length, set}
use Rattle.std.proofs.Common.{length-set, get_or-set_other, get_or-set_same, below_more, ap, ◌∙◌, arith}
use Rattle.filter_refiner.proofs.steps.weights_of.Goals as goal

pub loop-place-preserved : goal.loop-place-preserved
loop-place-preserved c =
    let j = c.loop-place.place in
    let counts = c.args.counts.now in
    let part = c.entry-part.result in
    let is = c.entry-part.ensures.entry in
    let least = c.entry-part.ensures.least in
    let most = c.entry-part.ensures.most in
    let old = c.loop-place.weights in
    let inside : j < length old = omega (arith, c.loop-place.invariant.long) in
    let within : j + 64 < length (set old j part) = omega (arith, length-set {A = ℕ}, c.loop-place.invariant.long) in
    let other : 255 - part + 1 ≡ 256 - part = omega arith in
    record {
      long = omega (arith, length-set {A = ℕ}, c.loop-place.invariant.long);
      right = below_more _ _
          (λ k h. let ne : k ≢ j + 64 = omega arith in let no : k ≢ j = omega arith in
          rw get_or-set_other (rw get_or-set_other (c.loop-place.invariant.right k h)))
          (let ne : j ≢ j + 64 = omega arith in rw get_or-set_other (rw get_or-set_same is));
      wrong = below_more _ _
          (λ k h. let ne : k + 64 ≢ j + 64 = omega arith in let no : k + 64 ≢ j = omega arith in
          rw get_or-set_other (rw get_or-set_other (c.loop-place.invariant.wrong k h)))
          (rw get_or-set_same (other ∙ ap (λ e. 256 - e) is));
    }
