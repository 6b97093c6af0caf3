-- One value more is scaled and bounded, and the front is that of all values.
use Rattle.std.proofs.Common.{◌≡◌, ◌<◌, ◌≢◌, ℤ, pos, to_z, of_z, length, map, get_or, take, length-take, length-set, get_or-set_other}
use Rattle.std.proofs.Common.{get_or-set_same, below_more, ap, sym, ◌∙◌, arith}
use mir.Syntax.{w16, w64}
use Rattle.std.proofs.lemmas.Int.{ints}
use Rattle.std.proofs.lemmas.List.{ext_get_or, get_or-take, length-map}
use Rattle.level_spec.specs.Scale.{coefficient, bounded}
use Rattle.filter_refiner.proofs.Fitted.{get_or-mapped}
use Rattle.filter_refiner.proofs.Numbers.{same_64}
use Rattle.filter_analyser.proofs.scale.coefficients.Goals as goal

pub loop-place-preserved : goal.loop-place-preserved
loop-place-preserved c =
    let place = c.loop-place.place in
    let a = get_or c.args.values.now place (pos 0) in
    let inside : place < length c.loop-place.coefs = omega (arith, c.loop-place.invariant.0) in
    let small = c.requires.values place in
    let value : c.coefficient.result ≡ coefficient c.args.scale a = c.coefficient.ensures ∙ ap (coefficient c.args.scale) (same_64 a (omega arith)) in
    let held : to_z w64 (of_z w64 c.coefficient.result) ≡ c.coefficient.result = omega (arith, ints) in
    let moved : c.bounded-coef.result ≡ bounded (coefficient c.args.scale a) = c.bounded-coef.ensures ∙ ap bounded (held ∙ value) in
    let stored : to_z w16 (of_z w16 c.bounded-coef.result) ≡ c.bounded-coef.result = omega (arith, ints) in (
      omega (arith, length-set {A = ℤ}, c.loop-place.invariant.0),
      below_more _ _
          (λ k h. let ne : k ≢ place = omega arith in rw get_or-set_other (c.loop-place.invariant.1 k h))
          (rw get_or-set_same (stored ∙ moved)),
    )

pub returns-clause-coefs : goal.returns-clause-coefs
returns-clause-coefs c =
    let F : ℤ → ℤ = λ a. bounded (coefficient c.args.scale a) in
    let values = c.args.values.now in
    let front = length-take (length values) c.loop-place.coefs in
    let long = length-map values F in
    ext_get_or (pos 0) (take (length values) c.loop-place.coefs) (map F values) (omega (arith, c.loop-place.invariant.0))
    (λ k h. get_or-take (length values) c.loop-place.coefs k (pos 0) (omega (arith, c.loop-place.invariant.0))
    ∙ c.loop-place.invariant.1 k (omega (arith, c.loop-place.invariant.0)) ∙ sym (get_or-mapped F values k (omega (arith, c.loop-place.invariant.0))))
