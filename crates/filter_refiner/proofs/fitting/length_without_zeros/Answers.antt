-- A place whose coefficient isn't 0 becomes the last one, and the length is at most all places.
use Rattle.std.proofs.Common.{ℕ, ◌+◌, pos, nat_abs, not, cond, ◌==◌, get_or, refl, ap, sym, ◌∙◌, rules, arith}
use mir.Syntax.{w16}
use mir.Val.{SFits}
use Rattle.level_spec.specs.Scale.{last_place}
use Rattle.level_spec.proofs.Tables.{last_place-most}
use Rattle.filter_refiner.proofs.Lengths.{last-next, zero_test, not_zero_test}
use Rattle.filter_refiner.proofs.fitting.length_without_zeros.Goals as goal
use Rattle.filter_refiner.proofs.fitting.length_without_zeros.Goals.{then-coefs-place-ne0, else-coefs-place-ne0}

pub loop-place-init : goal.loop-place-init
unfolding last_place
loop-place-init c = refl

pub loop-place-preserved : goal.loop-place-preserved
loop-place-preserved c =
    let test = λ (j : ℕ). not (nat_abs (get_or c.args.coefs.now j (pos 0)) == 0) in
    let place = c.loop-place.place in
    let next = last-next test place in
    let z = get_or c.args.coefs.now place (pos 0) in
    let fits : SFits w16 z = search rules in
    elim c.if-coefs-place-ne0.branch [
      | then-coefs-place-ne0 w ↦ w.length-is ∙ sym (next ∙ ap (λ b. cond b (place + 1) (last_place test place)) (not_zero_test z w.if-coefs-place-ne0.true))
      | else-coefs-place-ne0 w ↦ w.length-is ∙ c.loop-place.invariant
          ∙ sym (next ∙ ap (λ b. cond b (place + 1) (last_place test place)) (zero_test z fits w.if-coefs-place-ne0.false))
    ]

pub returns-clause-most : goal.returns-clause-most
returns-clause-most c =
    let test = λ (j : ℕ). not (nat_abs (get_or c.args.coefs.now j (pos 0)) == 0) in
    let most = last_place-most test c.loop-place.place in
    omega (arith, most, c.loop-place.invariant)
