-- Where all values are coefficients the scale is found; else it is one of the lesser ones, and 0 behind the last.
use Rattle.std.proofs.Common.{◌≡◌, ℕ, suc, ◌+◌, ◌-◌, ◌<◌, true, false, cond, List, ℤ, ap, sym, ◌∙◌, arith}
use Rattle.std.specs.List.{list_all}
use Rattle.level_spec.specs.Scale.{coefficient, is_coefficient, scale}
use Rattle.filter_analyser.proofs.scale.greatest_scale.Goals as goal

next : (less : ℕ) (values : List ℤ) → less < 8 → scale (8 - less) values ≡ cond (list_all (λ a. is_coefficient (coefficient (8 - less) a)) values)
    (8 - less) (scale (8 - (less + 1)) values)
unfolding scale
next less values h =
    let e : 8 - less ≡ suc (8 - (less + 1)) = omega arith in
    ap (λ g. scale g values) e ∙ ap (λ g. cond (list_all (λ a. is_coefficient (coefficient g a)) values) g (scale (8 - (less + 1)) values)) (sym e)

none : (values : List ℤ) → scale 0 values ≡ 0
unfolding scale
none values = Rattle.std.proofs.Common.refl

pub returns-then-all_are_coefficients-clause-scale : goal.returns-then-all_are_coefficients-clause-scale
returns-then-all_are_coefficients-clause-scale c =
    let values = c.args.values.now in
    let less = c.loop-less.less in
    sym (c.loop-less.invariant ∙ next less values (omega arith)
    ∙ ap (λ b. cond b (8 - less) (scale (8 - (less + 1)) values)) (sym c.all_are_coefficients.ensures ∙ c.if-all_are_coefficients.true))

pub loop-less-preserved : goal.loop-less-preserved
loop-less-preserved c =
    let values = c.args.values.now in
    let less = c.loop-less.less in
    c.loop-less.invariant ∙ next less values (omega arith) ∙ ap (λ b. cond b (8 - less) (scale (8 - (less + 1)) values)) (sym c.all_are_coefficients.ensures
    ∙ c.if-all_are_coefficients.false)

pub returns-clause-scale : goal.returns-clause-scale
returns-clause-scale c =
    let values = c.args.values.now in
    let e : 8 - c.loop-less.less ≡ 0 = omega arith in
    sym (c.loop-less.invariant ∙ ap (λ g. scale g values) e ∙ none values)
