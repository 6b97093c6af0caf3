-- The front of the coefficients at the greatest scale, without zeros behind, is the filter, which is lawful.
use Rattle.std.proofs.Common.{◌≡◌, ℕ, ◌≤◌, max, ℤ, List, length, map, take, length-take, ap, sym, ◌∙◌, subst, arith}
use Rattle.std.proofs.lemmas.List.{take-take}
use Rattle.dst_spec.specs.Table.{filter_kind, IsTable}
use Rattle.level_spec.specs.Scale.{coefficient, scale, bounded, without_zeros, quantised}
use Rattle.level_spec.proofs.Tables.{IsTable-quantised}
use Rattle.filter_analyser.proofs.scale.quantise.Goals as goal

cut : (coefs values : List ℤ) (order L g : ℕ) → order ≡ length values → take (length values) coefs ≡ map (λ a. bounded (coefficient g a)) values →
    g ≡ scale 8 values
    → L ≤ order → take L (take order coefs) ≡ without_zeros (take order coefs) → take L coefs ≡ quantised values
unfolding quantised
cut coefs values order L g long mapped greatest less without =
    let is : take order coefs ≡ map (λ a. bounded (coefficient (scale 8 values) a)) values = ap (λ n. take n coefs) long ∙ mapped
    ∙ ap (λ g. map (λ a. bounded (coefficient g a)) values) greatest in
    sym (take-take L order coefs less) ∙ without ∙ ap without_zeros is

few : (coefs : List ℤ) (order L : ℕ) → 1 ≤ order → L ≤ max 1 (length (take order coefs)) → L ≤ order
few coefs order L least h = omega (arith, length-take order coefs)

pub slice_bounds-coefs-end-2 : goal.slice_bounds-coefs-end-2
slice_bounds-coefs-end-2 c =
    let less = few c.coefficients-coefs.result c.args.order c.length_without_zeros-length.result c.requires.least c.length_without_zeros-length.ensures.most in
    omega (arith, c.coefficients-coefs.ensures.long)

pub unreachable-requires : goal.unreachable-requires
unreachable-requires c =
    let values = take c.args.order c.args.solution.now in
    let long : c.args.order ≡ length values = omega (arith, length-take c.args.order c.args.solution.now, c.told-solution) in
    let less = few c.coefficients-coefs.result c.args.order c.length_without_zeros-length.result c.requires.least c.length_without_zeros-length.ensures.most in
    let is = cut c.coefficients-coefs.result values c.args.order c.length_without_zeros-length.result c.greatest_scale.result long
    c.coefficients-coefs.ensures.coefs c.greatest_scale.ensures.scale less c.length_without_zeros-length.ensures.without in
    c.in-None.ensures.none (subst (IsTable filter_kind) (sym is) (IsTable-quantised values (omega arith) (omega arith)))

pub returns : goal.returns
returns c =
    let values = take c.args.order c.args.solution.now in
    let long : c.args.order ≡ length values = omega (arith, length-take c.args.order c.args.solution.now, c.told-solution) in
    let less = few c.coefficients-coefs.result c.args.order c.length_without_zeros-length.result c.requires.least c.length_without_zeros-length.ensures.most in
    c.in-Some.ensures.coefs ∙ cut c.coefficients-coefs.result values c.args.order c.length_without_zeros-length.result c.greatest_scale.result long
    c.coefficients-coefs.ensures.coefs c.greatest_scale.ensures.scale less c.length_without_zeros-length.ensures.without
