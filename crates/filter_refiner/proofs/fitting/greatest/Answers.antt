-- One value more is compared by its size, and no size is above the bound of all.
use Rattle.std.proofs.Common.{◌≡◌, ◌^◌, max, ℕ, ℤ, pos, nat_abs, fold, take, get_or, ap, sym, ◌∙◌, arith}
use Rattle.std.proofs.lemmas.List.{take_all}
use Rattle.std.proofs.lemmas.List.Sums.{fold_more}
use Rattle.level_spec.specs.Fitting.{greatest}
use Rattle.filter_refiner.proofs.Numbers.{same_64}
use Rattle.filter_refiner.proofs.Fitted.{greatest-most}
use Rattle.filter_refiner.proofs.fitting.greatest.Goals as goal

pub loop-value-preserved : goal.loop-value-preserved
loop-value-preserved c =
    let F = λ (most : ℕ) (a : ℤ). max most (nat_abs a) in
    let x = c.args.target.now in
    let i = c.loop-value.value-index in
    let z = get_or x i (pos 0) in
    let next = fold_more F 0 x i (pos 0) (omega (arith, c.told-target)) in
    let size : c.unsigned_abs.result ≡ nat_abs z = c.unsigned_abs.ensures.value ∙ ap nat_abs (same_64 z (omega (arith, c.requires i))) in
    let before : c.loop-value.most ≡ fold F 0 (take i x) = c.loop-value.invariant in
    let new : c.max-most.result ≡ max (fold F 0 (take i x)) (nat_abs z) = omega (arith, c.max-most.ensures) in
    new ∙ sym next

pub returns-clause-greatest : goal.returns-clause-greatest
unfolding greatest
returns-clause-greatest c =
    c.loop-value.invariant ∙ ap (fold (λ most a. max most (nat_abs a)) 0) (take_all c.loop-value.value-index c.args.target.now (omega (arith, c.told-target)))

pub returns-clause-most : goal.returns-clause-most
unfolding greatest
returns-clause-most c =
    let is : c.loop-value.most ≡ greatest c.args.target.now =
    c.loop-value.invariant ∙ ap (fold (λ most a. max most (nat_abs a)) 0) (take_all c.loop-value.value-index c.args.target.now (omega (
      arith,
      c.told-target,
    ))) in
    rw is (greatest-most c.args.target.now (2 ^ 56) c.requires)
