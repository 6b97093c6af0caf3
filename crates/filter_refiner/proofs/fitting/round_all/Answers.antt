-- One value more is rounded, and its row feeds the error back to those before it, as the definition does.
use Rattle.std.proofs.Common.{◌≡◌, ◌+◌, ◌-◌, ◌++◌, ℤ, pos, ◌-ℤ◌, ◌*ℤ◌, to_z, of_z, get_or, set, drop, length-set}
use Rattle.std.proofs.Common.{refl, ap, sym, ◌∙◌, arith}
use mir.Syntax.{w16, w64}
use Rattle.std.proofs.lemmas.Int.{ints}
use Rattle.std.proofs.lemmas.List.{append-nil}
use Rattle.level_spec.specs.Recursion.{whole}
use Rattle.level_spec.specs.Rows.{row_value}
use Rattle.level_spec.specs.Fitting.{nearest, rounding, fit_down}
use Rattle.filter_refiner.proofs.Numbers.{same_64}
use Rattle.filter_refiner.proofs.Fitted.{fit_down-next, drop-set}
use Rattle.filter_refiner.proofs.fitting.round_all.Goals as goal

pub loop-behind-init : goal.loop-behind-init
loop-behind-init c = record {
  long = refl;
  values = c.told-values;
  fits = append-nil _;
  small = λ k. c.requires k;
}

pub nearest-requires : goal.nearest-requires
nearest-requires c =
    let p = 127 - c.loop-behind.behind in
    let small = c.loop-behind.invariant.small p in
    rw (same_64 (get_or c.loop-behind.values p (pos 0)) (omega arith)) (omega arith)

pub loop-behind-preserved : goal.loop-behind-preserved
loop-behind-preserved c =
    let p = 127 - c.loop-behind.behind in
    let rows = c.args.rows.now in
    let old = c.loop-behind.values in
    let coefs = c.loop-behind.coefs in
    let v = get_or old p (pos 0) in
    let small = c.loop-behind.invariant.small p in
    let held : to_z w64 (of_z w64 v) ≡ v = same_64 v (omega arith) in
    let q = to_z w16 (of_z w16 (to_z w64 (of_z w64 c.nearest.result))) in
    let few = c.nearest.ensures.small in
    let near : q ≡ nearest v = (let e : q ≡ c.nearest.result = omega (arith, ints) in e) ∙ c.nearest.ensures.nearest ∙ ap nearest held in
    let least = c.rounding.ensures.small in
    let error : to_z w64 (of_z w64 c.rounding.result) ≡ rounding v = same_64 c.rounding.result (omega arith) ∙ c.rounding.ensures.rounding ∙ ap rounding held in
    let here : 128 - c.loop-behind.behind ≡ p + 1 = omega arith in
    let there : 128 - (c.loop-behind.behind + 1) ≡ p = omega arith in
    let all = fit_down rows c.args.values.now 128 in
    let before : fit_down rows old (p + 1) ++ drop (p + 1) coefs ≡ all =
    ap (λ n. fit_down rows old n ++ drop n coefs) (sym here) ∙ c.loop-behind.invariant.fits in
    record {
      long = omega (arith, length-set {A = ℤ}, c.loop-behind.invariant.long);
      values = c.feed_row.array_long;
      fits = ap (λ n. fit_down rows c.feed_row.new.values n ++ drop n (set coefs p q)) there
          ∙ fit_down-next rows old c.feed_row.new.values coefs all p q before
          (λ k h. c.feed_row.ensures.before k h ∙ ap (λ z. get_or old k (pos 0) -ℤ whole (z *ℤ row_value rows p k)) error) near (set coefs p q)
          (drop-set coefs p q (omega (arith, c.loop-behind.invariant.long)));
      small = λ k. omega (arith, c.feed_row.ensures.most k, c.loop-behind.invariant.small k);
    }

pub returns : goal.returns
unfolding fit_down
returns c =
    let e : 128 - c.loop-behind.behind ≡ 0 = omega arith in
    sym (ap (λ n. fit_down c.args.rows.now c.loop-behind.values n ++ drop n c.loop-behind.coefs) e) ∙ c.loop-behind.invariant.fits
