-- The front of the rounded coefficients, without zeros behind, is the filter; where all values are 0 it is a single 0.
use Rattle.std.proofs.Common.{◌≡◌, ◌<◌, ◌==◌, ℕ, ℤ, pos, true, false, cond, List, [], ◌∷◌, length, take, ap, sym, ◌∙◌, subst, arith}
use Rattle.std.proofs.lemmas.Bool.Decides.{nat_tests}
use Rattle.dst_spec.specs.Table.{filter_kind, IsTable}
use Rattle.level_spec.specs.Recursion.{State}
use Rattle.level_spec.specs.Scale.{without_zeros}
use Rattle.level_spec.specs.Fitting.{greatest, at_255, fit_down, fitted}
use Rattle.level_spec.proofs.Refined.{IsTable-fitted}
use Rattle.filter_refiner.proofs.fitting.fit.Goals as goal

at-none : (n : ℕ) → n ≡ 0 → (n == 0) ≡ true
at-none n e = ap (λ k. k == 0) e

at-some : (n : ℕ) → 0 < n → (n == 0) ≡ false
at-some n h = grind (arith, nat_tests)

pub returns-then-most-eq0 : goal.returns-then-most-eq0
unfolding fitted
returns-then-most-eq0 c =
    let x = c.args.target.now in
    c.default.ensures ∙ sym (ap (λ b. cond b (pos 0 ∷ []) (without_zeros (fit_down c.args.rows.now (at_255 x) (length x))))
    (at-none (greatest x) (sym c.greatest-most.ensures.greatest ∙ c.if-most-eq0.true)))

-- the front of the rounded coefficients is the filter
front : (rows : List State) (x values coefs : List ℤ) (most n : ℕ) → length x ≡ 128 → most ≡ greatest x → 0 < most →
    values ≡ at_255 x → coefs ≡ fit_down rows values 128 → take n coefs ≡ without_zeros coefs → take n coefs ≡ fitted rows x
unfolding fitted
front rows x values coefs most n long is some v f t =
    let whole : coefs ≡ fit_down rows (at_255 x) (length x) = f ∙ ap (λ v. fit_down rows v 128) v ∙ ap (fit_down rows (at_255 x)) (sym long) in
    t ∙ ap without_zeros whole ∙ sym (ap (λ b. cond b (pos 0 ∷ []) (without_zeros (fit_down rows (at_255 x) (length x)))) (at-some (greatest x) (omega arith)))

pub unreachable-requires : goal.unreachable-requires
unreachable-requires c =
    let x = c.args.target.now in
    let is = front c.args.rows.now x c.at_255-values.result c.round_all-coefs.result c.greatest-most.result c.length_without_zeros-length.result c.told-target
    c.greatest-most.ensures.greatest (omega arith) c.at_255-values.ensures.values c.round_all-coefs.ensures c.length_without_zeros-length.ensures.without in
    c.in-None.ensures.none (subst (IsTable filter_kind) (sym is) (IsTable-fitted c.args.rows.now x (omega (arith, c.told-target)) (omega (
      arith,
      c.told-target,
    ))))

pub returns : goal.returns
returns c =
    let x = c.args.target.now in
    c.in-Some.ensures.coefs
    ∙ front c.args.rows.now x c.at_255-values.result c.round_all-coefs.result c.greatest-most.result c.length_without_zeros-length.result c.told-target
    c.greatest-most.ensures.greatest (omega arith) c.at_255-values.ensures.values c.round_all-coefs.ensures c.length_without_zeros-length.ensures.without
