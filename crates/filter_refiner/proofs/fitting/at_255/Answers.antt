-- No value is greater than the greatest, so that its part of 255 with 24 fraction bits is in bounds.
use Rattle.std.proofs.Common.{◌≡◌, ◌≢◌, ◌*◌, ◌^◌, ◌<◌, ◌≤◌, ℤ, pos, ◌*ℤ◌, nat_abs, to_z, of_z, length, map, get_or, set, inl, inr}
use Rattle.std.proofs.Common.{length-set, get_or-set_other, get_or-set_same, below_more, refl, ap, sym, ◌∙◌, subst, arith}
use mir.Syntax.{w64}
use Rattle.std.specs.Int.{int_div_euclid}
use Rattle.std.proofs.lemmas.Int.{ints}
use Rattle.std.proofs.lemmas.Bool.{cases_lt}
use Rattle.std.proofs.lemmas.List.{ext_get_or, length-map}
use Rattle.level_spec.specs.Fitting.{greatest}
use Rattle.filter_refiner.proofs.Numbers.{same_64, zeros-at}
use Rattle.filter_refiner.proofs.Fitted.{below-greatest, get_or-mapped}
use Rattle.filter_refiner.proofs.fitting.at_255.Goals as goal

pub part_of-requires-clause-number : goal.part_of-requires-clause-number
part_of-requires-clause-number c =
    let z = get_or c.args.target.now c.loop-j.j (pos 0) in
    let most = below-greatest c.args.target.now c.loop-j.j in
    let is : c.args.most ≡ greatest c.args.target.now = c.requires.most in
    rw (same_64 z (omega (arith, c.requires.small))) (omega arith)

pub loop-j-init : goal.loop-j-init
loop-j-init c = record {
  long = refl;
  known = λ k h. absurd (omega arith);
  small = λ k. omega (arith, ap nat_abs (zeros-at 128 k));
}

pub loop-j-preserved : goal.loop-j-preserved
loop-j-preserved c =
    let j = c.loop-j.j in
    let z = get_or c.args.target.now j (pos 0) in
    let most = below-greatest c.args.target.now j in
    let is : c.args.most ≡ greatest c.args.target.now = c.requires.most in
    let part : c.part_of.result ≡ int_div_euclid (z *ℤ pos (255 * 2 ^ 24)) (pos c.args.most) = c.part_of.ensures.part
    ∙ ap (λ z. int_div_euclid (z *ℤ pos (255 * 2 ^ 24)) (pos c.args.most)) (same_64 z (omega (arith, c.requires.small))) in
    let small = c.part_of.ensures.small in
    let held : to_z w64 (of_z w64 c.part_of.result) ≡ c.part_of.result = omega (arith, ints) in
    let inside : j < length c.loop-j.values = omega (arith, c.loop-j.invariant.long) in
    record {
      long = omega (arith, length-set {A = ℤ}, c.loop-j.invariant.long);
      known = below_more _ _
          (λ k h. let ne : k ≢ j = omega arith in rw get_or-set_other (c.loop-j.invariant.known k h))
          (rw get_or-set_same (held ∙ part));
      small = λ k. elim (cases_lt k j) [
        | inl less ↦ let ne : k ≢ j = omega arith in rw get_or-set_other (c.loop-j.invariant.small k)
        | inr more ↦ elim (cases_lt j k) [
          | inl past ↦ let ne : k ≢ j = omega arith in rw get_or-set_other (c.loop-j.invariant.small k)
          | inr at ↦ let e : k ≡ j = omega arith in
              subst (λ q. nat_abs (get_or (set c.loop-j.values j (to_z w64 (of_z w64 c.part_of.result))) q (pos 0)) ≤ 255 * 2 ^ 24) (sym e)
              (rw get_or-set_same (rw held small))
        ]
      ];
    }

pub returns-clause-values : goal.returns-clause-values
returns-clause-values c =
    let x = c.args.target.now in
    let F : ℤ → ℤ = λ a. int_div_euclid (a *ℤ pos (255 * 2 ^ 24)) (pos (greatest x)) in
    let many = length-map x F in
    ext_get_or (pos 0) c.loop-j.values (map F x) (omega (arith, c.loop-j.invariant.long, c.told-target))
    (λ k h. c.loop-j.invariant.known k (omega (arith, c.loop-j.invariant.long))
    ∙ ap (λ m. int_div_euclid (get_or x k (pos 0) *ℤ pos (255 * 2 ^ 24)) (pos m)) c.requires.most
    ∙ sym (get_or-mapped F x k (omega (arith, c.loop-j.invariant.long, c.told-target))))
