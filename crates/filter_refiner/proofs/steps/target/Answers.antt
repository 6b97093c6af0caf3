-- A coefficient with 24 fraction bits and its move together fit.
use Rattle.std.proofs.Common.{◌≡◌, ◌≢◌, ◌^◌, ◌<◌, ◌≤◌, ℤ, pos, ◌+ℤ◌, ◌*ℤ◌, nat_abs, to_z, of_z, length, get_or, set, inl, inr}
use Rattle.std.proofs.Common.{length-set, get_or-set_other, get_or-set_same, below_more, refl, ap, sym, ◌∙◌, subst, arith}
use mir.Syntax.{w64}
use Rattle.std.proofs.lemmas.Int.{ints}
use Rattle.std.proofs.lemmas.Bool.{cases_lt}
use Rattle.std.proofs.lemmas.List.FromFn.{fill_by_all}
use Rattle.filter_refiner.proofs.Numbers.{zeros-at}
use Rattle.filter_refiner.proofs.steps.target.Goals as goal

pub loop-place-init : goal.loop-place-init
loop-place-init c = record { long = refl; known = λ k h. absurd (omega arith); most = λ k. omega (arith, ap nat_abs (zeros-at 128 k)) }

pub overflow_add-value : goal.overflow_add-value
overflow_add-value c =
    let few = c.coefficient.ensures.small in
    let small = c.requires c.loop-place.place in
    omega (arith, ints)

pub loop-place-preserved : goal.loop-place-preserved
loop-place-preserved c =
    let j = c.loop-place.place in
    let m = get_or c.args.moves.now j (pos 0) in
    let few = c.coefficient.ensures.small in
    let small = c.requires j in
    let q = c.coefficient.result in
    let value = to_z w64 (of_z w64 (to_z w64 (of_z w64 (to_z w64 (of_z w64 q) *ℤ pos 16777216)) +ℤ to_z w64 (of_z w64 m))) in
    let is : value ≡ q *ℤ pos 16777216 +ℤ m = omega (arith, ints) in
    let known : value ≡ get_or c.args.filter.now j (pos 0) *ℤ pos (2 ^ 24) +ℤ m = is ∙ ap (λ z. z *ℤ pos 16777216 +ℤ m) c.coefficient.ensures.coefficient in
    let most : nat_abs value ≤ 2 ^ 56 = rw is (omega (arith, ints)) in
    let inside : j < length c.loop-place.target = omega (arith, c.loop-place.invariant.long) in
    record {
      long = omega (arith, length-set {A = ℤ}, c.loop-place.invariant.long);
      known = below_more _ _
          (λ k h. let ne : k ≢ j = omega arith in rw get_or-set_other (c.loop-place.invariant.known k h))
          (rw get_or-set_same known);
      most = λ k. elim (cases_lt k j) [
        | inl less ↦ let ne : k ≢ j = omega arith in rw get_or-set_other (c.loop-place.invariant.most k)
        | inr more ↦ elim (cases_lt j k) [
          | inl past ↦ let ne : k ≢ j = omega arith in rw get_or-set_other (c.loop-place.invariant.most k)
          | inr at ↦ let e : k ≡ j = omega arith in
              subst (λ q. nat_abs (get_or (set c.loop-place.target j value) q (pos 0)) ≤ 2 ^ 56) (sym e) (rw get_or-set_same most)
        ]
      ];
    }

pub returns-clause-target : goal.returns-clause-target
returns-clause-target c =
    fill_by_all (λ j. get_or c.args.filter.now j (pos 0) *ℤ pos (2 ^ 24) +ℤ get_or c.args.moves.now j (pos 0))
    c.loop-place.target 128 (pos 0) c.loop-place.invariant.long (λ k h. c.loop-place.invariant.known k (omega arith))
