-- One value more is moved by a share of the one as far from the end; behind the last comes the reflection.
use Rattle.std.proofs.Common.{◌≡◌, ◌+◌, ◌-◌, ◌<◌, ◌≢◌, pos, ◌-ℤ◌, ◌*ℤ◌, to_z, of_z, length, get_or, set, get_or-set_other, get_or-set_same, inl, inr}
use Rattle.std.proofs.Common.{subst, ap, sym, ◌∙◌, arith}
use mir.Syntax.{w64}
use Rattle.std.proofs.lemmas.Int.{ints}
use Rattle.std.proofs.lemmas.Bool.{cases_lt}
use Rattle.level_spec.specs.Recursion.{value, whole, moved}
use Rattle.filter_refiner.proofs.Numbers.{same_64}
use Rattle.filter_analyser.proofs.Moving.{moved-is}
use Rattle.filter_analyser.proofs.recursion.fill_moved.Goals as goal

pub loop-j-preserved : goal.loop-j-preserved
loop-j-preserved c =
    let values = c.args.values.now in
    let i = length c.args.next.now in
    let j = c.loop-j.j in
    let f = to_z w64 (of_z w64 c.args.reflection) in
    let a = get_or values (j - 1) (pos 0) in
    let b = get_or values (i - j - 1) (pos 0) in
    let small_a = c.requires.values (j - 1) in
    let small_b = c.requires.values (i - j - 1) in
    let most = c.share.ensures.most in
    let is : c.share.result ≡ whole (f *ℤ b) = c.share.ensures.share ∙ ap (λ z. whole (f *ℤ z)) (same_64 b (omega arith)) in
    let new : to_z w64 (of_z w64 (to_z w64 (of_z w64 a) -ℤ to_z w64 (of_z w64 c.share.result))) ≡ a -ℤ c.share.result = omega (arith, ints) in
    λ k h. elim (cases_lt (1 + k) j) [
      | inl earlier ↦ let ne : k ≢ j - 1 = omega arith in rw get_or-set_other (c.loop-j.invariant k earlier)
      | inr here ↦
          let e : k ≡ j - 1 = omega arith in
          let one : j ≡ 1 + k = omega arith in
          let inside : j - 1 < length c.loop-j.next = omega arith in
          let place : i - j - 1 ≡ i - (1 + k) - 1 = omega arith in
          let stored : get_or (set c.loop-j.next (j - 1) (to_z w64 (of_z w64 (to_z w64 (of_z w64 a) -ℤ to_z w64 (of_z w64 c.share.result))))) (j - 1)
          (pos 0) ≡ value values (1 + k) -ℤ whole (f *ℤ value values (i - (1 + k))) =
          rw get_or-set_same (new ∙ ap (λ z. a -ℤ z) is ∙ ap (λ q. get_or values q (pos 0) -ℤ whole (f *ℤ b)) (let q : j - 1 ≡ 1 + k - 1 = omega arith in q)
          ∙ ap (λ q. value values (1 + k) -ℤ whole (f *ℤ get_or values q (pos 0))) place) in
          subst (λ q. get_or (set c.loop-j.next (j - 1) (to_z w64 (of_z w64 (to_z w64 (of_z w64 a) -ℤ to_z w64 (of_z w64 c.share.result))))) q (pos 0)
          ≡ value values (1 + k) -ℤ whole (f *ℤ value values (i - (1 + k)))) (sym e) stored
    ]

pub returns : goal.returns
returns c =
    let values = c.args.values.now in
    let i = length c.args.next.now in
    let f = to_z w64 (of_z w64 c.args.reflection) in
    let long : i ≡ length values + 1 = c.requires.long in
    moved-is values c.loop-j.next f i (omega arith) (omega arith) (λ j h. c.loop-j.invariant j (omega arith))
    ∙ ap (moved values f) long
    ∙ ap (λ z. moved values z (length values + 1)) (same_64 c.args.reflection (omega arith))
