-- A value that takes its share was as at first, and a share is at most 2 ^ 32, so that the difference fits.
use Rattle.std.proofs.Common.{◌≡◌, ◌≢◌, ◌-◌, ◌^◌, ◌<◌, ◌≤◌, ℤ, pos, ◌-ℤ◌, ◌*ℤ◌, nat_abs, to_z, of_z, length, get_or, inl, inr}
use Rattle.std.proofs.Common.{length-set, get_or-set_other, get_or-set_same, below_more, ap, ◌∙◌, arith}
use mir.Syntax.{w64}
use Rattle.std.proofs.lemmas.Int.{ints}
use Rattle.std.proofs.lemmas.Bool.{cases_lt}
use Rattle.level_spec.specs.Recursion.{value, whole}
use Rattle.filter_refiner.proofs.Numbers.{same_64}
use Rattle.filter_refiner.proofs.Fitted.{shares-most}
use Rattle.filter_refiner.proofs.fitting.feed_back.Goals as goal

pub overflow_sub-values : goal.overflow_sub-values
overflow_sub-values c =
    let j = c.loop-j.j in
    let before = c.loop-j.invariant.behind j (omega arith) in
    let small = c.requires.values j in
    let most = c.share-share.ensures.most in
    let held : nat_abs (get_or c.loop-j.values j (pos 0)) ≤ 2 ^ 40 = rw before small in
    omega (arith, ints)

pub loop-j-preserved : goal.loop-j-preserved
loop-j-preserved c =
    let row = c.args.row.now in
    let n = length row in
    let j = c.loop-j.j in
    let g = to_z w64 (of_z w64 c.args.error) in
    let b = get_or row (n - j - 1) (pos 0) in
    let old = get_or c.loop-j.values j (pos 0) in
    let before = c.loop-j.invariant.behind j (omega arith) in
    let small = c.requires.values j in
    let small_b = c.requires.row (n - j - 1) in
    let most = c.share-share.ensures.most in
    let held : nat_abs old ≤ 2 ^ 40 = rw before small in
    let is : c.share-share.result ≡ whole (g *ℤ b) = c.share-share.ensures.share ∙ ap (λ z. whole (g *ℤ z)) (same_64 b (omega arith)) in
    let new : to_z w64 (of_z w64 (to_z w64 (of_z w64 old) -ℤ to_z w64 (of_z w64 c.share-share.result))) ≡ old -ℤ c.share-share.result = omega (arith, ints) in
    let stored : to_z w64 (of_z w64 (to_z w64 (of_z w64 old) -ℤ to_z w64 (of_z w64 c.share-share.result)))
    ≡ get_or c.args.values.now j (pos 0) -ℤ whole (g *ℤ value row (n - j)) =
    new ∙ ap (λ z. z -ℤ c.share-share.result) before ∙ ap (λ z. get_or c.args.values.now j (pos 0) -ℤ z) is in
    let inside : j < length c.loop-j.values = omega (arith, c.loop-j.invariant.long) in
    record {
      long = omega (arith, length-set {A = ℤ}, c.loop-j.invariant.long);
      before = below_more _ _
          (λ k h. let ne : k ≢ j = omega arith in rw get_or-set_other (c.loop-j.invariant.before k h))
          (rw get_or-set_same stored);
      behind = λ k h. let ne : k ≢ j = omega arith in rw get_or-set_other (c.loop-j.invariant.behind k (omega arith));
    }

pub returns-clause-before : goal.returns-clause-before
returns-clause-before c = λ k h.
    c.loop-j.invariant.before k (omega arith)
    ∙ ap (λ g. get_or c.args.values.now k (pos 0) -ℤ whole (g *ℤ value c.args.row.now (length c.args.row.now - k)))
    (same_64 c.args.error (omega (arith, c.requires.error)))

pub returns-clause-most : goal.returns-clause-most
returns-clause-most c = λ k.
    let old = get_or c.args.values.now k (pos 0) in
    elim (cases_lt k (length c.args.row.now)) [
      | inl less ↦ rw (c.loop-j.invariant.before k (omega arith)) (shares-most old (to_z w64 (of_z w64 c.args.error)) (value c.args.row.now (length
          c.args.row.now - k))
          (let g = c.requires.error in let e = same_64 c.args.error (omega (arith, g)) in rw e g) (c.requires.row (length c.args.row.now - k - 1)))
      | inr more ↦ rw (c.loop-j.invariant.behind k (omega arith)) (omega arith)
    ]
