-- A value that follows was as at first and changes by at most 2 ^ 70, so that it fits; the row's own value grows.
use Rattle.std.proofs.Common.{◌≡◌, ◌≢◌, ◌+◌, ◌-◌, ◌^◌, ◌<◌, ◌≤◌, ℕ, ℤ, pos, ◌+ℤ◌, ◌-ℤ◌, ◌*ℤ◌, nat_abs, to_z, of_z, List, length, get_or, set, inl, inr}
use Rattle.std.proofs.Common.{length-set, get_or-set_other, get_or-set_same, below_more, ap, sym, ◌∙◌, subst, arith}
use mir.Syntax.{w64, w128}
use Rattle.std.proofs.lemmas.Int.{ints}
use Rattle.std.proofs.lemmas.Bool.{cases_lt}
use Rattle.level_spec.specs.Recursion.{value, whole}
use Rattle.filter_refiner.proofs.Numbers.{same_64}
use Rattle.filter_refiner.proofs.Growing.{follows-most}
use Rattle.filter_refiner.proofs.solving.follow.Goals as goal

pub overflow_sub-grown : goal.overflow_sub-grown
overflow_sub-grown c =
    let j = c.loop-j.j in
    let before = c.loop-j.invariant.behind j (omega arith) in
    let small = c.requires.grown j in
    let most = c.part-part.ensures.most in
    let held : nat_abs (get_or c.loop-j.grown j (pos 0)) ≤ 2 ^ 77 = rw before small in
    omega (arith, ints)

pub loop-j-preserved : goal.loop-j-preserved
loop-j-preserved c =
    let values = c.args.values.now in
    let n = length values in
    let j = c.loop-j.j in
    let g = to_z w64 (of_z w64 c.args.growth) in
    let b = get_or values (n - j - 1) (pos 0) in
    let old = get_or c.loop-j.grown j (pos 0) in
    let before = c.loop-j.invariant.behind j (omega arith) in
    let small = c.requires.grown j in
    let small_b = c.requires.values (n - j - 1) in
    let most = c.part-part.ensures.most in
    let held : nat_abs old ≤ 2 ^ 77 = rw before small in
    let is : c.part-part.result ≡ whole (g *ℤ b) = c.part-part.ensures.part ∙ ap (λ z. whole (g *ℤ z)) (same_64 b (omega arith)) in
    let new : to_z w128 (of_z w128 (to_z w128 (of_z w128 old) -ℤ to_z w128 (of_z w128 c.part-part.result))) ≡ old -ℤ c.part-part.result = omega (arith, ints) in
    let stored : to_z w128 (of_z w128 (to_z w128 (of_z w128 old) -ℤ to_z w128 (of_z w128 c.part-part.result)))
    ≡ get_or c.args.grown.now j (pos 0) -ℤ whole (g *ℤ value values (n - j)) =
    new ∙ ap (λ z. z -ℤ c.part-part.result) before ∙ ap (λ z. get_or c.args.grown.now j (pos 0) -ℤ z) is in
    let inside : j < length c.loop-j.grown = omega (arith, c.loop-j.invariant.long) in
    record {
      long = omega (arith, length-set {A = ℤ}, c.loop-j.invariant.long);
      before = below_more _ _
          (λ k h. let ne : k ≢ j = omega arith in rw get_or-set_other (c.loop-j.invariant.before k h))
          (rw get_or-set_same stored);
      behind = λ k h. let ne : k ≢ j = omega arith in rw get_or-set_other (c.loop-j.invariant.behind k (omega arith));
    }

pub overflow_add-grown : goal.overflow_add-grown
overflow_add-grown c =
    let n = length c.args.values.now in
    let before = c.loop-j.invariant.behind n (omega arith) in
    let small = c.requires.grown n in
    let held : nat_abs (get_or c.loop-j.grown n (pos 0)) ≤ 2 ^ 77 = rw before small in
    let is = c.from.ensures in
    omega (arith, ints)

-- the value that grows
here : (grown old : List ℤ) (n : ℕ) (growth from : ℤ) → n < length grown → get_or grown n (pos 0) ≡ get_or old n (pos 0) →
    nat_abs (get_or old n (pos 0)) ≤ 2 ^ 77 →
    nat_abs growth ≤ 2 ^ 62 → from ≡ to_z w64 (of_z w64 growth) →
    get_or (set grown n (to_z w128 (of_z w128 (to_z w128 (of_z w128 (get_or grown n (pos 0))) +ℤ to_z w128 (of_z w128 from))))) n (pos 0)
    ≡ get_or old n (pos 0) +ℤ growth
here grown old n growth from inside e small few is =
    let held : nat_abs (get_or grown n (pos 0)) ≤ 2 ^ 77 = rw e small in
    rw get_or-set_same (omega (arith, ints))

pub returns-clause-before : goal.returns-clause-before
returns-clause-before c = λ k h.
    let n = length c.args.values.now in
    let ne : k ≢ n = omega arith in
    let all : c.loop-j.j ≡ n = omega arith in
    rw get_or-set_other (c.loop-j.invariant.before k (omega arith)
    ∙ ap (λ g. get_or c.args.grown.now k (pos 0) -ℤ whole (g *ℤ value c.args.values.now (n - k))) (same_64 c.args.growth (omega (arith, c.requires.growth))))

pub returns-clause-here : goal.returns-clause-here
returns-clause-here c =
    let n = length c.args.values.now in
    here c.loop-j.grown c.args.grown.now n c.args.growth c.from.result (omega (arith, c.loop-j.invariant.long, c.requires.few))
    (c.loop-j.invariant.behind n (omega arith)) (c.requires.grown n) c.requires.growth c.from.ensures

pub returns-clause-behind : goal.returns-clause-behind
returns-clause-behind c = λ k h.
    let n = length c.args.values.now in
    let ne : k ≢ n = omega arith in
    rw get_or-set_other (c.loop-j.invariant.behind k (omega arith))

pub returns-clause-most : goal.returns-clause-most
returns-clause-most c = λ k.
    let values = c.args.values.now in
    let n = length values in
    let old = get_or c.args.grown.now k (pos 0) in
    elim (cases_lt k n) [
      | inl less ↦
          let ne : k ≢ n = omega arith in
          let is = c.loop-j.invariant.before k (omega arith) in
          rw get_or-set_other (rw is (follows-most old (to_z w64 (of_z w64 c.args.growth)) (value values (n - k))
          (let g = c.requires.growth in let e = same_64 c.args.growth g in rw e g) (c.requires.values (n - k - 1))))
      | inr more ↦ elim (cases_lt n k) [
        | inl past ↦ let ne : k ≢ n = omega arith in rw get_or-set_other (rw (c.loop-j.invariant.behind k (omega arith)) (omega arith))
        | inr at ↦
            let e : k ≡ n = omega arith in
            let P = λ (q : ℕ). nat_abs (get_or (set c.loop-j.grown n (to_z w128 (of_z w128 (to_z w128 (of_z w128 (get_or c.loop-j.grown n (pos 0)))
            +ℤ to_z w128 (of_z w128 c.from.result))))) q (pos 0)) ≤ nat_abs (get_or c.args.grown.now q (pos 0)) + 2 ^ 70 in
            let is = here c.loop-j.grown c.args.grown.now n c.args.growth c.from.result (omega (arith, c.loop-j.invariant.long, c.requires.few))
            (c.loop-j.invariant.behind n (omega arith)) (c.requires.grown n) c.requires.growth c.from.ensures in
            let g = c.requires.growth in
            subst P (sym e) (rw is (omega (arith, ints)))
      ]
    ]
