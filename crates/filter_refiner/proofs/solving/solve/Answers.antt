-- One row more lets its value grow and those before follow; a growth above 2 ^ 62 is where solving has no answer.
use Rattle.std.proofs.Common.{◌≡◌, ◌+◌, ◌-◌, ◌^◌, ◌≤◌, ℕ, pos, ◌+ℤ◌, ◌-ℤ◌, ◌*ℤ◌, nat_abs, to_z, of_z, length, get_or, inl, inr}
use Rattle.std.proofs.Common.{refl, ap, sym, ◌∙◌, subst, arith}
use mir.Syntax.{w64, w128}
use Rattle.std.proofs.lemmas.Int.{ints}
use Rattle.std.proofs.lemmas.Bool.{cases_lt}
use Rattle.level_spec.specs.Recursion.{value, whole}
use Rattle.level_spec.specs.Rows.{row_value}
use Rattle.level_spec.specs.Solving.{growth}
use Rattle.filter_refiner.proofs.Numbers.{zeros-at}
use Rattle.filter_refiner.proofs.Solved.{grown_by, grown_by-next, grown_by-own, solved-none, solved-some}
use Rattle.filter_refiner.proofs.solving.solve.Goals as goal

pub loop-place-init : goal.loop-place-init
loop-place-init c = record {
  long = refl;
  known = λ k h. absurd (omega arith);
  rest = λ k h. zeros-at 128 k;
  most = λ k. omega (arith, ints, ap nat_abs (zeros-at 128 k));
  solved = λ k h. absurd (omega arith);
}

pub growth-growth-requires-clause-few : goal.growth-growth-requires-clause-few
growth-growth-requires-clause-few c = omega (arith, c.count-place-end.ensures.count, c.count-place-end.ensures.most)

pub returns-then-unsigned_abs-clause-none : goal.returns-then-unsigned_abs-clause-none
returns-then-unsigned_abs-clause-none c =
    let g = c.growth-growth.result in
    let same : to_z w128 (of_z w128 g) ≡ g = omega (arith, ints) in
    let size : c.unsigned_abs.result ≡ nat_abs (growth c.args.rows.now c.args.wanted.now c.loop-place.place) =
    c.unsigned_abs.ensures.value ∙ ap nat_abs (same ∙ c.growth-growth.ensures) in
    solved-none c.args.rows.now c.args.wanted.now c.loop-place.place (omega (arith, c.count-place-end.ensures.count)) (omega arith)

pub loop-place-preserved : goal.loop-place-preserved
loop-place-preserved c =
    let rows = c.args.rows.now in
    let y = c.args.wanted.now in
    let p = c.loop-place.place in
    let g = c.growth-growth.result in
    let is : g ≡ growth rows y p = c.growth-growth.ensures in
    let same : to_z w128 (of_z w128 g) ≡ g = omega (arith, ints) in
    let small : nat_abs g ≤ 2 ^ 62 = let v : c.unsigned_abs.result ≡ nat_abs g = c.unsigned_abs.ensures.value ∙ ap nat_abs same in omega arith in
    let G = to_z w64 (of_z w64 (to_z w128 (of_z w128 g))) in
    let held : G ≡ growth rows y p = (let e : G ≡ g = omega (arith, ints) in e) ∙ is in
    let values = c.values.result.now in
    let long : length values ≡ p = c.values.ensures.long in
    let rowed : (k : ℕ) → value values (length values - k) ≡ row_value rows p k = λ k.
    ap (λ n. value values (n - k)) long ∙ ap (λ vs. value vs (p - k)) c.values.ensures.values in
    let own : get_or c.follow.new.grown p (pos 0) ≡ growth rows y p =
    subst (λ q. get_or c.follow.new.grown q (pos 0) ≡ growth rows y p) long (c.follow.ensures.here
    ∙ ap (λ z. z +ℤ G) (c.loop-place.invariant.rest (length values) (omega arith))
    ∙ (let e : pos 0 +ℤ G ≡ G = omega (arith, ints) in e) ∙ held) in
    record {
      long = c.follow.array_long;
      known = λ k h. elim (cases_lt k p) [
        | inl less ↦ c.follow.ensures.before k (omega arith)
            ∙ ap (λ z. z -ℤ whole (G *ℤ value values (length values - k))) (c.loop-place.invariant.known k less)
            ∙ ap (λ z. grown_by rows y p k -ℤ whole (z *ℤ value values (length values - k))) held
            ∙ ap (λ z. grown_by rows y p k -ℤ whole (growth rows y p *ℤ z)) (rowed k)
            ∙ grown_by-next rows y p k less
        | inr more ↦
            let e : k ≡ p = omega arith in
            subst (λ q. get_or c.follow.new.grown q (pos 0) ≡ grown_by rows y (p + 1) q) (sym e) (own ∙ grown_by-own rows y p)
      ];
      rest = λ k h. c.follow.ensures.behind k (omega arith) ∙ c.loop-place.invariant.rest k (omega arith);
      most = λ k. omega (arith, c.follow.ensures.most k, c.loop-place.invariant.most k);
      solved = λ k h. elim (cases_lt k p) [
        | inl less ↦ c.loop-place.invariant.solved k less
        | inr more ↦ let e : k ≡ p = omega arith in subst (λ q. nat_abs (growth rows y q) ≤ 2 ^ 62) (sym e) (subst (λ z. nat_abs z ≤ 2 ^ 62) is small)
      ];
    }

pub returns-clause-some : goal.returns-clause-some
returns-clause-some c =
    let rows = c.args.rows.now in
    let y = c.args.wanted.now in
    let all : c.loop-place.place ≡ length rows = omega (arith, c.count-place-end.ensures.count) in
    solved-some rows y c.wholes.result c.wholes.ensures.long (omega (arith, c.count-place-end.ensures.count, c.count-place-end.ensures.most))
    (λ k h. c.loop-place.invariant.solved k (omega arith))
    (λ k h. c.wholes.ensures.wholes k ∙ ap whole (c.loop-place.invariant.known k (omega arith) ∙ ap (λ n. grown_by rows y n k) all))

pub returns-clause-rest : goal.returns-clause-rest
returns-clause-rest c = λ k h.
    c.wholes.ensures.wholes k ∙ ap whole (c.loop-place.invariant.rest k (omega (arith, c.count-place-end.ensures.count)))
