-- A lane that is added to was as at first, so that its sum fits; behind the eighth there is nothing to add.
use Rattle.std.proofs.Common.{◌≡◌, ◌≢◌, ◌^◌, ◌<◌, ◌≤◌, ℤ, pos, ◌+ℤ◌, nat_abs, to_z, of_z, length, get_or, inl, inr}
use Rattle.std.proofs.Common.{length-set, get_or-set_other, get_or-set_same, below_more, ap, ◌∙◌, arith}
use mir.Syntax.{w32}
use Rattle.std.proofs.lemmas.Int.{ints}
use Rattle.std.proofs.lemmas.Bool.{cases_lt}
use Rattle.std.proofs.lemmas.List.{get_or_past}
use Rattle.filter_refiner.proofs.gradient.add_lanes.Goals as goal

pub overflow_add-cell : goal.overflow_add-cell
overflow_add-cell c =
    let j = c.loop-lane.lane in
    let before = c.loop-lane.invariant.rest j (omega arith) in
    let small = c.requires.cell j in
    let most = c.requires.samples j in
    let held : nat_abs (get_or c.loop-lane.cell j (pos 0)) ≤ 2 ^ 28 = rw before small in
    omega (arith, ints)

pub loop-lane-preserved : goal.loop-lane-preserved
loop-lane-preserved c =
    let j = c.loop-lane.lane in
    let old = get_or c.loop-lane.cell j (pos 0) in
    let e = get_or c.args.samples.now j (pos 0) in
    let before = c.loop-lane.invariant.rest j (omega arith) in
    let small = c.requires.cell j in
    let most = c.requires.samples j in
    let held : nat_abs old ≤ 2 ^ 28 = rw before small in
    let new : to_z w32 (of_z w32 (to_z w32 (of_z w32 old) +ℤ to_z w32 (of_z w32 e))) ≡ old +ℤ e = omega (arith, ints) in
    let inside : j < length c.loop-lane.cell = omega (arith, c.loop-lane.invariant.long) in
    record {
      long = omega (arith, length-set {A = ℤ}, c.loop-lane.invariant.long);
      done = below_more _ _
          (λ k h. let ne : k ≢ j = omega arith in rw get_or-set_other (c.loop-lane.invariant.done k h))
          (rw get_or-set_same (new ∙ ap (λ z. z +ℤ e) before));
      rest = λ k h. let ne : k ≢ j = omega arith in rw get_or-set_other (c.loop-lane.invariant.rest k (omega arith));
    }

pub returns : goal.returns
returns c = record {
  added = λ k. elim (cases_lt k 8) [
    | inl less ↦ c.loop-lane.invariant.done k (omega arith)
    | inr more ↦
        let none : get_or c.args.samples.now k (pos 0) ≡ pos 0 = get_or_past c.args.samples.now k (pos 0) (omega (arith, c.told-samples)) in
        c.loop-lane.invariant.rest k (omega arith) ∙ omega (arith, ints)
  ];
}
