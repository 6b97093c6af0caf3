-- The sample of a lane is its bit of the byte, by the weight of its code, and no weight is above 255.
use Rattle.std.proofs.Common.{◌≡◌, ◌≢◌, ◌+◌, ◌-◌, ◌*◌, ◌/◌, ◌%◌, ◌^◌, ◌<◌, ◌≤◌, nat_lt, cond, ℤ, pos, nat_abs, to_z, of_z, length, get_or, set, inl, inr}
use Rattle.std.proofs.Common.{length-set, get_or-set_other, get_or-set_same, below_more, refl, ap, sym, ◌∙◌, subst, arith}
use mir.Syntax.{w32}
use Rattle.std.proofs.lemmas.Int.{ints}
use Rattle.std.proofs.lemmas.Bool.{cases_lt}
use Rattle.dst_spec.specs.Guess.{signed}
use Rattle.filter_refiner.specs.Cells.{weighted}
use Rattle.filter_refiner.proofs.Numbers.{zeros-at}
use Rattle.filter_refiner.proofs.gradient.weighted_samples.Goals as goal

pub loop-lane-init : goal.loop-lane-init
loop-lane-init c = record {
  long = refl;
  done = λ k h. absurd (omega arith);
  small = λ k. omega (arith, ap nat_abs (zeros-at 8 k));
}

pub loop-lane-preserved : goal.loop-lane-preserved
loop-lane-preserved c =
    let j = c.loop-lane.lane in
    let t = 8 * c.args.place + j in
    let bytes = c.args.bytes.now in
    let codes = c.args.codes.now in
    let weights = c.args.weights.now in
    let small = c.weighted_sample-sample.ensures.small in
    let held : to_z w32 (of_z w32 c.weighted_sample-sample.result) ≡ c.weighted_sample-sample.result = omega (arith, ints) in
    let byte : c.args.place ≡ t / 8 = omega arith in
    let lane : j ≡ t % 8 = omega arith in
    let is : c.weighted_sample-sample.result ≡ weighted bytes codes weights c.args.first t = c.weighted_sample-sample.ensures.sample
    ∙ ap (λ q. cond (nat_lt t c.args.first) (pos 0) (signed (get_or bytes (c.args.place + 16) 0 / 2 ^ (7 - j) % 2) (pos (get_or weights q 0)))) c.from.ensures
    ∙ ap (λ m. cond (nat_lt t c.args.first) (pos 0) (signed (get_or bytes (m + 16) 0 / 2 ^ (7 - j) % 2) (pos (get_or weights (get_or codes t 0) 0)))) byte
    ∙ ap (λ i. cond (nat_lt t c.args.first) (pos 0) (signed (get_or bytes (t / 8 + 16) 0 / 2 ^ (7 - i) % 2) (pos (get_or weights (get_or codes t 0)
    0)))) lane in
    let inside : j < length c.loop-lane.samples = omega (arith, c.loop-lane.invariant.long) in
    record {
      long = omega (arith, length-set {A = ℤ}, c.loop-lane.invariant.long);
      done = below_more _ _
          (λ k h. let ne : k ≢ j = omega arith in rw get_or-set_other (c.loop-lane.invariant.done k h))
          (rw get_or-set_same (held ∙ is));
      small = λ k. elim (cases_lt k j) [
        | inl less ↦ let ne : k ≢ j = omega arith in rw get_or-set_other (c.loop-lane.invariant.small k)
        | inr more ↦ elim (cases_lt j k) [
          | inl past ↦ let ne : k ≢ j = omega arith in rw get_or-set_other (c.loop-lane.invariant.small k)
          | inr at ↦ let e : k ≡ j = omega arith in
              subst (λ q. nat_abs (get_or (set c.loop-lane.samples j (to_z w32 (of_z w32 c.weighted_sample-sample.result))) q (pos 0)) ≤ 255) (sym e)
              (rw get_or-set_same (rw held small))
        ]
      ];
    }
