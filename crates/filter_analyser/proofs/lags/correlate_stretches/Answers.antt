-- The first samples, with none so many places before them, are counted where they are 1, and taken off again.
use Rattle.std.proofs.Common.{◌≡◌, ◌+◌, ◌-◌, ◌*◌, ◌/◌, ◌%◌, ◌^◌, ◌<◌, ◌≢◌, ℤ, pos, ◌-ℤ◌, length, get_or, set, inl, inr, to_z, of_z, ◌*ℤ◌, subst}
use Rattle.std.proofs.Common.{get_or-set_other, get_or-set_same, length-set, bit_and, cond, refl, ap, sym, ◌∙◌, arith}
use mir.Syntax.{w64}
use Rattle.std.proofs.lemmas.Int.{ints}
use Rattle.std.proofs.lemmas.Bool.{cases_lt}
use Rattle.std.proofs.lemmas.Nat.Bits.{shr_and_one}
use Rattle.level_spec.specs.Correlation.{correlation}
use Rattle.filter_refiner.proofs.Lengths.{test-false}
use Rattle.filter_analyser.specs.Stretches.{bit_of, late, tally}
use Rattle.filter_analyser.proofs.Tallies.{tally-next, tally-most}
use Rattle.filter_analyser.proofs.Correlating.{late-late, correlation-is, correlation-at_0, early-most}
use Rattle.filter_analyser.proofs.lags.correlate_stretches.Goals as goal

pub loop-turn-init : goal.loop-turn-init
unfolding tally
loop-turn-init c = record {
  long = omega (arith, length-set {A = ℤ}, c.told-lags);
  early = refl;
  moved = λ t h. ap (λ w. bit_of w t) c.requires.same ∙ sym (ap (λ b. cond b 0 (bit_of c.args.stretches.now (t - 0))) (test-false t 0 (omega arith))
      ∙ (let e : t - 0 ≡ t = omega arith in ap (bit_of c.args.stretches.now) e));
  known = λ f sound ch has k h.
      let is : k ≡ 0 = omega arith in
      let inside : 0 < length c.args.lags.now = omega (arith, c.told-lags) in
      let value = correlation-at_0 f sound ch c.args.stretches.now has in
      let stored : get_or (set c.args.lags.now 0 (to_z w64 (64 * length c.args.stretches.now))) 0 (pos 0) ≡ correlation f sound ch 0 =
      rw get_or-set_same (omega (arith, ints)) in
      subst (λ q. get_or (set c.args.lags.now 0 (to_z w64 (64 * length c.args.stretches.now))) q (pos 0) ≡ correlation f sound ch q) (sym is) stored;
  behind = λ k h. let ne : k ≢ 0 = omega arith in
      get_or-set_other c.args.lags.now 0 k (to_z w64 (64 * length c.args.stretches.now)) (pos 0) ne;
}

pub overflow_add-early : goal.overflow_add-early
overflow_add-early c =
    let last = 8 * c.loop-turn.turn + c.loop-place.place in
    let bit = shr_and_one (get_or c.args.stretches.now (last / 64) 0) (63 - last % 64) in
    let few = tally-most (bit_of c.args.stretches.now) 0 last (λ t. omega arith) in
    omega (arith, few, c.loop-place.invariant.early)

pub overflow_sub-counts : goal.overflow_sub-counts
overflow_sub-counts c =
    let stretches = c.args.stretches.now in
    let last = 8 * c.loop-turn.turn + c.loop-place.place in
    let bit = shr_and_one (get_or stretches (last / 64) 0) (63 - last % 64) in
    let next = tally-next (bit_of stretches) last in
    let counted = c.compare-counts.ensures.counts c.loop-place.place (omega arith) in
    let less = early-most stretches c.loop-turn.behind (last + 1) (8 * c.loop-turn.turn) (c.loop-place.place + 1) (omega arith) c.loop-turn.invariant.moved
    (omega arith) in
    omega (arith, less.0, c.loop-place.invariant.early)

pub loop-place-preserved : goal.loop-place-preserved
loop-place-preserved c =
    let stretches = c.args.stretches.now in
    let place = c.loop-place.place in
    let last = 8 * c.loop-turn.turn + place in
    let bit = shr_and_one (get_or stretches (last / 64) 0) (63 - last % 64) in
    let next = tally-next (bit_of stretches) last in
    let counted = c.compare-counts.ensures.counts place (omega arith) in
    let less = early-most stretches c.loop-turn.behind (last + 1) (8 * c.loop-turn.turn) (place + 1) (omega arith) c.loop-turn.invariant.moved (omega arith) in
    let inside : last + 1 < length c.loop-place.lags = omega (arith, c.loop-place.invariant.long) in
    let e : 8 * c.loop-turn.turn + (place + 1) ≡ last + 1 = omega arith in
    let early : c.loop-place.early + bit_and (get_or stretches (last / 64) 0 / 2 ^ (63 - last % 64)) 1 ≡ tally (bit_of stretches) 0 (last + 1) =
    omega (arith, c.loop-place.invariant.early) in
    record {
      long = omega (arith, length-set {A = ℤ}, c.loop-place.invariant.long);
      early = early ∙ ap (tally (bit_of stretches) 0) (sym e);
      known = λ f sound ch has k h. elim (cases_lt k (last + 1)) [
        | inl earlier ↦ let ne : k ≢ last + 1 = omega arith in rw get_or-set_other (c.loop-place.invariant.known f sound ch has k earlier)
        | inr here ↦
            let is : k ≡ last + 1 = omega arith in
            let value = correlation-is f sound ch (last + 1) (8 * c.loop-turn.turn) (place + 1) (tally (bit_of stretches) 0 (last + 1))
            (get_or c.compare-counts.result place 0) stretches c.loop-turn.behind has (omega arith) c.loop-turn.invariant.moved (omega arith) refl counted in
            let stored : get_or (set c.loop-place.lags (last + 1)
            (to_z w64 (of_z w64 (to_z w64 (64 * length stretches - last - 1) -ℤ to_z w64 (of_z w64 (pos 2 *ℤ to_z w64 (of_z w64 c.from.result)))))))
            (last + 1) (pos 0) ≡ correlation f sound ch (last + 1)
            = rw get_or-set_same (let pairs : c.from.result ≡ pos (get_or c.compare-counts.result place 0 - tally (bit_of stretches) 0 (last + 1)) =
            c.from.ensures ∙ ap (λ n. pos (get_or c.compare-counts.result place 0 - n)) early in let few = less.1 in omega (arith, ints, value)) in
            subst (λ q. get_or (set c.loop-place.lags (last + 1)
            (to_z w64 (of_z w64 (to_z w64 (64 * length stretches - last - 1) -ℤ to_z w64 (of_z w64 (pos 2 *ℤ to_z w64 (of_z w64 c.from.result))))))) q
            (pos 0) ≡ correlation f sound ch q) (sym is) stored
      ];
      behind = λ k h. let ne : k ≢ last + 1 = omega arith in rw get_or-set_other (c.loop-place.invariant.behind k (omega arith));
    }

pub loop-turn-preserved : goal.loop-turn-preserved
loop-turn-preserved c =
    let stretches = c.args.stretches.now in
    let turn = c.loop-turn.turn in
    let whole : 8 * turn + c.loop-place.place ≡ 8 * (turn + 1) = omega arith in
    let e : 8 * turn + 8 ≡ 8 * (turn + 1) = omega arith in
    record {
      long = c.loop-place.invariant.long;
      early = c.loop-place.invariant.early ∙ ap (tally (bit_of stretches) 0) whole;
      moved = λ t h. c.compare-counts.ensures.behind t h ∙ late-late stretches c.loop-turn.behind (8 * turn) 8
          (64 * length stretches) t c.loop-turn.invariant.moved h ∙ ap (λ k. late stretches k t) e;
      known = λ f sound ch has k h. c.loop-place.invariant.known f sound ch has k (omega arith);
      behind = λ k h. c.loop-place.invariant.behind k (omega arith);
    }
