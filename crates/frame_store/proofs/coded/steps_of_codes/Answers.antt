-- The probability in seven bits is read back as that of the table, so the step of one code more is right.
use Rattle.std.proofs.Common.{◌≡◌, ◌≢◌, ◌-◌, ◌%◌, ◌≤◌, nat_lt, min, pos, length, get_or, ap, sym, subst, ◌∙◌, arith}
use Rattle.std.proofs.Common.{below_more, get_or-set_same, get_or-set_other, length-set}
use Rattle.std.proofs.lemmas.List.{length-map}
use Rattle.arith_encoder.specs.Lanes.{IsStep}
use Rattle.channel_params.proofs.Probs.{prob_in_range}
use Rattle.frame_store.proofs.Probs.{prob_again}
use Rattle.frame_store.proofs.coded.steps_of_codes.Goals as goal

pub loop-code-preserved : goal.loop-code-preserved
loop-code-preserved c =
    let code = c.loop-code.code in
    let old = c.loop-code.steps in
    let probs = c.args.probs.now in
    let step = c.step_of.result in
    let place = c.min.result in
    let place_is : place ≡ min (code % 64) (length probs - 1) = omega (arith, c.min.ensures) in
    let some : 1 ≤ length probs = omega (arith, c.requires.least, length-map probs (λ x. pos x)) in
    let range = prob_in_range probs place c.requires (omega (arith, place_is)) in
    let again = c.prob_within.ensures ∙ prob_again (get_or probs place 0) range.0 range.1 in
    let v = c.loop-code.invariant in
    let long = v.long in
    record {
      long = length-set old code step ∙ v.long;
      each = below_more _ _
          (λ k lt.
          let other : k ≢ code = omega arith in
          subst (IsStep (nat_lt k 64) (get_or probs (min (k % 64) (length probs - 1)) 0)) (sym (get_or-set_other old code k step 0 other)) (v.each k lt))
          (subst (IsStep (nat_lt code 64) (get_or probs (min (code % 64) (length probs - 1)) 0)) (sym (get_or-set_same old code step 0 (omega arith)))
          (subst (λ p. IsStep (nat_lt code 64) p step) (again ∙ ap (λ i. get_or probs i 0) place_is) c.step_of.ensures));
    }
