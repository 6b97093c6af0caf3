-- A sample comes from the stretch before where it is among the first so many, else from the stretch itself.
use Rattle.std.proofs.Common.{◌-◌, ◌/◌, ◌%◌, ◌^◌, ◌<◌, cond, inl, inr, ap, sym, ◌∙◌, rules, arith}
use Rattle.std.proofs.lemmas.Bool.{cases_lt}
use Rattle.filter_refiner.proofs.Lengths.{test-true, test-false}
use Rattle.filter_analyser.proofs.Bits.{moved-near, moved-far}
use Rattle.filter_analyser.proofs.stretches.moved.Goals as goal

pub returns : goal.returns
returns c = λ i inside.
    let stretch = c.args.stretch in
    let before = c.args.before in
    let lag = c.args.lag in
    let fits : stretch < 2 ^ 64 = search rules in
    let far = before / 2 ^ (lag - 1 - i) % 2 in
    let near = stretch / 2 ^ (63 - (i - lag)) % 2 in
    elim (cases_lt i lag) [
      | inl h ↦ moved-far stretch before lag i fits (omega arith) h ∙ sym (ap (λ b. cond b far near) (test-true i lag h))
      | inr h ↦ moved-near stretch before lag i (omega arith) (omega arith) h inside ∙ sym (ap (λ b. cond b far near) (test-false i lag h))
    ]
