-- A step of the recursion is the next state, or stops where that stops.
use Rattle.std.proofs.Common.{◌≡◌, ◌+◌, ◌^◌, ◌<◌, nat_abs, nat_lt, length, take, length-take-le, cond, ap, sym, ◌∙◌, subst, arith}
use Rattle.std.proofs.lemmas.Int.{ints}
use Rattle.std.specs.List.{list_any}
use Rattle.level_spec.specs.Recursion.{State, fallen, step}
use Rattle.level_spec.proofs.Bounds.{none_above}
use Rattle.filter_analyser.proofs.Reflecting.{fallen-held, run-goes_on}
use Rattle.filter_analyser.proofs.Stepping.{step-stops, step-made}
use Rattle.filter_analyser.proofs.recursion.Run.step.Goals as goal
use Rattle.filter_analyser.proofs.recursion.Run.step.Goals.{After-has_large}

pub returns-then-unsigned_abs-clause-state : goal.returns-then-unsigned_abs-clause-state
returns-then-unsigned_abs-clause-state c =
    let s : State = record { error = c.self.inside.error; values = take c.self.inside.steps c.self.inside.values } in
    let stop = step-stops c.args.lags.now s c.next_value-next_value.result c.unsigned_abs.result c.self.invariant.1 (omega (arith, ints))
    c.next_value-next_value.ensures c.unsigned_abs.ensures.value (omega arith) in
    sym (subst (λ t. step c.args.lags.now t ≡ t) c.self.view_is stop)

-- what the code makes of the state, with the error as it falls
abbrev next-state : After-has_large → State
next-state c = record { error = fallen c.self.inside.error c.next_value-next_value.result; values = take (c.self.inside.steps + 1) c.move_values.new.next }

-- it is the next state, and the old one stays where a value is too great; the value that is added is small
next-made : (c : After-has_large) → (nat_abs c.next_value-next_value.result < 2 ^ 24)
    × (step c.args.lags.now c.args.self.now ≡ cond c.has_large.result c.args.self.now (next-state c))
next-made c =
    let r = c.self.inside in
    let long = length-take-le r.steps r.values (omega (arith, c.self.told, c.self.invariant.0)) in
    rw (← c.self.view_is) (step-made c.args.lags.now (record { error = r.error; values = take r.steps r.values }) c.next_value-next_value.result
    c.unsigned_abs.result r.steps c.move_values.new.next c.has_large.result c.self.invariant.1 long (omega (arith, ints)) c.next_value-next_value.ensures
    c.unsigned_abs.ensures.value (omega arith) c.move_values.ensures.moved c.has_large.ensures)

pub returns-then-has_large-clause-state : goal.returns-then-has_large-clause-state
returns-then-has_large-clause-state c =
    c.self.view_is ∙ sym ((next-made c.before).1 ∙ ap (λ b. cond b c.args.self.now (next-state c.before)) c.if-has_large.true)

pub invariant_of-self-2 : goal.invariant_of-self-2
invariant_of-self-2 c =
    let r = c.self.inside in
    let long = length-take-le r.steps r.values (omega (arith, c.self.told, c.self.invariant.0)) in
    run-goes_on (record { error = r.error; values = take r.steps r.values }) c.fallen-self-inside.result r.steps c.copy_first.new.values c.self.invariant.1 long
    (subst (λ t. length t.values < 128) (sym c.self.view_is) c.requires.room) c.fallen-self-inside.ensures.least c.fallen-self-inside.ensures.most
    (none_above (take (r.steps + 1) c.copy_first.new.values)
    (ap (list_any (λ b. nat_lt (2 ^ 40) (nat_abs b))) c.copy_first.ensures.first ∙ sym c.has_large.ensures ∙ c.if-has_large.false))

-- the point of the test, seen from the end
abbrev at_test : goal.After-self-2-1 → After-has_large
at_test c = c.before.before.before.before.before.before.before.before

pub returns-clause-state : goal.returns-clause-state
returns-clause-state c =
    let r = c.self.inside in
    let made = next-made (at_test c) in
    let fell = fallen-held (record { error = r.error; values = take r.steps r.values }) c.next_value-next_value.result c.fallen-self-inside.result
    c.self.invariant.1 made.0 c.fallen-self-inside.ensures.fallen c.fallen-self-inside.ensures.least c.fallen-self-inside.ensures.most in
    rw (fell, c.copy_first.ensures.first) (sym (made.1 ∙ ap (λ b. cond b c.args.self.now (next-state (at_test c))) c.if-has_large.false))
