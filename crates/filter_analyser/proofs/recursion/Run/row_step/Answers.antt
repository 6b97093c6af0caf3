-- A step of the recursion with a ridge is the next row of the state, or stops where that stops.
use Rattle.std.proofs.Common.{◌≡◌, ◌+◌, ◌^◌, ◌<◌, nat_abs, nat_lt, to_z, of_z, length, take, length-take-le, cond}
use Rattle.std.proofs.Common.{ap, sym, ◌∙◌, subst, arith}
use mir.Syntax.{w64}
use Rattle.std.proofs.lemmas.Int.{ints}
use Rattle.std.specs.List.{list_any}
use Rattle.std.proofs.lemmas.Bool.{or_parts}
use Rattle.level_spec.specs.Recursion.{State}
use Rattle.level_spec.specs.Rows.{next_row}
use Rattle.level_spec.proofs.RowSteps.{none_above_32}
use Rattle.filter_analyser.proofs.Shares.{lags-most}
use Rattle.filter_analyser.proofs.Reflecting.{run-goes_on}
use Rattle.filter_analyser.proofs.RowStepping.{row-stops, row-made, below-40}
use Rattle.filter_analyser.proofs.recursion.Run.row_step.Goals as goal
use Rattle.filter_analyser.proofs.recursion.Run.row_step.Goals.{After-is_past}

pub returns-then-unsigned_abs-clause-state : goal.returns-then-unsigned_abs-clause-state
returns-then-unsigned_abs-clause-state c =
    let s : State = record { error = c.self.inside.error; values = take c.self.inside.steps c.self.inside.values } in
    let stop = row-stops c.args.lags.now s c.next_value-added.result c.unsigned_abs.result c.self.invariant.1 (omega (arith, ints))
    c.next_value-added.ensures c.unsigned_abs.ensures.value (omega arith) in
    sym (subst (λ t. next_row c.args.lags.now t ≡ t) c.self.view_is stop)

pub is_past-requires : goal.is_past-requires
is_past-requires c =
    let first = lags-most c.args.lags.now 0 c.requires.correlations in
    let less = c.fallen-error.ensures.most in
    let least = c.fallen-error.ensures.least in
    let most = c.self.invariant.1.most in
    let positive = c.self.invariant.1.positive in
    record { error = omega (arith, ints); r0 = omega (arith, ints) }

-- what the code makes of the state
abbrev next-state : After-is_past → State
next-state c = record { error = to_z w64 (of_z w64 c.fallen-error.result); values = take (c.self.inside.steps + 1) c.move_values.new.next }

-- it is the next row, and the old row stays where the test answers that it is past
next-made : (c : After-is_past) → next_row c.args.lags.now c.args.self.now ≡ cond c.is_past.result c.args.self.now (next-state c)
next-made c =
    let r = c.self.inside in
    let long = length-take-le r.steps r.values (omega (arith, c.self.told, c.self.invariant.0)) in
    rw (← c.self.view_is) (row-made c.args.lags.now (record { error = r.error; values = take r.steps r.values }) c.next_value-added.result
    c.fallen-error.result c.unsigned_abs.result r.steps c.move_values.new.next c.is_past.result c.requires.correlations c.self.invariant.1 long
    (omega (arith, ints)) c.next_value-added.ensures c.unsigned_abs.ensures.value (omega arith) c.move_values.ensures.moved c.fallen-error.ensures.fallen
    c.fallen-error.ensures.least c.fallen-error.ensures.most c.is_past.ensures)

pub returns-then-is_past-clause-state : goal.returns-then-is_past-clause-state
returns-then-is_past-clause-state c =
    c.self.view_is ∙ sym (next-made c.before ∙ ap (λ b. cond b c.args.self.now (next-state c.before)) c.if-is_past.true)

pub invariant_of-self-2 : goal.invariant_of-self-2
invariant_of-self-2 c =
    let r = c.self.inside in
    let long = length-take-le r.steps r.values (omega (arith, c.self.told, c.self.invariant.0)) in
    let past = or_parts _ _ (sym c.is_past.ensures ∙ c.if-is_past.false) in
    let values = take (r.steps + 1) c.copy_first.new.values in
    run-goes_on (record { error = r.error; values = take r.steps r.values }) c.fallen-error.result r.steps c.copy_first.new.values c.self.invariant.1 long
    (subst (λ t. length t.values < 128) (sym c.self.view_is) c.requires.room) c.fallen-error.ensures.least c.fallen-error.ensures.most
    (below-40 values (none_above_32 values (ap (list_any (λ b. nat_lt (2 ^ 32) (nat_abs b))) c.copy_first.ensures.first ∙ past.1)))

-- the point of the test, seen from the end
abbrev at_test : goal.After-self-2-1 → After-is_past
at_test c = c.before.before.before.before.before.before

pub returns-clause-state : goal.returns-clause-state
returns-clause-state c =
    let tested = at_test c in
    rw c.copy_first.ensures.first (sym (next-made tested ∙ ap (λ b. cond b c.args.self.now (next-state tested)) c.if-is_past.false))
