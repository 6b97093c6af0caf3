-- One step more is the next state; where one stops, all later steps leave it as it is.
use Rattle.std.proofs.Common.{◌≡◌, length, ap, sym, ◌∙◌, arith}
use Rattle.level_spec.specs.Recursion.{step, after}
use Rattle.level_spec.proofs.Steps.{length-after}
use Rattle.filter_analyser.proofs.Padding.{one_more, stopped}
use Rattle.filter_analyser.proofs.recursion.Run.advance.Goals as goal

pub step-requires-clause-room : goal.step-requires-clause-room
step-requires-clause-room c =
    let few = length-after c.args.lags.now c.loop-step._step in
    let same : length c.loop-step.self.values ≡ length (after c.args.lags.now c.loop-step._step).values = ap (λ s. length s.values) c.loop-step.invariant in
    omega arith

pub loop-step-preserved : goal.loop-step-preserved
loop-step-preserved c = c.step.ensures.state ∙ ap (step c.args.lags.now) c.loop-step.invariant ∙ one_more c.args.lags.now c.loop-step._step

pub returns-then-not-step : goal.returns-then-not-step
returns-then-not-step c =
    let lags = c.args.lags.now in
    let stays : c.step.new.self ≡ c.loop-step.self = c.step.ensures.stop c.if-not-step.true in
    let n = c.loop-step._step in
    stays ∙ c.loop-step.invariant
    ∙ stopped lags n c.args.to (omega arith) (ap (step lags) (sym c.loop-step.invariant) ∙ sym c.step.ensures.state ∙ stays ∙ c.loop-step.invariant)
