-- At first the lanes have nothing, and each turn adds one more of the bytes before a frame.
use Rattle.std.proofs.Common.{◌≡◌, ℕ, ◌+◌, ◌<◌, [], get_or, drop, replicate, refl, ap, sym, ◌∙◌, arith}
use Rattle.byte_predictor.specs.Samples.{samples_of}
use Rattle.byte_predictor.specs.Upward.{upward_sum, far}
use Rattle.byte_predictor.proofs.Lanes.{taken-lane, rows-seen, no_sums-at, nothing-ahead, byte-again}
use Rattle.byte_predictor.proofs.ahead.lanes_before.Goals as goal

pub loop-turn-init : goal.loop-turn-init
loop-turn-init c = (refl, λ lane h. no_sums-at 136 lane ∙ nothing-ahead (drop lane (far c.args.rows.now)))

pub loop-turn-preserved : goal.loop-turn-preserved
loop-turn-preserved c =
    let coefs = c.args.rows.now in
    let rule = rows-seen c.rows.view_is c.rows.invariant in
    let turn = c.loop-turn.turn in
    let again = byte-again 170 turn in
    let before : (lane : ℕ) → lane < 136 → get_or c.loop-turn.lanes lane 0 ≡ upward_sum (drop lane (far coefs))
    (drop 8 (samples_of (replicate (turn + 1) 170))) = λ lane h. c.loop-turn.invariant.1 lane h ∙ ap (upward_sum (drop lane (far coefs))) (sym again.1) in (
      c.add_row.ensures.long,
      taken-lane coefs (samples_of (replicate (turn + 1) 170)) c.loop-turn.lanes
          (get_or c.rows.inside.rows 170 []) c.add_row.new.lanes 170 rule.table.each rule.table.most again.0 before
          (λ lane h. rule.added 170 lane (omega arith) h) c.add_row.ensures.added c.add_row.ensures.last,
    )

pub returns-clause-sums : goal.returns-clause-sums
returns-clause-sums c = λ lane h.
    let fifteen : c.loop-turn.turn ≡ 15 = omega arith in
    c.loop-turn.invariant.1 lane h ∙ ap (λ n. upward_sum (drop lane (far c.args.rows.now)) (samples_of (replicate n 170))) fifteen
