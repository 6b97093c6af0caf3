-- At first the lanes have nothing, and each of the sixteen turns adds a byte before a frame.
use Rattle.std.proofs.Common.{◌≡◌, ◌+◌, [], ◌++◌, get_or, drop, replicate, refl, subst, ap, ◌∙◌, arith, add-one}
use Rattle.byte_predictor.specs.Samples.{rising_bits, samples_of}
use Rattle.byte_predictor.specs.Upward.{upward_sum, shifted}
use Rattle.byte_predictor.specs.KnownRows.{HasKnownRows}
use Rattle.byte_predictor.proofs.Lanes.{no_sums-at, nothing-ahead}
use Rattle.byte_predictor.proofs.KnownSums.{known-taken, reach-few, byte-more}
use Rattle.byte_predictor.proofs.known.KnownAhead.fresh.Goals as goal

pub loop-turn-init : goal.loop-turn-init
loop-turn-init c = (refl, λ lane h. no_sums-at 144 lane ∙ nothing-ahead (drop lane (shifted c.args.filter.now)))

pub loop-turn-preserved : goal.loop-turn-preserved
loop-turn-preserved c =
    let coefs = c.args.filter.now in
    let rule : HasKnownRows coefs c.filter.inside.rows c.filter.inside.size c.filter.inside.reach =
    subst (λ t. HasKnownRows t c.filter.inside.rows c.filter.inside.size c.filter.inside.reach) c.filter.view_is c.filter.invariant in
    let turn = c.loop-turn.turn in
    let reach = c.filter.inside.reach in
    let before = samples_of (replicate turn 170) in
    let row = get_or c.filter.inside.rows 170 [] in
    let more : rising_bits 8 170 ++ samples_of (replicate turn 170) ≡ samples_of (replicate (turn + 1) 170) = rw add-one (byte-more 170 turn) in (
      c.add_reach.ensures.long,
      λ lane h. known-taken reach coefs before c.loop-turn.lanes row c.add_reach.new.lanes 170 rule.table.each rule.table.most rule.all
          (reach-few reach rule.is_reach) c.loop-turn.invariant.1 (λ l i. rule.added 170 l (omega arith) i) c.add_reach.ensures.added
          c.add_reach.ensures.last lane h
          ∙ ap (upward_sum (drop lane (shifted coefs))) more,
    )

pub returns : goal.returns
returns c =
    let coefs = c.args.filter.now in
    let sixteen : c.loop-turn.turn ≡ 16 = omega arith in
    record {
      lanes = c.loop-turn.invariant.0;
      sums = λ lane h. c.loop-turn.invariant.1 lane h ∙ ap (λ n. upward_sum (drop lane (shifted coefs)) (samples_of (replicate n 170))) sixteen;
    }
