-- What the loop over the steps of a piece leaves, by what the last step says of the rest.
use Rattle.std.proofs.Common.{◌+◌, Ok, ap, subst, ◌∙◌, arith}
use Rattle.push_decoder.proofs.Short.{rest_of, and_more}
use Rattle.dst_pipes.specs.Steps.{Waits, GoesOn, HasCome}
use Rattle.dst_pipes.proofs.Moved.{of_step, step_stays, stops_moved, whole_piece}
use Rattle.dst_pipes.proofs.pieces.decode_piece.Goals as goal

pub returns-in-Err-clause-ends : goal.returns-in-Err-clause-ends
returns-in-Err-clause-ends g c taken answered has works old room wrote =
    let ends = of_step c.in-Err.ensures.ends (c.loop-taken.invariant.goes taken answered has works old room wrote) in
    stops_moved c.in-Err.fault taken c.args.piece.now c.loop-taken.start old _ room _ (rw (rest_of c.args.piece.now c.loop-taken.start) at ends)

pub loop-taken-smaller : goal.loop-taken-smaller
loop-taken-smaller g c =
    let fewer = c.in-Ok.ensures.fewer c.in-Ok.taken.0 (ap (λ x. Ok (c.in-Ok.taken.0, x)) c.in-Again.is) in
    omega (arith, fewer)

pub loop-taken-preserved : goal.loop-taken-preserved
loop-taken-preserved g c = record {
  ready = c.in-Ok.ensures.ready c.in-Ok.taken.0 (ap (λ x. Ok (c.in-Ok.taken.0, x)) c.in-Again.is);
  within = omega (arith, c.in-Ok.ensures.within);
  later = omega (arith, c.in-Ok.ensures.later, c.loop-taken.invariant.later);
  untouched = λ e.
      let step = c.in-Ok.ensures.untouched e in
      let before = c.loop-taken.invariant.untouched step.1 in
      (step.0 ∙ before.0, before.1);
  goes = λ taken answered has works old room wrote.
      let ends = rw c.in-Again.is at (of_step c.in-Ok.ensures.ends (c.loop-taken.invariant.goes taken answered has works old room wrote)) in
      subst (λ p. GoesOn p c.decode_step.new.decoder c.decode_step.new.work old (g.K.Sink.written c.decode_step.new.sink) room
      (g.K.Sink.room c.decode_step.new.sink))
      (and_more taken c.args.piece.now c.loop-taken.start c.in-Ok.taken.0) (rw (rest_of c.args.piece.now c.loop-taken.start) at ends);
  no_front = λ taken more answered has works old room wrote none.
      step_stays taken c.args.piece.now more c.loop-taken.start (c.loop-taken.invariant.goes taken answered has works old room wrote)
      c.in-Ok.ensures.no_front none (c.loop-taken.invariant.no_front taken more answered has works old room wrote none);
}

pub returns-in-More-clause-ends : goal.returns-in-More-clause-ends
returns-in-More-clause-ends g c taken answered has works old room wrote =
    let ends = rw c.in-More.is at (of_step c.in-Ok.ensures.ends (c.loop-taken.invariant.goes taken answered has works old room wrote)) in
    let moved = rw (rest_of c.args.piece.now c.loop-taken.start) at ends in
    subst (λ p. Waits p c.decode_step.new.decoder c.decode_step.new.work old (g.K.Sink.written c.decode_step.new.sink) room
    (g.K.Sink.room c.decode_step.new.sink))
    (whole_piece taken c.args.piece.now c.loop-taken.start c.in-Ok.taken.0 moved.0 (omega (arith, c.loop-taken.invariant.within))) moved.1

pub returns-in-End-clause-ends : goal.returns-in-End-clause-ends
returns-in-End-clause-ends g c taken answered has works old room wrote =
    let ends = rw c.in-End.is at (of_step c.in-Ok.ensures.ends (c.loop-taken.invariant.goes taken answered has works old room wrote)) in (
      c.loop-taken.start + c.in-Ok.taken.0,
      subst (λ p. HasCome p c.decode_step.new.work old (g.K.Sink.written c.decode_step.new.sink) room (g.K.Sink.room c.decode_step.new.sink))
          (and_more taken c.args.piece.now c.loop-taken.start c.in-Ok.taken.0) (rw (rest_of c.args.piece.now c.loop-taken.start) at ends),
    )

pub returns-in-Err-clause-no_front : goal.returns-in-Err-clause-no_front
returns-in-Err-clause-no_front g c taken more answered has works old room wrote none =
    step_stays taken c.args.piece.now more c.loop-taken.start (c.loop-taken.invariant.goes taken answered has works old room wrote)
    c.in-Err.ensures.no_front none (c.loop-taken.invariant.no_front taken more answered has works old room wrote none)

pub returns-in-More-clause-no_front : goal.returns-in-More-clause-no_front
returns-in-More-clause-no_front g c taken more answered has works old room wrote none =
    step_stays taken c.args.piece.now more c.loop-taken.start (c.loop-taken.invariant.goes taken answered has works old room wrote)
    c.in-Ok.ensures.no_front none (c.loop-taken.invariant.no_front taken more answered has works old room wrote none)

pub returns-in-End-clause-no_front : goal.returns-in-End-clause-no_front
returns-in-End-clause-no_front g c taken more answered has works old room wrote none =
    step_stays taken c.args.piece.now more c.loop-taken.start (c.loop-taken.invariant.goes taken answered has works old room wrote)
    c.in-Ok.ensures.no_front none (c.loop-taken.invariant.no_front taken more answered has works old room wrote none)
