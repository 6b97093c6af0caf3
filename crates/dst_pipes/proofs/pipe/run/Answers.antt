-- The answers while the stream is read in pieces, at its end, and where the flow or a piece fails.
use Rattle.std.proofs.Common.{◌≡◌, [], ◌++◌, take, drop, None, Err, refl, ap, sym, subst, ◌∙◌, arith, append-nil, append_assoc, length-append}
use Rattle.std.proofs.lemmas.List.{length-take}
use Rattle.dst_spec.specs.Bits.{AreBytes}
use Rattle.dst_streams.specs.Told.{IsZeroAtEnd}
use Rattle.dsdiff_spec.specs.Streams.{stream}
use Rattle.push_decoder.specs.Events.{nothing_answered, due}
use Rattle.push_decoder.specs.Laws.{AreOf}
use Rattle.push_decoder.specs.Told.{EndsAs}
use Rattle.push_decoder.proofs.Pieces.{events_law}
use Rattle.dst_pipes.specs.Endings.{IsStoppedShort, PipeEnds}
use Rattle.dst_pipes.proofs.Waiting.{nothing_due}
use Rattle.dst_pipes.proofs.Final.{ends_in_reading, ends_cut_off}
use Rattle.dst_pipes.proofs.Runs.{of_piece, piece_read, split_at, piece_stops, frames_most, finished, write_alone}
use Rattle.dst_pipes.proofs.NoFront.{none_begun, no_work_yet}
use Rattle.dst_pipes.proofs.pipe.run.Goals as goal

pub loop-read-init : goal.loop-read-init
loop-read-init g c = record {
  waiting = record {
    taken = [];
    waits = record { answered = nothing_answered; stands = c.requires.fresh; works = refl; wrote = (refl, refl); nothing_due = nothing_due };
    count = refl;
    flow = λ w told. (w, told, refl);
  };
  most = omega arith;
  flow_later = omega arith;
  sink_later = omega arith;
  untouched = λ e. refl;
}

-- the flow failed
pub returns-in_default-clause-ends : goal.returns-in_default-clause-ends
returns-in_default-clause-ends g c w told =
    let at = c.loop-read.invariant.waiting in
    let flow = at.flow w told in
    let bytes = g.met.F.Flow.told_are_bytes c.args.flow.now w told in
    subst (λ v. IsStoppedShort v (g.K.Sink.written c.args.sink.now) (g.K.Sink.written c.loop-read.sink)) (sym flow.2)
    (ends_in_reading at.taken flow.0 at.waits.answered _ _ _ _ (subst AreBytes flow.2 bytes)
    (events_law c.loop-read.decoder at.taken at.waits.answered at.waits.stands) at.waits.wrote)

-- the flow is at its end
pub returns-then-count-eq0-clause-ends : goal.returns-then-count-eq0-clause-ends
returns-then-count-eq0-clause-ends g c w told =
    let at = c.loop-read.invariant.waiting in
    let flow = at.flow w told in
    let zero = subst (λ l. IsZeroAtEnd l c.in-Ok.count) flow.1 c.in-Ok.ensures.end in
    let none : flow.0 ≡ [] = zero.0 c.if-count-eq0.true in
    let same : w ≡ at.taken = flow.2 ∙ ap (λ x. at.taken ++ x) none ∙ append-nil at.taken in
    ends_cut_off w at.waits.answered c.cut_fault.result _ _ _ _
    (subst (λ v. AreOf at.waits.answered (stream v)) (append-nil at.taken ∙ sym same)
    (events_law c.loop-read.decoder at.taken at.waits.answered at.waits.stands []))
    (ap (λ v. due v at.waits.answered) same ∙ at.waits.nothing_due)
    (subst (λ v. EndsAs (Err c.cut_fault.result) (stream v).ending) (sym same) (c.cut_fault.ensures at.taken at.waits.answered at.waits.stands))
    at.waits.wrote

pub finish-requires : goal.finish-requires
finish-requires g c =
    record { whole = frames_most _ _ _ _ _ _ (rw c.in-Ok-true.field-0-test at (of_piece c.loop-read.invariant.waiting c.in-Ok-true.ensures.ends)).1 }

pub returns-in-Ok-true-clause-ends : goal.returns-in-Ok-true-clause-ends
returns-in-Ok-true-clause-ends g c w told =
    let at = c.loop-read.invariant.waiting in
    let piece = take c.in-Ok.count c.next.new.out in
    let ends = rw c.in-Ok-true.field-0-test at (of_piece at c.in-Ok-true.ensures.ends) in
    let moved = piece_read at piece w c.in-Ok.ensures.moved told in
    let same : w ≡ (at.taken ++ take ends.0 piece) ++ (drop ends.0 piece ++ moved.0) = moved.2 ∙ split_at at.taken piece moved.0 ends.0 in
    let bytes = g.met.F.Flow.told_are_bytes c.args.flow.now w told in
    subst (λ v. PipeEnds c.finish.result v (g.K.Sink.written c.args.sink.now) (g.K.Sink.written c.finish.new.sink) (g.K.Sink.room c.args.sink.now)) (sym same)
    (finished c.finish.result (at.taken ++ take ends.0 piece) (drop ends.0 piece ++ moved.0) _ _ _ _ _ _ ends.1 (subst AreBytes same bytes)
    c.finish.ensures.written
    c.finish.ensures.sure (write_alone c.finish.result _ _ c.finish.ensures.cause) c.finish.ensures.frames c.finish.ensures.bytes)

pub returns-in-Err-clause-ends : goal.returns-in-Err-clause-ends
returns-in-Err-clause-ends g c w told =
    let at = c.loop-read.invariant.waiting in
    let moved = piece_read at _ w c.in-Ok.ensures.moved told in
    let bytes = g.met.F.Flow.told_are_bytes c.args.flow.now w told in
    subst (λ v. PipeEnds (Err c.in-Err.fault) v (g.K.Sink.written c.args.sink.now) (g.K.Sink.written c.decode_piece.new.sink)
    (g.K.Sink.room c.args.sink.now)) (sym moved.2)
    (piece_stops c.in-Err.fault at.taken _ moved.0 _ _ _ _ (subst AreBytes moved.2 bytes) (of_piece at c.in-Err.ensures.ends))

pub loop-read-preserved : goal.loop-read-preserved
loop-read-preserved g c =
    let at = c.loop-read.invariant.waiting in
    let piece = take c.in-Ok.count c.next.new.out in
    let ends = rw c.in-Ok-false.field-0-test at (of_piece at c.in-Ok-false.ensures.ends) in
    record {
      waiting = record {
        taken = at.taken ++ piece;
        waits = ends;
        count = c.taken-read.ensures.count (at.taken ++ piece) ends.answered ends.stands;
        flow = λ w told.
            let moved = piece_read at piece w c.in-Ok.ensures.moved told in
            (moved.0, moved.1, moved.2 ∙ sym (append_assoc at.taken piece moved.0));
      };
      most = c.taken-read.ensures.most;
      flow_later = omega (arith, c.in-Ok.ensures.cause.later, c.loop-read.invariant.flow_later);
      sink_later = omega (arith, c.in-Ok-false.ensures.later, c.loop-read.invariant.sink_later);
      untouched = λ e.
          let here = c.in-Ok-false.ensures.untouched e in
          here.0 ∙ c.loop-read.invariant.untouched here.1;
    }

pub loop-read-smaller : goal.loop-read-smaller
loop-read-smaller g c =
    let at = c.loop-read.invariant.waiting in
    let ends = rw c.in-Ok-false.field-0-test at (of_piece at c.in-Ok-false.ensures.ends) in
    let count = c.taken-read.ensures.count _ ends.answered ends.stands in
    let both = length-append at.taken (take c.in-Ok.count c.next.new.out) in
    let long = length-take c.in-Ok.count c.next.new.out in
    let before = at.count in
    omega (arith, count, both, long, before, c.in-Ok.ensures.count, c.next.auto.out, c.if-count-eq0.false, c.taken-read.ensures.most)

-- ---- no front comes
pub returns-in_default-clause-no_front : goal.returns-in_default-clause-no_front
returns-in_default-clause-no_front g c w told none =
    c.loop-read.invariant.untouched (no_work_yet c.loop-read.invariant.waiting w told none)

pub returns-then-count-eq0-clause-no_front : goal.returns-then-count-eq0-clause-no_front
returns-then-count-eq0-clause-no_front g c w told none =
    c.loop-read.invariant.untouched (no_work_yet c.loop-read.invariant.waiting w told none)

pub returns-in-Ok-true-clause-no_front : goal.returns-in-Ok-true-clause-no_front
returns-in-Ok-true-clause-no_front g c w told none =
    let at = c.loop-read.invariant.waiting in
    let ends = rw c.in-Ok-true.field-0-test at (of_piece at c.in-Ok-true.ensures.ends) in
    let moved = piece_read at _ w c.in-Ok.ensures.moved told in
    absurd (none_begun at.taken _ moved.0 ends.0 ends.1.front ends.1.frames ends.1.begins
    (subst (λ v. (stream v).front ≡ None) moved.2 none))

pub returns-in-Err-clause-no_front : goal.returns-in-Err-clause-no_front
returns-in-Err-clause-no_front g c w told none =
    let at = c.loop-read.invariant.waiting in
    let moved = piece_read at _ w c.in-Ok.ensures.moved told in
    c.in-Err.ensures.no_front at.taken moved.0 at.waits.answered at.waits.stands at.waits.works _ _ at.waits.wrote
    (subst (λ v. (stream v).front ≡ None) moved.2 none)
    ∙ c.loop-read.invariant.untouched (no_work_yet at w told none)
