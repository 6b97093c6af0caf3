-- Bytes taken one after the other are bytes taken at once, and nothing was due of fewer.
use Rattle.std.proofs.Common.{◌≡◌, ◌++◌, ℕ, List, take, Some, None, ◌∙◌, ap, sym, subst, arith}
use Rattle.std.proofs.lemmas.List.{drop-take}
use Rattle.push_decoder.specs.Events.{frame_came, due, answered_with}
use Rattle.push_decoder.specs.Reading.{HasRead}
use Rattle.push_decoder.proofs.Short.{rest_of, and_more, before_more}
use Rattle.push_decoder.proofs.reading.Reader.feed.Goals as goal

pub returns-in-Some-clause-event : goal.returns-in-Some-clause-event
returns-in-Some-clause-event c taken answered has =
    c.in-Some.ensures.event (taken ++ take c.loop-answer.count c.args.piece.now) answered (c.loop-answer.invariant.read taken answered has)
    c.args.piece.now c.loop-answer.count

pub returns-in-Some-clause-read : goal.returns-in-Some-clause-read
returns-in-Some-clause-read c taken answered has =
    c.in-Some.ensures.read (taken ++ take c.loop-answer.count c.args.piece.now) answered (c.loop-answer.invariant.read taken answered has)

pub returns-then-count-piece-clause-event : goal.returns-then-count-piece-clause-event
returns-then-count-piece-clause-event c taken answered has = (
  c.in_default.ensures.quiet (taken ++ take c.loop-answer.count c.args.piece.now) answered (c.loop-answer.invariant.read taken answered has),
  omega arith,
)

pub returns-then-count-piece-clause-read : goal.returns-then-count-piece-clause-read
returns-then-count-piece-clause-read c taken answered has =
    let here = c.loop-answer.invariant.read taken answered has in
    let none : due (taken ++ take c.loop-answer.count c.args.piece.now) answered ≡ None =
    c.in_default.ensures.quiet (taken ++ take c.loop-answer.count c.args.piece.now) answered here in
    rw (none, c.in_default.ensures.same) here

pub returns-in-Some-pass_frame-clause-before : goal.returns-in-Some-pass_frame-clause-before
returns-in-Some-pass_frame-clause-before c taken answered has =
    let here : HasRead c.answer.new.self (taken ++ take c.loop-answer.count c.args.piece.now) answered =
    rw c.in_default.ensures.same (c.loop-answer.invariant.read taken answered has) in
    before_more taken c.args.piece.now answered c.loop-answer.count c.in-Some-pass_frame.size (c.loop-answer.invariant.before taken answered has)
    (rw (rest_of c.args.piece.now c.loop-answer.count) at
    (c.in-Some-pass_frame.ensures.before (taken ++ take c.loop-answer.count c.args.piece.now) answered here))

pub returns-in-Some-pass_frame-clause-event : goal.returns-in-Some-pass_frame-clause-event
returns-in-Some-pass_frame-clause-event c taken answered has =
    let n = c.loop-answer.count in
    let here : HasRead c.answer.new.self (taken ++ take c.loop-answer.count c.args.piece.now) answered =
    rw c.in_default.ensures.same (c.loop-answer.invariant.read taken answered has) in (
      ap (λ w. due w answered) (sym (and_more taken c.args.piece.now n c.in-Some-pass_frame.size))
          ∙ (rw (rest_of c.args.piece.now n) at (c.in-Some-pass_frame.ensures.event (taken ++ take n c.args.piece.now) answered here))
          ∙ ap (λ b. Some (frame_came b)) (sym (drop-take n c.in-Some-pass_frame.size c.args.piece.now)),
      c.in-Some-pass_frame.ensures.number (taken ++ take n c.args.piece.now) answered here,
      omega arith,
    )

pub returns-in-Some-pass_frame-clause-read : goal.returns-in-Some-pass_frame-clause-read
returns-in-Some-pass_frame-clause-read c taken answered has =
    let n = c.loop-answer.count in
    let here : HasRead c.answer.new.self (taken ++ take c.loop-answer.count c.args.piece.now) answered =
    rw c.in_default.ensures.same (c.loop-answer.invariant.read taken answered has) in
    let P : List ℕ → Type 0 = λ w. HasRead c.pass_frame.new.self w (answered_with (due w answered) answered) in
    subst P (and_more taken c.args.piece.now n c.in-Some-pass_frame.size)
    (rw (rest_of c.args.piece.now n) at (c.in-Some-pass_frame.ensures.read (taken ++ take n c.args.piece.now) answered here))

pub loop-answer-preserved : goal.loop-answer-preserved
loop-answer-preserved c = record {
  within = omega arith;
  read = λ taken answered has.
      let here : HasRead c.pass_frame.new.self (taken ++ take c.loop-answer.count c.args.piece.now) answered =
      rw (c.in_default-pass_frame.ensures.same, c.in_default.ensures.same) (c.loop-answer.invariant.read taken answered has) in
      let P : List ℕ → Type 0 = λ w. HasRead c.gather_some-count.new.self w answered in
      subst P (and_more taken c.args.piece.now c.loop-answer.count c.gather_some-count.result)
      (rw (rest_of c.args.piece.now c.loop-answer.count) at
      (c.gather_some-count.ensures.read (taken ++ take c.loop-answer.count c.args.piece.now) answered here));
  before = λ taken answered has.
      let here : HasRead c.pass_frame.new.self (taken ++ take c.loop-answer.count c.args.piece.now) answered =
      rw (c.in_default-pass_frame.ensures.same, c.in_default.ensures.same) (c.loop-answer.invariant.read taken answered has) in
      before_more taken c.args.piece.now answered c.loop-answer.count c.gather_some-count.result (c.loop-answer.invariant.before taken answered has)
      (rw (rest_of c.args.piece.now c.loop-answer.count) at
      (c.gather_some-count.ensures.before (taken ++ take c.loop-answer.count c.args.piece.now) answered here));
}
