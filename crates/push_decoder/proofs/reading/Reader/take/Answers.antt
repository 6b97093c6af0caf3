-- A fault is set apart from the other answers, and with it nothing more counts as answered.
use Rattle.std.proofs.Common.{◌≡◌, ◌++◌, take, Option, Some, subst}
use Rattle.push_decoder.specs.Events.{Event, has_stopped, due, answered_with}
use Rattle.push_decoder.specs.Reading.{HasRead}
use Rattle.push_decoder.proofs.reading.Reader.take.Goals as goal

pub returns-in-Fault-clause-answer : goal.returns-in-Fault-clause-answer
returns-in-Fault-clause-answer c taken answered has =
    let n = c.feed-count.result.0 in (
      n,
      record { within = c.feed-count.ensures.within; nothing_before = c.feed-count.ensures.before taken answered has },
      rw c.in-Fault.is at (c.feed-count.ensures.event taken answered has),
    )

pub returns-in-Fault-clause-after : goal.returns-in-Fault-clause-after
returns-in-Fault-clause-after c taken answered has =
    let n = c.feed-count.result.0 in
    let event : due (taken ++ take n c.args.piece.now) answered ≡ Some (has_stopped c.in-Fault.fault) =
    rw c.in-Fault.is at (c.feed-count.ensures.event taken answered has) in
    let P : Option Event → Type 0 = λ e. HasRead c.feed-count.new.self (taken ++ take n c.args.piece.now) (answered_with e answered) in
    record {
      count = n;
      first = record { within = c.feed-count.ensures.within; nothing_before = c.feed-count.ensures.before taken answered has };
      event = event;
      read = subst P event (c.feed-count.ensures.read taken answered has);
    }
