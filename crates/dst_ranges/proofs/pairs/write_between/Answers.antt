-- One part more is written, or it stops there.
use Rattle.std.proofs.Common.{◌/◌, ◌∷◌, [], length, drop, refl, ◌∙◌, arith, length-append, length-drop}
use Rattle.dst_ranges.specs.Parts.{part}
use Rattle.dst_ranges.proofs.Geometry.{first_taken}
use Rattle.dst_ranges.proofs.Underway.{at_first, one_more, all_done, stopped_there, wrote_as, stopped_as, part_as}
use Rattle.dst_ranges.proofs.pairs.write_between.Goals as goal

pub loop-place-init : goal.loop-place-init
loop-place-init g c = record {
  bytes = refl;
  known = refl;
  later = omega arith;
  sink_later = omega arith;
  least = omega arith;
  most = c.requires.order;
  long = refl;
  unchanged = λ e. refl;
  underway = at_first c.args.reader.now (length c.args.buffer.now) c.args.from c.args.end _ _ _ _;
}

pub returns-in-Err-clause-stops : goal.returns-in-Err-clause-stops
returns-in-Err-clause-stops g c =
    let l = c.loop-place in
    let n = length c.args.buffer.now in
    let taken = first_taken n l.place c.args.end l.buffer c.requires.some c.loop-place-test.true c.min-count.ensures l.invariant.long in
    stopped_there c.in-Err.fault c.args.reader.now l.reader n c.args.from l.place c.args.end c.min-count.result _ _ _ _ _ _ _ _ c.requires.some
    c.loop-place-test.true c.min-count.ensures l.invariant.underway
    (stopped_as c.in-Err.fault l.reader _ (part (l.place / n) l.place c.min-count.result ∷ []) _ _ _ _ _
    (part_as c.args.reader.now l.reader n l.place _ c.min-count.result l.invariant.underway.wrote.wanted.same c.requires.buffer taken.2) l.invariant.bytes
    c.in-Err.ensures.stops)

pub loop-place-preserved : goal.loop-place-preserved
loop-place-preserved g c =
    let l = c.loop-place in
    let n = length c.args.buffer.now in
    let taken = first_taken n l.place c.args.end l.buffer c.requires.some c.loop-place-test.true c.min-count.ensures l.invariant.long in
    record {
      bytes = c.in-Ok.ensures.bytes ∙ l.invariant.bytes;
      known = c.in-Ok.ensures.stays ∙ l.invariant.known;
      later = omega (arith, c.in-Ok.ensures.source_later, l.invariant.later);
      sink_later = omega (arith, c.in-Ok.ensures.sink_later, l.invariant.sink_later);
      least = omega (arith, l.invariant.least);
      most = omega (arith, taken.1);
      long = omega (
        arith,
        length-append c.write_part.new.room (drop c.min-count.result l.buffer),
        length-drop c.min-count.result l.buffer,
        c.write_part.auto.room,
        taken.2,
        l.invariant.long,
        c.min-count.ensures,
      );
      unchanged = λ e. absurd (omega (arith, e, taken.0, l.invariant.least));
      underway = one_more c.args.reader.now l.reader c.write_part.new.reader n c.args.from l.place c.args.end c.min-count.result _ _ _ _ _ _ _ _ _ _
          c.requires.some c.loop-place-test.true c.min-count.ensures l.invariant.underway
          (wrote_as l.reader c.write_part.new.reader _ (part (l.place / n) l.place c.min-count.result ∷ []) _ _ _ _ _ _ _ _
          (part_as c.args.reader.now l.reader n l.place _ c.min-count.result l.invariant.underway.wrote.wanted.same c.requires.buffer taken.2) l.invariant.bytes
          c.in-Ok.ensures.wrote);
    }

pub returns-clause-wrote : goal.returns-clause-wrote
returns-clause-wrote g c =
    let l = c.loop-place in
    all_done c.args.reader.now l.reader (length c.args.buffer.now) c.args.from l.place c.args.end _ _ _ _ _ _ _
    (omega (arith, c.loop-place-test.false, l.invariant.most)) l.invariant.underway
