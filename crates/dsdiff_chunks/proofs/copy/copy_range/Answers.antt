-- The loop keeps that a front of the range is written. The law on the size shows that the range lies within the bytes.
use Rattle.std.proofs.Common.{rules, ◌≡◌, ◌+◌, ◌-◌, ◌<◌, ◌≤◌, length, take, Some, true, false, ◌∙◌, ap, arith}
use Rattle.std.proofs.lemmas.List.{length-drop, length-take}
use Rattle.dst_streams.proofs.Told.{cut_later, cut_there, HoldsFrom-later, and_then-more}
use Rattle.dsdiff_chunks.proofs.copy.copy_range.Given.{Over}
use Rattle.dsdiff_chunks.proofs.copy.copy_range.Goals as goal

-- what was read is the front of the buffer, some bytes of it, and ends before the range does
piece_read : (g : Over) (c : goal.After-append-arg-1 g) →
    (length (take c.in-Ok.count c.read_at.new.out) ≡ c.in-Ok.count) × (0 < c.in-Ok.count) × (c.loop-place.place + c.in-Ok.count ≤ c.args.to)
piece_read g c =
    let count = c.in-Ok.ensures.count c.requires.known.0 (c.loop-place.invariant.known ∙ c.requires.known.1) in
    let within = count.within in
    let part = length-take c.min-want.result c.loop-place.buffer in
    let out = c.read_at.auto.out in
    (length-take c.in-Ok.count c.read_at.new.out ∙ omega arith, count.below (omega arith), omega arith)

pub returns-in-Err-clause-cut_short : goal.returns-in-Err-clause-cut_short
returns-in-Err-clause-cut_short g c xs told =
    let size = g.met.S.Source.size_is_length c.args.source.now xs c.requires.known.0 told c.requires.known.1 in
    cut_there _ _ _ (c.loop-place.place - c.args.from) (c.args.to - c.args.from)
    (omega arith)
    (omega (arith, length-drop c.args.from xs, size, c.requires.known.2))
    (c.loop-place.invariant.copied xs told)

pub returns-in-Err-append-clause-cut_short : goal.returns-in-Err-append-clause-cut_short
returns-in-Err-append-clause-cut_short g c xs told =
    let size = g.met.S.Source.size_is_length c.args.source.now xs c.requires.known.0 told c.requires.known.1 in
    let piece = piece_read g c.before.before.before.before.before in
    let read = HoldsFrom-later _ xs _ c.args.from c.loop-place.place c.in-Ok.count c.loop-place.invariant.from_place
    (c.loop-place.invariant.bytes ∙ told) c.in-Ok.ensures.read in
    cut_later _ _ _ _ (c.loop-place.place - c.args.from) c.in-Ok.count (c.args.to - c.args.from)
    (omega arith)
    (omega (arith, length-drop c.args.from xs, size, c.requires.known.2))
    (c.loop-place.invariant.copied xs told)
    (rw read at c.in-Err-append.ensures.written)

pub loop-place-preserved : goal.loop-place-preserved
loop-place-preserved g c =
    let piece = piece_read g c.before.before.before.before.before in
    let appended = c.in-Ok-append.ensures.appended in
    let before = c.loop-place.invariant.appended in
    record {
      from_place = omega arith;
      place_to = omega arith;
      bytes = search rules;
      known = search rules;
      loan = search rules;
      copied = λ xs told.
          let read = HoldsFrom-later _ xs _ c.args.from c.loop-place.place c.in-Ok.count c.loop-place.invariant.from_place
          (c.loop-place.invariant.bytes ∙ told) c.in-Ok.ensures.read in
          let e : c.loop-place.place + c.in-Ok.count - c.args.from ≡ c.loop-place.place - c.args.from + c.in-Ok.count = omega arith in
          c.in-Ok-append.ensures.written ∙ rw (read, c.loop-place.invariant.copied xs told, e) (and_then-more _ _ _ _);
      sure = λ room is fits.
          let was = c.loop-place.invariant.sure room is fits in
          let left : length (take c.in-Ok.count c.read_at.new.out) ≤ room - (c.loop-place.place - c.args.from) = omega arith in
          let low = c.in-Ok-append.ensures.sure.lowered (room - (c.loop-place.place - c.args.from)) was left in
          let e : room - (c.loop-place.place - c.args.from) - length (take c.in-Ok.count c.read_at.new.out) ≡ room -
          (c.loop-place.place + c.in-Ok.count - c.args.from) = omega arith in
          low ∙ ap Some e;
      appended = omega arith;
      given = omega (arith, c.in-Ok.ensures.given);
      source_faults = search rules;
      sink_faults = search rules;
    }

pub returns-in-Err-append-clause-taken : goal.returns-in-Err-append-clause-taken
returns-in-Err-append-clause-taken g c room is fits e =
    let piece = piece_read g c.before.before.before.before.before in
    let was = c.loop-place.invariant.sure room is fits in
    let left : length (take c.in-Ok.count c.read_at.new.out) ≤ room - (c.loop-place.place - c.args.from) = omega arith in
    let never : false ≡ true = c.in-Err-append.ensures.sure.taken (room - (c.loop-place.place - c.args.from)) was left in
    cc

pub slice_bounds-append-end : goal.slice_bounds-append-end
slice_bounds-append-end g c =
    omega (arith, length-take c.in-Ok.count c.read_at.new.out, (piece_read g c).0)

pub overflow_add-place : goal.overflow_add-place
overflow_add-place g c =
    omega (arith, piece_read g c.before.before.before.before.before, c.ranges.to.fits)

pub loop-place-smaller : goal.loop-place-smaller
loop-place-smaller g c =
    omega (arith, piece_read g c.before.before.before.before.before)

pub returns-in-Err-append-clause-given : goal.returns-in-Err-append-clause-given
returns-in-Err-append-clause-given g c =
    omega (arith, piece_read g c.before.before.before.before.before, c.in-Ok.ensures.given)
