-- The loop writes as many entries at a time as the buffer holds.
use Rattle.std.proofs.Common.{◌+◌, ◌∙◌, arith}
use Rattle.dsdiff_spec.proofs.ByteLists.{entry_bytes}
use Rattle.dsdiff_chunks.specs.Forms.{coded_seen}
use Rattle.dst_commands.proofs.Writing.{added, adds_same, adds_then, cut_off, stops_in, stops_same, stops_then}
use Rattle.dst_commands.proofs.InTurn.{all_parts, begins_with_parts}
use Rattle.dst_cut.specs.CutLayout.{entries_left, index_bytes}
use Rattle.dst_cut.proofs.CutPlaces.{cut_out, length-left}
use Rattle.dst_cut.proofs.CutIndex.{more_entries}
use Rattle.dst_cut.proofs.cut_index.write_entries.Goals as goal

pub returns-in_default-clause-written : goal.returns-in_default-clause-written
returns-in_default-clause-written g c =
    let es = entries_left c.args.cut.now.index c.args.cut.now.first c.args.cut.now.last c.args.place in
    let more = more_entries es c.loop-k.k c.min-count.result c.fill_entries.ensures.entries in
    stops_in (Unit {0}) (index_bytes es) _ _ _ _ (begins_with_parts entry_bytes es (c.loop-k.k + c.min-count.result))
    (stops_same (Unit {0}) _ _ _ _ _ more
    (stops_then (Unit {0}) _ _ _ _ _ _ _ c.loop-k.invariant.written (cut_off _ _ _ _ _ _ c.in_default.ensures.sure c.in_default.ensures.written)))

pub loop-k-preserved : goal.loop-k-preserved
loop-k-preserved g c =
    let es = entries_left c.args.cut.now.index c.args.cut.now.first c.args.cut.now.last c.args.place in
    let more = more_entries es c.loop-k.k c.min-count.result c.fill_entries.ensures.entries in
    record {
      later = omega (arith, c.loop-k.invariant.later, c.in-Ok.ensures.cause.later);
      inside = omega (arith, c.count.ensures.count);
      written = adds_same _ _ _ _ _ _ more
          (adds_then _ _ _ _ _ _ _ _ c.loop-k.invariant.written (added _ _ _ _ _ _ c.in-Ok.ensures.sure c.in-Ok.ensures.written));
      long = c.fill_entries.ensures.long ∙ c.loop-k.invariant.long;
    }

pub returns-clause-written : goal.returns-clause-written
returns-clause-written g c =
    let cut = c.args.cut.now in
    let long = length-left (coded_seen cut.form) cut.index cut.first cut.last c.args.place cut.order (cut_out cut).long in
    all_parts entry_bytes (entries_left cut.index cut.first cut.last c.args.place) c.loop-k.k _ _ _ _
    (omega (arith, long, c.count.ensures.count, c.loop-k-test.false)) c.loop-k.invariant.written
