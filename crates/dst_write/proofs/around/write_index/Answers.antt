-- The loop writes entry by entry.
use Rattle.std.proofs.Common.{◌+◌, ◌++◌, take, flat_map, ap, ◌∙◌, arith}
use Rattle.std.proofs.lemmas.List.{take_all}
use Rattle.std.proofs.lemmas.List.Sums.{sum_by_more}
use Rattle.dsdiff_spec.specs.Written.{dsti}
use Rattle.dsdiff_spec.proofs.ByteLists.{entry_bytes}
use Rattle.dst_commands.proofs.Writing.{added, cut_off, adds_same, adds_then, stops_same, stops_first, stops_then, stops_in}
use Rattle.dst_write.specs.Layout.{chunk_size, entries_by}
use Rattle.dst_write.proofs.BySize.{begins_with_entries, dsti_head, dsti_is, head_and_more}
use Rattle.dst_write.proofs.around.write_index.Goals as goal

pub returns-in_default-clause-written : goal.returns-in_default-clause-written
returns-in_default-clause-written g c =
    let sizes = c.args.sizes.now in
    stops_same (Unit {0}) _ (dsti (entries_by c.args.first sizes)) _ _ _ (dsti_is c.args.first sizes)
    (stops_first (Unit {0}) (dsti_head sizes) (flat_map entry_bytes (entries_by c.args.first sizes)) _ _ _
    (cut_off _ (dsti_head sizes) _ _ _ _ c.in_default.ensures.sure c.in_default.ensures.written))

pub returns-in_default-write_entry-clause-written : goal.returns-in_default-write_entry-clause-written
returns-in_default-write_entry-clause-written g c =
    let sizes = c.args.sizes.now in
    let i = c.loop-size.size-index in
    let first = c.args.first in
    stops_in (Unit {0}) (dsti (entries_by first sizes)) (dsti_head sizes ++ flat_map entry_bytes (entries_by first (take (i + 1) sizes))) _ _ _
    (begins_with_entries first sizes (i + 1))
    (stops_same (Unit {0}) _ _ _ _ _ (head_and_more first sizes i 0 c.loop-size.place c.loop-size-test.true c.loop-size.invariant.place)
    (stops_then (Unit {0}) _ _ _ _ _ _ _ c.loop-size.invariant.written
    (cut_off _ _ _ _ _ _ c.in_default-write_entry.ensures.sure c.in_default-write_entry.ensures.written)))

pub loop-size-preserved : goal.loop-size-preserved
loop-size-preserved g c =
    let sizes = c.args.sizes.now in
    let i = c.loop-size.size-index in
    let first = c.args.first in
    record {
      place = omega (arith, c.loop-size.invariant.place, c.chunk_size-place.ensures, sum_by_more chunk_size sizes i 0 c.loop-size-test.true);
      most = omega (arith, c.loop-size.invariant.most, c.chunk_size-place.ensures, c.type_inv.sizes i);
      appended = omega (arith, c.loop-size.invariant.appended, c.in-Ok-write_entry.ensures.grows);
      faults = omega (arith, c.loop-size.invariant.faults, c.in-Ok-write_entry.ensures.cause.later);
      written =
          adds_same _ _ _ _ _ _ (head_and_more first sizes i 0 c.loop-size.place c.loop-size-test.true c.loop-size.invariant.place)
          (adds_then _ _ _ _ _ _ _ _ c.loop-size.invariant.written
          (added _ _ _ _ _ _ c.in-Ok-write_entry.ensures.sure c.in-Ok-write_entry.ensures.written));
    }

pub returns-clause-written : goal.returns-clause-written
returns-clause-written g c =
    let sizes = c.args.sizes.now in
    let all = take_all c.loop-size.size-index sizes c.loop-size-test.false in
    adds_same _ _ _ _ _ _ (ap (λ w. dsti_head sizes ++ flat_map entry_bytes (entries_by c.args.first w)) all
    ∙ dsti_is c.args.first sizes) c.loop-size.invariant.written
