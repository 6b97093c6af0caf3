-- A fault of the index is the frame's; else the entry at its place names a frame, which isn't too long.
use Rattle.std.proofs.Common.{◌<◌, ◌≤◌, Some, ap, sym, ◌∙◌, Err, arith}
use Rattle.dsdiff_spec.specs.Form.{longest_frame}
use Rattle.dsdiff_spec.specs.declared.faults.FileFault.TheVariants.{FrameTooLong}
use Rattle.dsdiff_chunks.specs.Forms.{coded_seen}
use Rattle.dsdiff_chunks.specs.Seen.{head_seen}
use Rattle.frame_index.specs.Entries.{entry_seen}
use Rattle.frame_index.proofs.Indexed.{entry_read, found_by_index, found_too_long, frame_inside, names_none, no_index}
use Rattle.frame_index.proofs.Passing.{same_fault}
use Rattle.frame_index.proofs.lookup.locate_by_index.Goals as goal

pub returns-in-Err-clause-fault : goal.returns-in-Err-clause-fault
returns-in-Err-clause-fault g c fault e xs told =
    no_index xs (coded_seen c.args.form.now) c.args.k fault (c.in-Err.ensures.fault fault (ap Err (same_fault _ _ e)))

pub returns-in-Ok-false-clause-fault : goal.returns-in-Ok-false-clause-fault
returns-in-Ok-false-clause-fault g c fault e xs told =
    let entry = entry_seen c.in-Ok-read_entry.entry in
    names_none xs (coded_seen c.args.form.now) c.args.k entry c.in-Ok.ensures.accepted
    (entry_read xs (coded_seen c.args.form.now) (head_seen c.in-Ok.head) entry c.args.k c.from.result c.in-Ok.ensures.head c.from.ensures
    (c.in-Ok-read_entry.ensures.entry xs told))
    (sym (c.in-Ok-false.ensures.named xs (c.in-Ok-read_entry.ensures.bytes ∙ told)) ∙ c.in-Ok-false.field-0-test)
    ∙ ap Some (same_fault _ _ e)

pub returns-then-from-longest_frame-clause-fault : goal.returns-then-from-longest_frame-clause-fault
returns-then-from-longest_frame-clause-fault g c fault e xs told =
    let form = coded_seen c.args.form.now in
    let entry = entry_seen c.in-Ok-read_entry.entry in
    let long : longest_frame form < entry.size = omega (arith, c.if-from-longest_frame.true, c.longest_frame.ensures.longest, c.from-2.ensures) in
    found_too_long xs form c.args.k entry c.in-Ok.ensures.accepted
    (entry_read xs form (head_seen c.in-Ok.head) entry c.args.k c.from.result c.in-Ok.ensures.head c.from.ensures (c.in-Ok-read_entry.ensures.entry xs told))
    (sym (c.in-Ok-true.ensures.named xs (c.in-Ok-read_entry.ensures.bytes ∙ told)) ∙ c.in-Ok-true.field-0-test) long
    ∙ ap (λ n. Some (FrameTooLong c.args.k n)) (sym c.from-then-from-longest_frame.ensures)
    ∙ ap Some (same_fault _ _ e)

pub returns-clause-accepted : goal.returns-clause-accepted
returns-clause-accepted g c xs told =
    let form = coded_seen c.args.form.now in
    let entry = entry_seen c.in-Ok-read_entry.entry in
    let short : entry.size ≤ longest_frame form = omega (arith, c.if-from-longest_frame.false, c.longest_frame.ensures.longest, c.from-2.ensures) in
    found_by_index xs form c.args.k entry c.in-Ok.ensures.accepted
    (entry_read xs form (head_seen c.in-Ok.head) entry c.args.k c.from.result c.in-Ok.ensures.head c.from.ensures (c.in-Ok-read_entry.ensures.entry xs told))
    (sym (c.in-Ok-true.ensures.named xs (c.in-Ok-read_entry.ensures.bytes ∙ told)) ∙ c.in-Ok-true.field-0-test) short

pub returns-clause-entry : goal.returns-clause-entry
returns-clause-entry g c xs told =
    sym (entry_read xs (coded_seen c.args.form.now) (head_seen c.in-Ok.head) (entry_seen c.in-Ok-read_entry.entry) c.args.k c.from.result
    c.in-Ok.ensures.head c.from.ensures (c.in-Ok-read_entry.ensures.entry xs told))

pub returns-clause-inside : goal.returns-clause-inside
returns-clause-inside g c =
    frame_inside (coded_seen c.args.form.now) (entry_seen c.in-Ok-read_entry.entry) (c.in-Ok-true.ensures.inside c.in-Ok-true.field-0-test)
    (omega (arith, c.if-from-longest_frame.false, c.longest_frame.ensures.longest, c.from-2.ensures))
