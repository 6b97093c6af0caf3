-- The bytes behind the head of `DSTI`, twelve for each frame, are its entries in order.
use Rattle.std.proofs.Common.{length, sym, ap, subst, ◌∙◌}
use Rattle.dsdiff_chunks.specs.Forms.{coded_seen}
use Rattle.dsdiff_chunks.specs.Seen.{head_seen}
use Rattle.frame_index.specs.Lookup.{IsRead}
use Rattle.frame_index.proofs.Entries.{length-entries_in}
use Rattle.frame_index.proofs.Indexed.{all_read}
use Rattle.frame_index.proofs.lookup.read_index.Goals as goal

pub returns-in-Ok-read_entries-clause-count : goal.returns-in-Ok-read_entries-clause-count
returns-in-Ok-read_entries-clause-count g c =
    ap length c.from_bytes.ensures ∙ length-entries_in c.in-Ok-read_entries.bytes.items c.args.form.now.frames c.in-Ok-read_entries.ensures.long

pub returns-in-Ok-read_entries-clause-index : goal.returns-in-Ok-read_entries-clause-index
returns-in-Ok-read_entries-clause-index g c xs told =
    let form = coded_seen c.args.form.now in
    subst (IsRead xs form) (sym c.from_bytes.ensures)
    (all_read xs c.in-Ok-read_entries.bytes.items form (head_seen c.in-Ok.head) c.in-Ok-read_entries.ensures.long c.in-Ok.ensures.head
    (c.in-Ok-read_entries.ensures.entries xs told))
