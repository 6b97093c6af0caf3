-- There are twelve bytes for each frame, so that those at 12 * k are entry k.
use Rattle.std.proofs.Common.{◌<◌, length, ap, sym, ◌∙◌, arith}
use Rattle.frame_index.proofs.Entries.{length-entries_in, entry-entries_in}
use Rattle.frame_index.specs.Entries.{entries_in}
use Rattle.frame_index.proofs.index.Index.entry.Goals as goal

pub entry_in-requires : goal.entry_in-requires
entry_in-requires c =
    let count = length-entries_in c.self.inside.bytes.items c.self.inside.frames c.self.invariant.0 in
    let below : c.args.k < length (entries_in c.self.inside.bytes.items) = rw (c.self.view_is) c.requires in
    omega (arith, ap length c.deref.ensures.value, c.self.invariant.0)

pub returns : goal.returns
returns c =
    let count = length-entries_in c.self.inside.bytes.items c.self.inside.frames c.self.invariant.0 in
    let below : c.args.k < length (entries_in c.self.inside.bytes.items) = rw (c.self.view_is) c.requires in
    let there = entry-entries_in c.self.inside.bytes.items c.self.inside.frames c.args.k c.self.invariant.0 (omega arith) in
    rw (← c.self.view_is) (c.entry_in.ensures ∙ rw c.deref.ensures.value (sym there))
