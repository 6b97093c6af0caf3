-- The loop puts entry behind entry, each moved with its frame.
use Rattle.std.proofs.Common.{◌≡◌, ◌+◌, ◌*◌, ◌<◌, ◌≤◌, ◌-◌, ◌++◌, length, get_or, take, drop, ap, sym, ◌∙◌, arith, length-drop}
use Rattle.std.proofs.lemmas.List.{get_or-drop}
use Rattle.std.proofs.lemmas.Slice.{take-put_mid}
use Rattle.byteorder.specs.Endian.{big_bytes}
use Rattle.dsdiff_spec.specs.Walk.{Entry}
use Rattle.dsdiff_spec.proofs.ByteLists.{entry_bytes}
use Rattle.dsdiff_chunks.specs.Forms.{coded_seen}
use Rattle.frame_index.specs.Entries.{entry_seen}
use Rattle.dst_cut.specs.CutLayout.{begins, count, moved, entries_left}
use Rattle.dst_cut.proofs.CutPlaces.{cut_out, length-left, nth_left, none}
use Rattle.dst_cut.proofs.CutIndex.{one_more_entry}
use Rattle.dst_cut.proofs.cut_index.fill_entries.Goals as goal

-- the entry lies behind the first one, and within the form
entry_inside : (c : goal.After-struct_known-1) →
    (begins c.args.cut.now.index c.args.cut.now.first ≤ c.entry-entry.result.offset) × (c.entry-entry.result.offset ≤ c.args.cut.now.form.end)
entry_inside c =
    let cut = c.args.cut.now in
    let a = cut_out cut in
    let here = cut.first + (c.args.k + c.loop-next.next) in
    let within : here < length cut.index = omega (arith, a.long, c.loop-next-test.true, c.requires.there, cut.order) in
    let offset = ap (λ (e : Entry). e.offset) c.entry-entry.ensures in
    (omega (arith, a.from here (omega arith) within, offset), omega (arith, a.to here within, offset))

pub overflow_sub-entry : goal.overflow_sub-entry
overflow_sub-entry c =
    omega (arith, entry_inside c, c.begins-from.ensures)

pub overflow_add-place : goal.overflow_add-place
overflow_add-place c =
    omega (arith, entry_inside c, (cut_out c.args.cut.now).most, c.begins-from.ensures, c.requires.place)

pub loop-next-preserved : goal.loop-next-preserved
loop-next-preserved c =
    let cut = c.args.cut.now in
    let next = c.loop-next.next in
    let k = c.args.k in
    let place = c.args.place in
    let old = c.loop-next.buffer in
    let new = c.put_entry.new.bytes in
    let at = 12 * next in
    let a = cut_out cut in
    let within : k + next < count cut.first cut.last = omega (arith, c.loop-next-test.true, c.requires.there) in
    let es = entries_left cut.index cut.first cut.last place in
    let whole = length-left (coded_seen cut.form) cut.index cut.first cut.last place cut.order a.long in
    let inside : next < length (drop k es) = omega (arith, within, whole, length-drop k es) in
    let piece = big_bytes 8 (place + (c.entry-entry.result.offset - c.begins-from.result)) ++ big_bytes 4 c.entry-entry.result.size in
    let is : piece ≡ entry_bytes (get_or (drop k es) next none) =
    ap (λ b. entry_bytes (moved b place (entry_seen c.entry-entry.result))) c.begins-from.ensures
    ∙ ap (λ (e : Entry). entry_bytes (moved (begins cut.index cut.first) place e)) c.entry-entry.ensures
    ∙ ap entry_bytes (sym (nth_left cut.index cut.first cut.last place (k + next) cut.order a.long within) ∙ sym (get_or-drop k es next none)) in
    let fits : at ≤ length old = omega (arith, c.loop-next.invariant.long, c.loop-next-test.true, c.requires.room) in
    let long : length new ≡ 12 = search in
    let upto : 12 * (next + 1) ≡ at + length new = omega (arith, long) in
    record {
      long = search;
      entries = take-put_mid at (at + 12 - at) old new (12 * (next + 1)) upto fits
          ∙ ap (λ w. take at old ++ w) c.put_entry.ensures
          ∙ ap (λ w. w ++ piece) c.loop-next.invariant.entries
          ∙ one_more_entry (drop k es) next none piece inside is;
    }
