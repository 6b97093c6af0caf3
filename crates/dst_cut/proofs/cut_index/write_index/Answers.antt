-- The head of `DSTI`, and the entries.
use Rattle.std.proofs.Common.{◌≡◌, ℕ, ◌*◌, ◌++◌, sym, ◌∙◌}
use Rattle.std.specs.Prelude.{codes}
use Rattle.byteorder.specs.Endian.{big_bytes}
use Rattle.dsdiff_spec.specs.Written.{dsti}
use Rattle.dsdiff_chunks.specs.Forms.{coded_seen}
use Rattle.dst_commands.proofs.Writing.{added, cut_off, stops_first, stops_same}
use Rattle.dst_cut.specs.CutLayout.{count, entries_left, index_bytes}
use Rattle.dst_cut.specs.declared.cut_form.CutForm.{CutForm}
use Rattle.dst_commands.proofs.OneCall.{call_same}
use Rattle.dst_cut.proofs.CutCopied.{call_then}
use Rattle.dst_cut.proofs.CutPlaces.{cut_out, length-left}
use Rattle.dst_cut.proofs.CutWhole.{index_is}
use Rattle.dst_cut.proofs.cut_index.write_index.Goals as goal

-- the head for this many entries, and the entries, are the index
whole_index : (cut : CutForm) (place n : ℕ) → n ≡ count cut.first cut.last →
    codes "DSTI" ++ big_bytes 8 (12 * n) ++ index_bytes (entries_left cut.index cut.first cut.last place)
    ≡ dsti (entries_left cut.index cut.first cut.last place)
whole_index cut place n e =
    index_is (entries_left cut.index cut.first cut.last place) n
    (length-left (coded_seen cut.form) cut.index cut.first cut.last place cut.order (cut_out cut).long ∙ sym e)

pub returns-in_default-clause-written : goal.returns-in_default-clause-written
returns-in_default-clause-written g c =
    let es = entries_left c.args.cut.now.index c.args.cut.now.first c.args.cut.now.last c.args.place in
    let head = codes "DSTI" ++ big_bytes 8 (12 * c.from.result) in
    let whole = whole_index c.args.cut.now c.args.place c.from.result (c.from.ensures ∙ c.count.ensures.count) in
    stops_same (Unit {0}) (head ++ index_bytes es) _ _ _ _ whole
    (stops_first (Unit {0}) head (index_bytes es) _ _ _ (cut_off _ head _ _ _ _ c.in_default.ensures.sure c.in_default.ensures.written))

pub returns-clause-written : goal.returns-clause-written
returns-clause-written g c =
    let es = entries_left c.args.cut.now.index c.args.cut.now.first c.args.cut.now.last c.args.place in
    let head = codes "DSTI" ++ big_bytes 8 (12 * c.from.result) in
    let whole = whole_index c.args.cut.now c.args.place c.from.result (c.from.ensures ∙ c.count.ensures.count) in
    call_same c.write_entries.result (head ++ index_bytes es) _ _ _ _ _ whole
    (call_then c.write_entries.result head (index_bytes es) _ _ _ _ _ _ (added _ head _ _ _ _ c.in-Ok.ensures.sure c.in-Ok.ensures.written)
    c.write_entries.ensures.written)
