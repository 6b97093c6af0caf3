-- `KEPT` of the sound that is left.
use Rattle.std.proofs.Common.{List, ℕ, [], ap, ap₂, sym, ◌∙◌}
use Rattle.std.specs.Option.{option_map}
use Rattle.dsdiff_spec.specs.Written.{origin_chunk}
use Rattle.dsdiff_chunks.specs.Forms.{coded_seen}
use Rattle.dsdiff_chunks.specs.Seen.{origin_seen}
use Rattle.dst_cut.specs.CutLayout.{origin_left_by}
use Rattle.dst_commands.proofs.OneCall.{one_call, call_same}
use Rattle.dst_cut.proofs.cut_parts.write_origin_chunk.Goals as goal

pub returns-in-Some-clause-written : goal.returns-in-Some-clause-written
returns-in-Some-clause-written g c =
    let cut = c.args.cut.now in
    let form = coded_seen cut.form in
    let origin = c.in-Some.origin in
    let is =
    ap (λ (w : List ℕ). origin_chunk c.size_left-size.result c.pad_left.result w []) c.as_slice.ensures
    ∙ ap₂ (λ s p. origin_chunk s p origin.cmpr []) c.size_left-size.ensures c.pad_left.ensures
    ∙ ap (λ o. origin_left_by form cut.first cut.last o) (sym (ap (option_map origin_seen) c.in-Some.is)) in
    call_same c.write_origin.result _ _ _ _ _ _ is (one_call c.write_origin.result _ _ _ _ _ c.write_origin.ensures.written c.write_origin.ensures.sure)
