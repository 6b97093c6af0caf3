-- The parts are those of the plain file.
use Rattle.std.proofs.Common.{List, ℕ, ap, ◌∙◌}
use Rattle.dsdiff_spec.specs.Written.{cmpr_in, origin_chunk}
use Rattle.dst_commands.proofs.OneCall.{one_call, call_same}
use Rattle.dst_write.proofs.around.write_origin_chunk.Goals as goal

pub returns-clause-written : goal.returns-clause-written
returns-clause-written g c =
    let form = c.args.form.now in
    let cmpr = c.cmpr_of_prop-cmpr.ensures.chunk ∙ ap cmpr_in c.as_slice.ensures in
    let is =
    ap (λ (w : List ℕ). origin_chunk form.sound.size form.pad w c.as_slice-2.result.now) cmpr
    ∙ ap (λ (w : List ℕ). origin_chunk form.sound.size form.pad (cmpr_in form.prop) w) c.as_slice-2.ensures in
    call_same c.write_origin.result _ _ _ _ _ _ is (one_call c.write_origin.result _ _ _ _ _ c.write_origin.ensures.written c.write_origin.ensures.sure)
