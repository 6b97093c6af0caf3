-- The index, what is said of the plain file, the chunks behind the sound.
use Rattle.std.proofs.Common.{arith}
use Rattle.dsdiff_chunks.specs.Forms.{plain_seen}
use Rattle.dst_commands.proofs.PassedOn.{of_ok}
use Rattle.dst_write.specs.Layout.{behind}
use Rattle.dst_commands.proofs.OneCall.{has_grown}
use Rattle.dst_write.proofs.EndParts.{stopped_in_index, stopped_in_origin, end_by}
use Rattle.dst_write.proofs.around.write_end.Goals as goal

pub returns-in_default-clause-written : goal.returns-in_default-clause-written
returns-in_default-clause-written g c file told =
    let known = g.met.S.Source.size_is_length c.args.source.now file c.requires.size.0 told c.requires.size.1 in
    stopped_in_index c.args.sizes.now file c.args.form.now c.requires.size.0 c.requires.size.2 known c.side_length.result c.side_length.ensures.length
    c.in_default.ensures.written

pub returns-in_default-write_origin_chunk-clause-written : goal.returns-in_default-write_origin_chunk-clause-written
returns-in_default-write_origin_chunk-clause-written g c file told =
    let known = g.met.S.Source.size_is_length c.args.source.now file c.requires.size.0 told c.requires.size.1 in
    stopped_in_origin c.args.sizes.now file c.args.form.now c.requires.size.0 c.requires.size.2 known c.side_length.result c.side_length.ensures.length
    c.in-Ok.ensures.written c.in_default-write_origin_chunk.ensures.written

pub returns-clause-appended : goal.returns-clause-appended
returns-clause-appended g c =
    of_ok c.write_side.result _ _ (λ grown. omega (arith, c.in-Ok.ensures.appended, c.in-Ok-write_origin_chunk.ensures.appended, grown))
    (has_grown c.write_side.result c.args.form.now.end _ _ (λ file. behind file (plain_seen c.args.form.now)) c.write_side.ensures.appended)

pub returns-clause-written : goal.returns-clause-written
returns-clause-written g c file told =
    let known = g.met.S.Source.size_is_length c.args.source.now file c.requires.size.0 told c.requires.size.1 in
    end_by c.args.sizes.now file c.args.form.now c.requires.size.0 c.requires.size.2 known c.write_side.result c.side_length.result _ _
    c.side_length.ensures.length c.in-Ok.ensures.written c.in-Ok-write_origin_chunk.ensures.written (c.write_side.ensures.written file told)
