-- The index, what is said of the plain file, the chunks behind the sound.
use Rattle.dst_cut.proofs.CutAround.{stopped_in_index, stopped_in_origin, end_by}
use Rattle.dst_cut.proofs.cut_parts.write_end.Goals as goal

pub returns-in_default-clause-written : goal.returns-in_default-clause-written
returns-in_default-clause-written g c file told =
    let known = g.met.S.Source.size_is_length c.args.source.now file c.requires.size.0 told c.requires.size.1 in
    stopped_in_index file c.args.cut.now c.requires.size.0 c.requires.size.2 known c.side_length.result c.side_length.ensures.length
    c.in_default.ensures.written

pub returns-in_default-write_origin_chunk-clause-written : goal.returns-in_default-write_origin_chunk-clause-written
returns-in_default-write_origin_chunk-clause-written g c file told =
    let known = g.met.S.Source.size_is_length c.args.source.now file c.requires.size.0 told c.requires.size.1 in
    stopped_in_origin file c.args.cut.now c.requires.size.0 c.requires.size.2 known c.side_length.result c.side_length.ensures.length
    c.in-Ok.ensures.written c.in_default-write_origin_chunk.ensures.written

pub returns-clause-written : goal.returns-clause-written
returns-clause-written g c file told =
    let known = g.met.S.Source.size_is_length c.args.source.now file c.requires.size.0 told c.requires.size.1 in
    end_by file c.args.cut.now c.requires.size.0 c.requires.size.2 known c.pass_side.result c.side_length.result _ _ c.side_length.ensures.length
    c.in-Ok.ensures.written c.in-Ok-write_origin_chunk.ensures.written (c.pass_side.ensures.written file told)
