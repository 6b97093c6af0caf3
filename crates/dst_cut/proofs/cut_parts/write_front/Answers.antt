-- The head of the form, the chunks before the sound, the head of the sound with the number of frames.
use Rattle.std.proofs.Common.{◌≡◌}
use Rattle.dsdiff_chunks.specs.declared.copy.CopyFault.{CopyFault}
use Rattle.dst_cut.proofs.CutAround.{stopped_in_head, stopped_in_side, stopped_in_sound, front_added}
use Rattle.dst_cut.proofs.cut_parts.write_front.Goals as goal

pub returns-in_default-clause-written : goal.returns-in_default-clause-written
returns-in_default-clause-written g c file told =
    let known = g.met.S.Source.size_is_length c.args.source.now file c.requires.size.0 told c.requires.size.1 in
    stopped_in_head file c.args.cut.now c.requires.size.0 c.requires.size.2 known c.form_size.result c.form_size.ensures c.in_default.ensures.written

pub returns-in-Err-clause-written : goal.returns-in-Err-clause-written
returns-in-Err-clause-written g c file told =
    let known = g.met.S.Source.size_is_length c.args.source.now file c.requires.size.0 told c.requires.size.1 in
    stopped_in_side file c.args.cut.now c.requires.size.0 c.requires.size.2 known (c.in-Err.fault ≡ CopyFault.Write) c.form_size.result c.form_size.ensures
    c.in-Ok.ensures.written (c.in-Err.ensures.written file told)

pub returns-in-Ok-write_sound_opening-clause-written : goal.returns-in-Ok-write_sound_opening-clause-written
returns-in-Ok-write_sound_opening-clause-written g c file told =
    let known = g.met.S.Source.size_is_length c.args.source.now file c.requires.size.0 told c.requires.size.1 in
    front_added file c.args.cut.now c.requires.size.0 c.requires.size.2 known c.form_size.result c.form_size.ensures
    c.in-Ok.ensures.written (c.in_default-pass_side.ensures.written file told) c.in-Ok-write_sound_opening.ensures.written

pub returns-in-Err-write_sound_opening-clause-written : goal.returns-in-Err-write_sound_opening-clause-written
returns-in-Err-write_sound_opening-clause-written g c file told =
    let known = g.met.S.Source.size_is_length c.args.source.now file c.requires.size.0 told c.requires.size.1 in
    stopped_in_sound file c.args.cut.now c.requires.size.0 c.requires.size.2 known c.form_size.result c.form_size.ensures
    c.in-Ok.ensures.written (c.in_default-pass_side.ensures.written file told) c.in-Err-write_sound_opening.ensures.written
