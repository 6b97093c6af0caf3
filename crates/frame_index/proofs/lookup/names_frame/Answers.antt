-- An entry that lies inside has a head before it within the form, which tells whether it is that of a frame.
use Rattle.std.proofs.Common.{◌∙◌, sym, arith}
use Rattle.dsdiff_chunks.specs.Forms.{coded_seen}
use Rattle.dsdiff_chunks.specs.Seen.{head_seen}
use Rattle.frame_index.specs.Entries.{entry_seen}
use Rattle.frame_index.proofs.Indexed.{behind_head, before_end, frame_is_named}
use Rattle.dsdiff_chunks.proofs.LawfulForms.{sound_inside}
use Rattle.frame_index.proofs.lookup.names_frame.Goals as goal

pub read_head-requires-clause-size : goal.read_head-requires-clause-size
read_head-requires-clause-size g c =
    let form = coded_seen c.args.form.now in
    let entry = entry_seen c.args.entry in
    let inside = sym c.lies_inside.ensures ∙ c.if-not-lies_inside.false in
    let within = sound_inside form c.args.form.now.lawful in
    let behind = behind_head form entry inside in
    let before = before_end form entry inside in
    (c.requires.size.0, c.requires.size.1, omega (arith, within, behind, before, c.requires.size.2))

pub returns-in-Ok-clause-named : goal.returns-in-Ok-clause-named
returns-in-Ok-clause-named g c xs told =
    let inside = sym c.lies_inside.ensures ∙ c.if-not-lies_inside.false in
    c.is_head_of.ensures
    ∙ frame_is_named xs (coded_seen c.args.form.now) (entry_seen c.args.entry) (head_seen c.in-Ok.head) inside (c.in-Ok.ensures.head xs told)
