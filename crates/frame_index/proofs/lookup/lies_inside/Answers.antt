-- The sound lies inside the form, so that the places in it fit their words.
use Rattle.std.proofs.Common.{arith}
use Rattle.dsdiff_chunks.specs.Forms.{coded_seen}
use Rattle.dsdiff_chunks.proofs.LawfulForms.{sound_inside}
use Rattle.frame_index.proofs.lookup.lies_inside.Goals as goal

pub overflow_add-body : goal.overflow_add-body
overflow_add-body c =
    let within = sound_inside (coded_seen c.args.form.now) c.args.form.now.lawful in omega (arith, within, c.args.form.now.lawful.end)

pub overflow_add-end : goal.overflow_add-end
overflow_add-end c =
    let within = sound_inside (coded_seen c.args.form.now) c.args.form.now.lawful in omega (arith, within, c.args.form.now.lawful.end)

pub overflow_add-body-2 : goal.overflow_add-body-2
overflow_add-body-2 c =
    let within = sound_inside (coded_seen c.args.form.now) c.args.form.now.lawful in omega (arith, within, c.args.form.now.lawful.end)

pub overflow_add-body-3 : goal.overflow_add-body-3
overflow_add-body-3 c =
    let within = sound_inside (coded_seen c.args.form.now) c.args.form.now.lawful in omega (arith, within, c.args.form.now.lawful.end)
