-- The sound lies in the form.
use Rattle.std.proofs.Common.{arith}
use Rattle.dsdiff_chunks.specs.Forms.{coded_seen}
use Rattle.dsdiff_chunks.proofs.LawfulForms.{sound_inside}
use Rattle.dst_cut.proofs.cut_form.CutForm.ends.Goals as goal

pub overflow_add-result : goal.overflow_add-result
overflow_add-result c =
    let form = c.args.self.now.form in
    omega (arith, sound_inside (coded_seen form) form.lawful, form.lawful.end)

pub overflow_add-result-then-is_to_the_end : goal.overflow_add-result-then-is_to_the_end
overflow_add-result-then-is_to_the_end c =
    let form = c.args.self.now.form in
    omega (arith, sound_inside (coded_seen form) form.lawful, form.lawful.end)
