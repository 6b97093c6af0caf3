-- By what the chunk is: it is refused by its head, begins the sound, has a body that is looked at, or is passed over.
use Rattle.std.proofs.Common.{rules, ◌≡◌, true, false, sym, ◌∙◌, arith}
use Rattle.dsdiff_spec.specs.Bytes.{◌is◌}
use Rattle.dsdiff_chunks.specs.Seen.{head_seen}
use Rattle.push_decoder.specs.Stages.{came_of}
use Rattle.push_decoder.proofs.FormSteps.{refused_at, sound_is_at, chunk_is_at}
use Rattle.push_decoder.proofs.FormParts.{passes_on}
use Rattle.push_decoder.proofs.form.form_head.Goals as goal

pub returns-in-Some-clause-goes_on : goal.returns-in-Some-clause-goes_on
returns-in-Some-clause-goes_on c w version prop tells is_head there =
    refused_at w c.args.form.end c.args.form.chunks c.args.head.place (came_of c.args.form version prop) (head_seen c.args.head) c.in-Some.fault
    c.requires.few is_head c.requires.within there (sym (c.head_fault.ensures.fault version prop tells) ∙ c.in-Some.is)

pub returns-then-eq-clause-goes_on : goal.returns-then-eq-clause-goes_on
returns-then-eq-clause-goes_on c w version prop tells is_head there =
    let d : ((head_seen c.args.head).id is "DST ") ≡ true = search rules in
    sound_is_at w c.args.form.end c.args.form.chunks c.args.head.place (came_of c.args.form version prop) (head_seen c.args.head)
    c.requires.few is_head c.requires.within there (sym (c.head_fault.ensures.fault version prop tells) ∙ c.in_default.is) d

pub returns-then-form-eq0-clause-goes_on : goal.returns-then-form-eq0-clause-goes_on
returns-then-form-eq0-clause-goes_on c w version prop tells is_head there =
    let d : ((head_seen c.args.head).id is "DST ") ≡ false = search rules in
    chunk_is_at w c.args.form.end c.args.form.chunks c.args.head.place (came_of c.args.form version prop) (head_seen c.args.head)
    c.requires.few is_head c.requires.within there (sym (c.head_fault.ensures.fault version prop tells) ∙ c.in_default.is) d

pub returns-clause-goes_on : goal.returns-clause-goes_on
returns-clause-goes_on c w version prop tells is_head there =
    let d : ((head_seen c.args.head).id is "DST ") ≡ false = search rules in
    let p : ((head_seen c.args.head).id is "PROP") ≡ false = search rules in
    chunk_is_at w c.args.form.end c.args.form.chunks c.args.head.place (came_of c.args.form version prop) (head_seen c.args.head)
    c.requires.few is_head c.requires.within there (sym (c.head_fault.ensures.fault version prop tells) ∙ c.in_default.is) d
    ∙ passes_on w version prop c.args.form (head_seen c.args.head) c.requires.few (omega arith) p (omega (arith, c.in_default.ensures.within))
    ∙ c.behind_chunk.ensures.goes_on w version prop there
