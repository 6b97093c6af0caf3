-- Behind a body of `PROP` that is accepted the stream goes on with what it tells.
use Rattle.std.proofs.Common.{◌∙◌}
use Rattle.dsdiff_chunks.specs.Seen.{head_seen}
use Rattle.push_decoder.proofs.FormParts.{prop_taken}
use Rattle.push_decoder.proofs.form.prop_body.Goals as goal

pub returns-in-Ok-clause-goes_on : goal.returns-in-Ok-clause-goes_on
returns-in-Ok-clause-goes_on c w version prop is_body there =
    prop_taken w version prop c.args.form (head_seen c.args.head) c.args.body.now c.in-Ok.fields c.requires.few c.requires.later c.requires.id
    there is_body c.in-Ok.ensures.accepted
    ∙ c.behind_chunk.ensures.goes_on w version c.args.body.now there
