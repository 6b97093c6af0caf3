-- `FRTE` is refused, or taken with its frame count and the channels that `PROP` tells.
use Rattle.std.proofs.Common.{ap, ◌∙◌, sym}
use Rattle.std.specs.Prelude.{option_map}
use Rattle.dsdiff_chunks.specs.Seen.{head_seen}
use Rattle.push_decoder.specs.Stages.{came_of}
use Rattle.push_decoder.proofs.FormParts.{came_later}
use Rattle.push_decoder.proofs.SoundSteps.{frte_is_taken, frte_is_refused}
use Rattle.push_decoder.proofs.sound.frame_count.Goals as goal

pub returns-in-Ok-clause-goes_on : goal.returns-in-Ok-clause-goes_on
returns-in-Ok-clause-goes_on c w version prop tells at there =
    frte_is_taken w c.copy_from_slice.new.self (came_of c.args.form version prop) version prop (head_seen c.args.head) c.in-Ok.frame_count _ c.requires.size
    (at ∙ sym c.copy_from_slice.ensures.after) there c.in-Ok.ensures.accepted c.in-Ok.ensures.count
    (ap (λ came. came.version) (came_later c.args.form version prop c.requires.later))
    (ap (option_map (λ fields. prop)) c.in-Some.is)
    (ap (λ fields. fields.channels) c.in-Some.fields-is ∙ (tells c.in-Some.fields c.in-Some.is).0)

pub returns-in-Err-clause-goes_on : goal.returns-in-Err-clause-goes_on
returns-in-Err-clause-goes_on c w version prop tells at there =
    frte_is_refused w c.copy_from_slice.new.self (came_of c.args.form version prop) (head_seen c.args.head) c.in-Err.fault c.requires.size
    (at ∙ sym c.copy_from_slice.ensures.after) there c.in-Err.ensures.refused

pub returns-in-Ok-clause-tells : goal.returns-in-Ok-clause-tells
returns-in-Ok-clause-tells c prop tells = ap (λ fields. fields.channels) c.in-Some.fields-is ∙ (tells c.in-Some.fields c.in-Some.is).0
