-- By what the chunk is: it is refused by its head, passed over, or a frame, which may be empty.
use Rattle.std.proofs.Common.{rules, ◌≡◌, false, sym, ◌∙◌, arith}
use Rattle.dsdiff_spec.specs.Bytes.{◌is◌}
use Rattle.dsdiff_chunks.specs.Seen.{head_seen}
use Rattle.push_decoder.proofs.SoundSteps.{refused_at, chunk_is_at, passes_on}
use Rattle.push_decoder.proofs.sound.sound_head.Goals as goal

pub returns-in-Some-clause-goes_on : goal.returns-in-Some-clause-goes_on
returns-in-Some-clause-goes_on c w version prop is_head there =
    refused_at w c.args.sound c.args.head.place (head_seen c.args.head) c.in-Some.fault c.requires.few is_head c.requires.within there
    (sym c.head_fault.ensures.fault ∙ c.in-Some.is)

pub returns-then-ne-clause-goes_on : goal.returns-then-ne-clause-goes_on
returns-then-ne-clause-goes_on c w version prop is_head there =
    let d : ((head_seen c.args.head).id is "DSTF") ≡ false = search rules in
    chunk_is_at w c.args.sound c.args.head.place (head_seen c.args.head) c.requires.few is_head c.requires.within there
    (sym c.head_fault.ensures.fault ∙ c.in_default.is)
    ∙ passes_on w c.args.sound (head_seen c.args.head) c.requires.few d (omega (arith, c.in_default.ensures.within))
    ∙ c.behind_chunk.ensures.goes_on w version prop there

pub returns-then-head-eq0-clause-goes_on : goal.returns-then-head-eq0-clause-goes_on
returns-then-head-eq0-clause-goes_on c w version prop is_head there =
    chunk_is_at w c.args.sound c.args.head.place (head_seen c.args.head) c.requires.few is_head c.requires.within there
    (sym c.head_fault.ensures.fault ∙ c.in_default.is)

pub returns-clause-goes_on : goal.returns-clause-goes_on
returns-clause-goes_on c w version prop is_head there =
    chunk_is_at w c.args.sound c.args.head.place (head_seen c.args.head) c.requires.few is_head c.requires.within there
    (sym c.head_fault.ensures.fault ∙ c.in_default.is)
