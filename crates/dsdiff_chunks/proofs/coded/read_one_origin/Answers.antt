-- A body that is too long is bad whatever it has; any other is judged by its bytes, which are read whole.
use Rattle.std.proofs.Common.{ap, sym, ◌∙◌, arith}
use Rattle.dst_spec.specs.Sample.{sound_bytes}
use Rattle.dsdiff_spec.specs.Chunks.{body_of}
use Rattle.dsdiff_spec.specs.Faults.{◌when◌}
use Rattle.dsdiff_spec.specs.Origin.{is_bad_origin, origin_of}
use Rattle.dsdiff_spec.specs.declared.faults.FileFault.TheVariants.{KeptBad}
use Rattle.dsdiff_chunks.specs.Seen.{head_seen}
use Rattle.dsdiff_chunks.proofs.CodedParts.{too_long_is_bad, body_is_long}
use Rattle.dsdiff_chunks.proofs.coded.read_one_origin.Goals as goal

pub returns-then-head-gt131086-clause-stops : goal.returns-then-head-gt131086-clause-stops
returns-then-head-gt131086-clause-stops g c xs told =
    let long = g.met.S.Source.size_is_length _ xs _ told c.requires.known.1 in
    let size = body_is_long xs (head_seen c.args.head) c.requires.known.0 long c.requires.known.2 in
    ap (λ b. KeptBad when b)
    (too_long_is_bad c.args.channels.channels (sound_bytes c.args.channels) c.args.frame_count (body_of xs (head_seen c.args.head))
    (omega (arith, c.if-head-gt131086.true)))

pub returns-in-Err-clause-stops : goal.returns-in-Err-clause-stops
returns-in-Err-clause-stops g c = c.in-Err.ensures.stops _

pub returns-in-Ok-Some-clause-origin : goal.returns-in-Ok-Some-clause-origin
returns-in-Ok-Some-clause-origin g c xs told =
    let kept = rw c.in-Ok-Some.field-0-is at c.in-Ok-Some.ensures.origin in
    kept ∙ ap origin_of (c.as_slice.ensures.value ∙ c.in-Ok.ensures.read xs told)

pub returns-in-Ok-Some-clause-accepted : goal.returns-in-Ok-Some-clause-accepted
returns-in-Ok-Some-clause-accepted g c xs told =
    let accepted = rw c.in-Ok-Some.field-0-is at c.in-Ok-Some.ensures.refused in
    sym (ap (is_bad_origin c.args.channels.channels (sound_bytes c.args.channels) c.args.frame_count) (c.as_slice.ensures.value ∙ c.in-Ok.ensures.read xs told))
    ∙ accepted

pub returns-in-Ok-None-clause-stops : goal.returns-in-Ok-None-clause-stops
returns-in-Ok-None-clause-stops g c xs told =
    let refused = rw c.in-Ok-None.field-0-is at c.in-Ok-None.ensures.refused in
    ap (λ b. KeptBad when b)
    (sym (ap (is_bad_origin c.args.channels.channels (sound_bytes c.args.channels) c.args.frame_count)
    (c.as_slice.ensures.value ∙ c.in-Ok.ensures.read xs told))
    ∙ refused)
