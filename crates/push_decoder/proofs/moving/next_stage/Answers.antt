-- The body of `FVER` or `PROP`, or `FRTE`, is the part that is whole, and the stream goes on behind it.
use Rattle.std.proofs.Common.{◌≡◌, ◌<◌, ap, arith}
use Rattle.push_decoder.proofs.Moves.{version_goes_on, prop_goes_on, count_goes_on}
use Rattle.push_decoder.proofs.moving.next_stage.Goals as goal

pub returns-in-FormBody-clause-goes_on : goal.returns-in-FormBody-clause-goes_on
returns-in-FormBody-clause-goes_on c w version prop tells has =
    version_goes_on w version prop c.args.part.now c.in-FormBody.form c.in-FormBody.head c.args.stage c.version_body.result c.in-FormBody.is
    (omega arith) has c.version_body.ensures.goes_on

pub returns-in-FormBody-2-clause-goes_on : goal.returns-in-FormBody-2-clause-goes_on
returns-in-FormBody-2-clause-goes_on c w version prop tells has =
    let same : c.in-FormBody.form ≡ c.in-FormBody-2.form = cc in
    let some : 0 < c.in-FormBody-2.form.chunks = omega (arith, ap (λ f. f.chunks) same, c.if-form-eq0.false) in
    prop_goes_on w version prop c.args.part.now c.in-FormBody-2.form c.in-FormBody-2.head c.args.stage c.prop_body.result c.in-FormBody-2.is
    some has c.prop_body.ensures.goes_on

pub returns-in-FrameCount-clause-goes_on : goal.returns-in-FrameCount-clause-goes_on
returns-in-FrameCount-clause-goes_on c w version prop tells has =
    count_goes_on w version prop c.args.part.now c.in-FrameCount.form c.in-FrameCount.head c.args.stage c.frame_count.result c.in-FrameCount.is
    has tells c.frame_count.ensures.goes_on
