-- A frame that lies whole in the bytes is the body behind its head, and what follows is read on behind it.
use Rattle.std.proofs.Common.{◌≡◌, ◌+◌, ◌≤◌, ◌++◌, take, length, ◌∙◌, ap, sym, refl, arith, length-append, append_assoc}
use Rattle.std.proofs.lemmas.List.{length-take}
use Rattle.dsdiff_spec.specs.Streams.{stream}
use Rattle.dsdiff_chunks.specs.Seen.{head_seen}
use Rattle.push_decoder.specs.Events.{behind_answered}
use Rattle.push_decoder.specs.declared.stage.Stage.TheVariants.{FrameBody}
use Rattle.push_decoder.specs.Stages.{sound_chunk_from}
use Rattle.push_decoder.specs.Reading.{IsReader, HasRead}
use Rattle.push_decoder.proofs.Gathering.{reading}
use Rattle.push_decoder.proofs.Answering.{GoesFrom, frame_read, body_behind}
use Rattle.push_decoder.proofs.reading.Reader.pass_frame.Goals as goal

pub returns-clause-read : goal.returns-clause-read
returns-clause-read c taken answered has =
    let i = c.self.inside in
    let sound = c.in-FrameBody.sound in
    let head = c.in-FrameBody.head in
    let body = take head.size c.args.bytes.now in
    let old : HasRead (reading i.stage i.taken i.part i.frame i.version i.prop) taken answered = rw (← c.self.view_is) at has in
    let here : HasRead (reading (FrameBody sound head) i.taken i.part i.frame i.version i.prop) taken answered = rw c.in-FrameBody.is at old in
    let still : IsReader (reading (FrameBody sound head) i.taken i.part i.frame i.version i.prop) = rw c.in-FrameBody.is at c.self.invariant in
    let start : length taken ≡ head.place + 12 = omega (arith, here.count, still.stands.begun refl, c.if-self-head.false) in
    let there : head.size ≤ length c.args.bytes.now = omega (arith, c.if-head-bytes.false) in
    let long : length (taken ++ body) ≡ head.place + 12 + head.size =
    omega (arith, length-append taken body, length-take head.size c.args.bytes.now, there, start) in
    let from : GoesFrom (taken ++ body) answered sound (head_seen head) =
    λ more. ap stream (append_assoc taken body more) ∙ here.goes_on (body ++ more)
    ∙ ap (λ w. behind_answered answered (sound_chunk_from sound (head_seen head) w)) (sym (append_assoc taken body more)) in
    frame_read (i.taken + head.size) i.part i.frame i.prop i.version (taken ++ body) body answered sound (head_seen head) c.frame_past-self-inside.result
    here.at_stage here.front from (body_behind taken c.args.bytes.now head start there) (sym long) c.frame_past-self-inside.ensures.goes_on
    (omega (arith, here.count, start, long)) (still.empty refl) c.frame_past-self-inside.ensures.fresh c.frame_past-self-inside.ensures.no_frame
    c.frame_past-self-inside.ensures.tells c.frame_past-self-inside.ensures.answered
