-- What is due of the bytes that are taken, at each stage.
use Rattle.std.proofs.Common.{rules, [], ◌<◌, ◌≡◌, ◌∙◌, ap, sym, refl, true, arith}
use Rattle.dsdiff_chunks.specs.Seen.{head_seen}
use Rattle.push_decoder.specs.declared.stage.Stage.TheVariants.{Opened, FrameWhole, Ended, Refused}
use Rattle.push_decoder.specs.Stages.{lacks, part_end}
use Rattle.push_decoder.specs.Reading.{IsReader, HasRead}
use Rattle.std.proofs.lemmas.List.{append-nil}
use Rattle.push_decoder.specs.Events.{frames_in, due}
use Rattle.push_decoder.proofs.Short.{nothing_due}
use Rattle.push_decoder.proofs.Gathering.{reading}
use Rattle.push_decoder.proofs.Answering.{front_with, opened_event, opened_read, frame_is_due, frame_read, gathered_body, ended_event, refused_event}
use Rattle.push_decoder.proofs.reading.Reader.answer.Goals as goal

pub returns-in-Opened-clause-event : goal.returns-in-Opened-clause-event
returns-in-Opened-clause-event c taken answered has piece count =
    let i = c.self.inside in
    let here : HasRead (reading (Opened c.in-Opened.sound c.in-Opened.place) i.taken i.part i.frame i.version i.prop) taken answered =
    rw (← c.self.view_is, c.in-Opened.is) at has in (
      front_with c.in-Opened.sound i.version i.prop.bytes,
      opened_event c.in-Opened.sound c.in-Opened.place i.taken i.part i.frame i.prop i.version taken answered here,
      here.tells,
      refl,
    )

pub returns-in-Opened-clause-read : goal.returns-in-Opened-clause-read
returns-in-Opened-clause-read c taken answered has =
    let i = c.self.inside in
    let here : HasRead (reading (Opened c.in-Opened.sound c.in-Opened.place) i.taken i.part i.frame i.version i.prop) taken answered =
    rw (← c.self.view_is, c.in-Opened.is) at has in
    let still : IsReader (reading (Opened c.in-Opened.sound c.in-Opened.place) i.taken i.part i.frame i.version i.prop) =
    rw c.in-Opened.is at c.self.invariant in
    opened_read c.in-Opened.sound c.in-Opened.place i.taken i.part i.frame i.prop i.version taken answered c.sound_at-self-inside.result here
    (still.empty refl) (still.stands.whole refl) c.sound_at-self-inside.ensures.fresh c.sound_at-self-inside.ensures.no_frame
    c.sound_at-self-inside.ensures.tells c.sound_at-self-inside.ensures.answered c.sound_at-self-inside.ensures.goes_on

pub returns-in-FrameWhole-clause-event : goal.returns-in-FrameWhole-clause-event
returns-in-FrameWhole-clause-event c taken answered has piece count =
    let i = c.self.inside in
    let h = head_seen c.in-FrameWhole.head in
    let here : HasRead (reading (FrameWhole c.in-FrameWhole.sound c.in-FrameWhole.head) i.taken i.part i.frame i.version i.prop) taken answered =
    rw (← c.self.view_is, c.in-FrameWhole.is) at has in
    let still : IsReader (reading (FrameWhole c.in-FrameWhole.sound c.in-FrameWhole.head) i.taken i.part i.frame i.version i.prop) =
    rw c.in-FrameWhole.is at c.self.invariant in (
      frame_is_due taken i.frame.bytes i.version i.prop.bytes answered c.in-FrameWhole.sound h c.frame_past-self-inside.result here.at_stage here.goes_on
          (gathered_body c.in-FrameWhole.sound c.in-FrameWhole.head i.taken i.part i.frame i.prop i.version taken answered here (still.stands.whole refl))
          (still.stands.whole refl ∙ here.count) c.frame_past-self-inside.ensures.goes_on,
      ap (λ s. s.found) c.in-FrameWhole.sound-is ∙ sym (ap frames_in here.at_stage.same ∙ here.at_stage.count),
    )

pub returns-in-FrameWhole-clause-read : goal.returns-in-FrameWhole-clause-read
returns-in-FrameWhole-clause-read c taken answered has =
    let i = c.self.inside in
    let h = head_seen c.in-FrameWhole.head in
    let here : HasRead (reading (FrameWhole c.in-FrameWhole.sound c.in-FrameWhole.head) i.taken i.part i.frame i.version i.prop) taken answered =
    rw (← c.self.view_is, c.in-FrameWhole.is) at has in
    let still : IsReader (reading (FrameWhole c.in-FrameWhole.sound c.in-FrameWhole.head) i.taken i.part i.frame i.version i.prop) =
    rw c.in-FrameWhole.is at c.self.invariant in
    frame_read i.taken i.part i.frame i.prop i.version taken i.frame.bytes answered c.in-FrameWhole.sound h c.frame_past-self-inside.result here.at_stage
    here.front here.goes_on
    (gathered_body c.in-FrameWhole.sound c.in-FrameWhole.head i.taken i.part i.frame i.prop i.version taken answered here (still.stands.whole refl))
    (still.stands.whole refl ∙ here.count) c.frame_past-self-inside.ensures.goes_on here.count (still.empty refl)
    c.frame_past-self-inside.ensures.fresh c.frame_past-self-inside.ensures.no_frame c.frame_past-self-inside.ensures.tells
    c.frame_past-self-inside.ensures.answered

pub returns-in-Ended-clause-event : goal.returns-in-Ended-clause-event
returns-in-Ended-clause-event c taken answered has piece count =
    let i = c.self.inside in
    let here : HasRead (reading Ended i.taken i.part i.frame i.version i.prop) taken answered = rw (← c.self.view_is, c.in-Ended.is) at has in
    ended_event i.taken i.part i.frame i.prop i.version taken answered here

pub returns-in-Ended-clause-read : goal.returns-in-Ended-clause-read
returns-in-Ended-clause-read c taken answered has = rw (returns-in-Ended-clause-event c taken answered has [] 0) has

pub returns-in-Refused-clause-event : goal.returns-in-Refused-clause-event
returns-in-Refused-clause-event c taken answered has piece count =
    let i = c.self.inside in
    let here : HasRead (reading (Refused c.in-Refused.fault) i.taken i.part i.frame i.version i.prop) taken answered =
    rw (← c.self.view_is, c.in-Refused.is) at has in
    refused_event c.in-Refused.fault i.taken i.part i.frame i.prop i.version taken answered here

pub returns-in-Refused-clause-read : goal.returns-in-Refused-clause-read
returns-in-Refused-clause-read c taken answered has = rw (returns-in-Refused-clause-event c taken answered has [] 0) has

pub returns-in_default-clause-quiet : goal.returns-in_default-clause-quiet
returns-in_default-clause-quiet c taken answered has =
    let i = c.self.inside in
    let old : HasRead (reading i.stage i.taken i.part i.frame i.version i.prop) taken answered = rw (← c.self.view_is) at has in
    let lacking : lacks i.stage ≡ true = search rules in
    let short : i.taken < part_end i.stage = c.self.invariant.stands.short lacking in
    ap (λ w. due w answered) (sym (append-nil taken))
    ∙ nothing_due (reading i.stage i.taken i.part i.frame i.version i.prop) taken [] answered old c.self.invariant.stands.lawful lacking (omega (arith, short))
