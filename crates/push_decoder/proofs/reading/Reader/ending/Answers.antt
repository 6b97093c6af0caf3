-- What is due ends as the stage behind it does; a stage that lacks bytes ends inside its chunk.
use Rattle.std.proofs.Common.{rules, ◌≡◌, ◌+◌, false, ◌∙◌, ap, sym, subst, refl, arith}
use Rattle.dsdiff_spec.specs.Streams.{Ending, stream}
use Rattle.push_decoder.specs.declared.stage.Stage.TheVariants.{Opened, FrameWhole}
use Rattle.push_decoder.specs.Stages.{still_to_come, is_due, stage_ending}
use Rattle.push_decoder.specs.Reading.{IsReader, HasRead}
use Rattle.push_decoder.specs.Told.{EndsAs}
use Rattle.push_decoder.proofs.Gathering.{reading}
use Rattle.push_decoder.proofs.Closing.{ending_is, ending_at}
use Rattle.push_decoder.proofs.reading.Reader.ending.Goals as goal

pub returns-in-Opened : goal.returns-in-Opened
returns-in-Opened c taken answered has =
    let i = c.self.inside in
    let sound = c.in-Opened.sound in
    let next = c.sound_at.result in
    let old : HasRead (reading i.stage i.taken i.part i.frame i.version i.prop) taken answered = rw (← c.self.view_is) at has in
    let here : HasRead (reading (Opened sound c.in-Opened.place) i.taken i.part i.frame i.version i.prop) taken answered = rw c.in-Opened.is at old in
    let still : IsReader (reading (Opened sound c.in-Opened.place) i.taken i.part i.frame i.version i.prop) = rw c.in-Opened.is at c.self.invariant in
    let whole : c.in-Opened.place ≡ i.taken = still.stands.whole refl in
    let ends : (stream taken).ending ≡ stage_ending next =
    ending_is taken answered (still_to_come i.version i.prop.bytes (Opened sound c.in-Opened.place)) here.goes_on
    ∙ ap (λ s. s.ending) (c.sound_at.ensures.goes_on taken i.version i.prop.bytes)
    ∙ ending_at next i.version i.prop.bytes taken c.sound_at.ensures.stands.lawful c.sound_at.ensures.undue
    (λ lacking. omega (arith, c.sound_at.ensures.stands.short lacking, here.count, whole)) in
    let P : Ending → Type 0 = λ e. EndsAs c.ending_of.result e in
    subst P (sym ends) c.ending_of.ensures

pub returns-in-FrameWhole : goal.returns-in-FrameWhole
returns-in-FrameWhole c taken answered has =
    let i = c.self.inside in
    let sound = c.in-FrameWhole.sound in
    let head = c.in-FrameWhole.head in
    let next = c.frame_past.result in
    let old : HasRead (reading i.stage i.taken i.part i.frame i.version i.prop) taken answered = rw (← c.self.view_is) at has in
    let here : HasRead (reading (FrameWhole sound head) i.taken i.part i.frame i.version i.prop) taken answered = rw c.in-FrameWhole.is at old in
    let still : IsReader (reading (FrameWhole sound head) i.taken i.part i.frame i.version i.prop) = rw c.in-FrameWhole.is at c.self.invariant in
    let whole : head.place + 12 + head.size ≡ i.taken = still.stands.whole refl in
    let ends : (stream taken).ending ≡ stage_ending next =
    ending_is taken answered (still_to_come i.version i.prop.bytes (FrameWhole sound head)) here.goes_on
    ∙ ap (λ s. s.ending) (c.frame_past.ensures.goes_on taken i.version i.prop.bytes (omega (arith, whole, here.count)))
    ∙ ending_at next i.version i.prop.bytes taken c.frame_past.ensures.stands.lawful c.frame_past.ensures.undue
    (λ lacking. omega (arith, c.frame_past.ensures.stands.short lacking, here.count, whole)) in
    let P : Ending → Type 0 = λ e. EndsAs c.ending_of-in-FrameWhole.result e in
    subst P (sym ends) c.ending_of-in-FrameWhole.ensures

pub returns-in_default : goal.returns-in_default
returns-in_default c taken answered has =
    let i = c.self.inside in
    let old : HasRead (reading i.stage i.taken i.part i.frame i.version i.prop) taken answered = rw (← c.self.view_is) at has in
    let undue : is_due i.stage ≡ false = search rules in
    let ends : (stream taken).ending ≡ stage_ending i.stage =
    ending_is taken answered (still_to_come i.version i.prop.bytes i.stage) old.goes_on
    ∙ ending_at i.stage i.version i.prop.bytes taken c.self.invariant.stands.lawful undue
    (λ lacking. omega (arith, c.self.invariant.stands.short lacking, old.count)) in
    let P : Ending → Type 0 = λ e. EndsAs c.ending_of-in_default.result e in
    subst P (sym ends) c.ending_of-in_default.ensures
