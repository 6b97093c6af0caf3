-- What a step leaves is by its event: more of the piece, a front that begins, a frame whose sound is written, or the end.
use Rattle.std.proofs.Common.{◌≡◌, [], ◌∷◌, ◌++◌, take, Some, None, refl, ap, subst, arith}
use Rattle.push_decoder.specs.Events.{begun, has_ended, due}
use Rattle.push_decoder.proofs.Pieces.{events_law}
use Rattle.dst_pipes.specs.States.{Works, Wrote, BeginsSo, events_left}
use Rattle.dst_pipes.proofs.Stepping.{begins_more, of_ready, is_front, begun_goes_on, begun_stops, begun_no_read, sound_works, sound_goes_on, sound_left}
use Rattle.dst_pipes.proofs.Stepping.{sound_stops, sound_no_device, both_none, sound_some}
use Rattle.dst_pipes.proofs.NoFront.{no_event}
use Rattle.dst_pipes.proofs.steps.decode_step.Goals as goal

pub returns-in-Err-clause-ends : goal.returns-in-Err-clause-ends
returns-in-Err-clause-ends g c taken answered has works old room wrote =
    let said = c.in-Err.ensures.took taken answered has works in
    record {
      count = said.0;
      answered = answered;
      begins = begins_more taken (take said.0 c.args.piece.now) answered (events_law c.args.decoder.now taken answered has);
      due = said.1;
      wrote = wrote;
    }

pub begin-requires : goal.begin-requires
begin-requires g c =
    let t = rw c.in-Head.is at (of_ready c.requires.ready c.in-Ok.ensures.took) in
    record { properties = (t.front, is_front t) }

pub write_sound-requires : goal.write_sound-requires
write_sound-requires g c =
    let t = rw c.in-Frame.is at (of_ready c.requires.ready c.in-Ok.ensures.took) in
    let room = t.room in
    let few = t.few in
    let count = t.works.decoded in
    record { some = (t.work_is, t.some, omega (arith, room, few, count)) }

pub returns-in-More-clause-ends : goal.returns-in-More-clause-ends
returns-in-More-clause-ends g c taken answered has works old room wrote =
    let t = rw c.in-More.is at (c.in-Ok.ensures.took taken answered has works) in
    (t.0, record { answered = answered; stands = t.2; works = t.3; wrote = wrote; nothing_due = t.1 })

pub returns-in-End-clause-ends : goal.returns-in-End-clause-ends
returns-in-End-clause-ends g c taken answered has works old room wrote =
    let t = rw c.in-End.is at (c.in-Ok.ensures.took taken answered has works) in
    let begins = begins_more taken (take c.in-Ok.taken.0 c.args.piece.now) answered (events_law c.args.decoder.now taken answered has) in
    record {
      front = t.front;
      frames = t.frames;
      begins = subst (BeginsSo (taken ++ take c.in-Ok.taken.0 c.args.piece.now)) t.behind begins;
      due = subst (λ a. due (taken ++ take c.in-Ok.taken.0 c.args.piece.now) a ≡ Some has_ended) t.behind t.due;
      works = subst (λ a. Works a c.take_step.new.work) t.behind t.works;
      wrote = subst (λ a. Wrote a old (g.K.Sink.written c.args.sink.now) room (g.K.Sink.room c.args.sink.now)) t.behind wrote;
    }

pub returns-in-Ok-begin-clause-fewer : goal.returns-in-Ok-begin-clause-fewer
returns-in-Ok-begin-clause-fewer g c n e =
    let t = rw c.in-Head.is at (of_ready c.requires.ready c.in-Ok.ensures.took) in
    let none : c.args.work.now ≡ None = subst (λ a. Works a c.args.work.now) t.nothing c.requires.ready.works in
    let most : events_left c.args.work.now ≡ 1000002 = ap events_left none in
    omega (arith, most, c.in-Ok-begin.ensures.fewer)

pub returns-in-Ok-begin-clause-ends : goal.returns-in-Ok-begin-clause-ends
returns-in-Ok-begin-clause-ends g c taken answered has works old room wrote =
    let t = rw c.in-Head.is at (c.in-Ok.ensures.took taken answered has works) in
    let begun = c.in-Ok-begin.ensures.begun t.front (is_front t) in
    begun_goes_on c.in-Ok-begin.begun t.front _ c.take_step.new.decoder old _ _ room _ _ t.stands begun.0
    (subst (λ a. Wrote a old (g.K.Sink.written c.args.sink.now) room (g.K.Sink.room c.args.sink.now)) t.nothing wrote) begun.1

pub returns-in-Err-begin-clause-no_read : goal.returns-in-Err-begin-clause-no_read
returns-in-Err-begin-clause-no_read g c e =
    let t = rw c.in-Head.is at (of_ready c.requires.ready c.in-Ok.ensures.took) in
    begun_no_read c.in-Err-begin.fault t.front _ _ _ _ (c.in-Err-begin.ensures.begun t.front (is_front t)) cc

pub returns-in-Err-begin-clause-memory : goal.returns-in-Err-begin-clause-memory
returns-in-Err-begin-clause-memory g c refused e =
    let t = rw c.in-Head.is at (of_ready c.requires.ready c.in-Ok.ensures.took) in
    (subst (λ a. Works a c.args.work.now) t.nothing c.requires.ready.works, c.in-Err-begin.ensures.memory refused cc)

pub returns-in-Err-begin-clause-ends : goal.returns-in-Err-begin-clause-ends
returns-in-Err-begin-clause-ends g c taken answered has works old room wrote =
    let t = rw c.in-Head.is at (c.in-Ok.ensures.took taken answered has works) in
    begun_stops c.in-Err-begin.fault t.front taken c.args.piece.now c.in-Ok.taken.0 c.take_step.new.decoder old _ _ room _ _ t.stands
    (subst (λ a. Wrote a old (g.K.Sink.written c.args.sink.now) room (g.K.Sink.room c.args.sink.now)) t.nothing wrote)
    (c.in-Err-begin.ensures.begun t.front (is_front t))

pub returns-in-Ok-write_sound-clause-fewer : goal.returns-in-Ok-write_sound-clause-fewer
returns-in-Ok-write_sound-clause-fewer g c n e =
    let r = c.requires.ready in
    let t = rw c.in-Frame.is at (of_ready r c.in-Ok.ensures.took) in
    sound_left c.in-Frame.answer _ r.answered _ c.args.work.now _ _ t _ _ _ _ r.works (c.in-Ok-write_sound.ensures.sound t.work_is t.some)

pub returns-in-Ok-write_sound-clause-ends : goal.returns-in-Ok-write_sound-clause-ends
returns-in-Ok-write_sound-clause-ends g c taken answered has works old room wrote =
    let t = rw c.in-Frame.is at (c.in-Ok.ensures.took taken answered has works) in
    sound_goes_on c.in-Frame.answer _ answered c.take_step.new.decoder _ _ t old _ _ room _ _ wrote (c.in-Ok-write_sound.ensures.sound t.work_is t.some)

pub returns-in-Err-write_sound-clause-no_read : goal.returns-in-Err-write_sound-clause-no_read
returns-in-Err-write_sound-clause-no_read g c e =
    let t = rw c.in-Frame.is at (of_ready c.requires.ready c.in-Ok.ensures.took) in
    (sound_no_device c.in-Frame.answer c.in-Err-write_sound.fault t.work_is _ _ _ _ _ (c.in-Err-write_sound.ensures.sound t.work_is t.some)).0 cc

pub returns-in-Err-write_sound-clause-memory : goal.returns-in-Err-write_sound-clause-memory
returns-in-Err-write_sound-clause-memory g c refused e =
    let t = rw c.in-Frame.is at (of_ready c.requires.ready c.in-Ok.ensures.took) in
    absurd ((sound_no_device c.in-Frame.answer c.in-Err-write_sound.fault t.work_is _ _ _ _ _ (c.in-Err-write_sound.ensures.sound t.work_is t.some)).1
    refused cc)

pub returns-in-Err-write_sound-clause-ends : goal.returns-in-Err-write_sound-clause-ends
returns-in-Err-write_sound-clause-ends g c taken answered has works old room wrote =
    let t = rw c.in-Frame.is at (c.in-Ok.ensures.took taken answered has works) in
    sound_stops c.in-Frame.answer c.in-Err-write_sound.fault taken c.args.piece.now c.in-Ok.taken.0 answered c.take_step.new.decoder _ _ t old _ _
    room _ _ wrote
    (c.in-Err-write_sound.ensures.sound t.work_is t.some)

pub returns-in-More-clause-untouched : goal.returns-in-More-clause-untouched
returns-in-More-clause-untouched g c e =
    let r = c.requires.ready in
    let t = rw c.in-More.is at (of_ready r c.in-Ok.ensures.took) in
    (refl, both_none r.answered _ _ t.3 r.works e)

pub returns-in-End-clause-untouched : goal.returns-in-End-clause-untouched
returns-in-End-clause-untouched g c e =
    let r = c.requires.ready in
    let t = rw c.in-End.is at (of_ready r c.in-Ok.ensures.took) in
    (refl, both_none r.answered _ _ t.works r.works e)

pub returns-in-Ok-write_sound-clause-untouched : goal.returns-in-Ok-write_sound-clause-untouched
returns-in-Ok-write_sound-clause-untouched g c e =
    let t = rw c.in-Frame.is at (of_ready c.requires.ready c.in-Ok.ensures.took) in
    absurd (sound_some c.in-Frame.answer t.work_is _ _ _ _ _ (c.in-Ok-write_sound.ensures.sound t.work_is t.some) e)

pub returns-in-Ok-begin-clause-ready : goal.returns-in-Ok-begin-clause-ready
returns-in-Ok-begin-clause-ready g c n e =
    let t = rw c.in-Head.is at (of_ready c.requires.ready c.in-Ok.ensures.took) in
    let begun_is = c.in-Ok-begin.ensures.begun t.front (is_front t) in
    record {
      taken = c.requires.ready.taken ++ take c.in-Ok.taken.0 c.args.piece.now;
      answered = begun t.front [];
      stands = t.stands;
      works =
          (c.in-Ok-begin.begun, refl, begun_is.0);
    }

pub returns-in-Ok-write_sound-clause-ready : goal.returns-in-Ok-write_sound-clause-ready
returns-in-Ok-write_sound-clause-ready g c n e =
    let r = c.requires.ready in
    let t = rw c.in-Frame.is at (of_ready r c.in-Ok.ensures.took) in
    record {
      taken = r.taken ++ take c.in-Ok.taken.0 c.args.piece.now;
      answered = begun t.front (t.frames ++ t.frame ∷ []);
      stands = t.stands;
      works = sound_works c.in-Frame.answer _ r.answered _ _ _ t _ _ _ _ (c.in-Ok-write_sound.ensures.sound t.work_is t.some);
    }

pub returns-in-Ok-begin-clause-no_front : goal.returns-in-Ok-begin-clause-no_front
returns-in-Ok-begin-clause-no_front g c taken more answered has works none =
    let t = rw c.in-Head.is at (c.in-Ok.ensures.took taken answered has works) in
    absurd (no_event c.take_step.new.decoder taken c.args.piece.now more c.in-Ok.taken.0 t.front [] t.stands none)

pub returns-in-Err-begin-clause-no_front : goal.returns-in-Err-begin-clause-no_front
returns-in-Err-begin-clause-no_front g c taken more answered has works none =
    let t = rw c.in-Head.is at (c.in-Ok.ensures.took taken answered has works) in
    absurd (no_event c.take_step.new.decoder taken c.args.piece.now more c.in-Ok.taken.0 t.front [] t.stands none)

pub returns-in-Ok-write_sound-clause-no_front : goal.returns-in-Ok-write_sound-clause-no_front
returns-in-Ok-write_sound-clause-no_front g c taken more answered has works none =
    let t = rw c.in-Frame.is at (c.in-Ok.ensures.took taken answered has works) in
    absurd (no_event c.take_step.new.decoder taken c.args.piece.now more c.in-Ok.taken.0 t.front (t.frames ++ t.frame ∷ []) t.stands none)

pub returns-in-Err-write_sound-clause-no_front : goal.returns-in-Err-write_sound-clause-no_front
returns-in-Err-write_sound-clause-no_front g c taken more answered has works none =
    let t = rw c.in-Frame.is at (c.in-Ok.ensures.took taken answered has works) in
    absurd (no_event c.take_step.new.decoder taken c.args.piece.now more c.in-Ok.taken.0 t.front (t.frames ++ t.frame ∷ []) t.stands none)
