-- What the decoder answers is due of the bytes taken, and a frame that it lends has room and is decoded.
use Rattle.std.proofs.Common.{◌++◌, ◌+◌, ◌*◌, ◌≤◌, take, length, Some, refl, sym, ap, subst, ◌∙◌, arith}
use Rattle.std.proofs.lemmas.List.{with_items_is}
use Rattle.dst_spec.specs.Sample.{IsShape, sound_bytes}
use Rattle.push_decoder.specs.Events.{front_came, frame_came, answered_with}
use Rattle.push_decoder.specs.Reading.{HasRead}
use Rattle.dst_pipes.specs.States.{Works}
use Rattle.dst_pipes.proofs.Events.{front_is_first, frame_is_behind, end_is_behind}
use Rattle.dst_pipes.proofs.Frames.{is_decoded, decoded_is, frame_room}
use Rattle.dst_pipes.proofs.steps.take_step.Goals as goal

pub returns-in-Err-clause-took : goal.returns-in-Err-clause-took
returns-in-Err-clause-took c taken answered has works =
    let said = c.in-Err.ensures.answer taken answered has in
    (said.0, said.2)

pub returns-in-More-clause-took : goal.returns-in-More-clause-took
returns-in-More-clause-took c taken answered has works =
    let said = rw c.in-More.is at (c.in-Ok.ensures.answer taken answered has) in
    let read = rw c.in-Ok.is at (c.take.follows.holds-at-none taken answered has) in (
      said.1.1,
      said.1.0,
      subst (λ e. HasRead c.take.follows.lender-at-none.reader (taken ++ take c.in-Ok.taken.0 c.args.piece.now)
          (answered_with e answered)) said.1.0 read.read,
      works,
    )

pub returns-in-Head-clause-took : goal.returns-in-Head-clause-took
returns-in-Head-clause-took c taken answered has works =
    let p = taken ++ take c.in-Ok.taken.0 c.args.piece.now in
    let said = rw c.in-Head.is at (c.in-Ok.ensures.answer taken answered has) in
    let read = rw c.in-Ok.is at (c.take.follows.holds-at-none taken answered has) in
    let first = front_is_first p answered said.1.0 said.1.1 in
    let after = subst (λ e. HasRead c.take.follows.lender-at-none.reader p (answered_with e answered)) said.1.1 read.read in
    record {
      front = said.1.0;
      nothing = first;
      shape = said.1.2;
      frame_count = said.1.3;
      stands = subst (λ a. HasRead c.take.follows.lender-at-none.reader p (answered_with (Some (front_came said.1.0)) a)) first after;
      none = subst (λ a. Works a c.args.work.now) first works;
    }

pub returns-in-End-clause-took : goal.returns-in-End-clause-took
returns-in-End-clause-took c taken answered has works =
    let p = taken ++ take c.in-Ok.taken.0 c.args.piece.now in
    let said = rw c.in-End.is at (c.in-Ok.ensures.answer taken answered has) in
    let behind = end_is_behind p answered said.1 in
    record { front = behind.front; frames = behind.frames; behind = behind.same; due = said.1; works = works }

-- a frame that is lent: it stands behind others, and fits
pub unreachable-requires : goal.unreachable-requires
unreachable-requires c =
    let r = c.requires.ready in
    let said = rw c.in-Frame.is at (c.in-Ok.ensures.answer r.taken r.answered r.stands) in
    let behind = frame_is_behind (r.taken ++ take c.in-Ok.taken.0 c.args.piece.now) r.answered c.in-Frame.bytes.now said.1.0 in
    let works = subst (λ a. Works a c.args.work.now) behind.same r.works in
    c.in_default.not-Some works.0 works.1

pub decode_frame-answer-requires-clause-frame : goal.decode_frame-answer-requires-clause-frame
decode_frame-answer-requires-clause-frame c =
    let r = c.requires.ready in
    let said = rw c.in-Frame.is at (c.in-Ok.ensures.answer r.taken r.answered r.stands) in
    let room = frame_room c.args.decoder.now c.args.work.now c.in-Some.work r.taken (take c.in-Ok.taken.0 c.args.piece.now) r.answered
    c.in-Frame.bytes.now r.stands r.works said.1.0 c.in-Some.is in
    let short = room.fits.short in
    subst (λ f. length c.in-Frame.bytes.now ≤ 2 * (sound_bytes f + 1)) (sym room.works.channels) short

pub returns-in-Some-clause-took : goal.returns-in-Some-clause-took
returns-in-Some-clause-took c taken answered has works =
    let said = rw c.in-Frame.is at (c.in-Ok.ensures.answer taken answered has) in
    let read = rw c.in-Ok.is at (c.take.follows.holds-at-none taken answered has) in
    let p = taken ++ take c.in-Ok.taken.0 c.args.piece.now in
    let frame = c.in-Frame.bytes.now in
    let room = frame_room c.args.decoder.now c.args.work.now c.in-Some.work taken (take c.in-Ok.taken.0 c.args.piece.now) answered frame has works
    said.1.0 c.in-Some.is in
    let after = subst (λ e. HasRead c.take.follows.lender-at-none.reader p (answered_with e answered)) said.1.0 read.read in
    let channels = room.works.channels in
    let long = c.decode_frame-answer.auto.out ∙ ap length c.deref_mut.ensures.value in
    let same = with_items_is c.in-Some.work.sound c.decode_frame-answer.new.out (omega (arith, c.decode_frame-answer.auto.out, c.deref_mut.ensures.len)) in
    record {
      front = room.front;
      frames = room.frames;
      frame = frame;
      behind = room.behind;
      stands = subst (λ a. HasRead c.take.follows.lender-at-none.reader p (answered_with (Some (frame_came frame)) a)) room.behind after;
      work_is = _;
      some = refl;
      works = record {
        channels = channels;
        scratch = c.decode_frame-answer.ensures.channels ∙ room.works.scratch;
        sound = ap length same ∙ long ∙ room.works.sound;
        frame_count = room.works.frame_count;
        decoded = room.works.decoded;
      };
      room = room.fits.room;
      few = room.few;
      decoded = is_decoded c.decode_frame-answer.result c.in-Some.work.channels room.front frame c.decode_frame-answer.new.out _ channels same
          (decoded_is c.decode_frame-answer.result c.in-Some.work.channels frame c.decode_frame-answer.new.out
          (subst IsShape (sym channels) room.lawful) c.decode_frame-answer.ensures.sound c.decode_frame-answer.ensures.whole
          c.decode_frame-answer.ensures.fault);
    }
