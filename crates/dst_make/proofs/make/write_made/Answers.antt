-- What stands in front, the sound, and the end.
use Rattle.dsdiff_spec.specs.Made.{made_sound}
use Rattle.dst_commands.proofs.Writing.{adds_same, adds_then, stops_first, stops_same, stops_then, then_settled}
use Rattle.dst_make.specs.Making.{made_file, made_front}
use Rattle.dst_make.proofs.MadeSounds.{file_is}
use Rattle.dst_make.proofs.make.write_made.Goals as goal

pub returns-in_default-clause-written : goal.returns-in_default-clause-written
returns-in_default-clause-written g c =
    let f = c.args.channels in
    stops_same (Unit {0}) _ _ _ _ _ (file_is c.args.start c.args.frames f c.write_front.ensures.shape)
    (stops_first (Unit {0}) (made_front c.args.frames f) (made_sound c.args.start c.args.frames f) _ _ _ c.in_default.ensures.written)

pub returns-in_default-write_sound-clause-written : goal.returns-in_default-write_sound-clause-written
returns-in_default-write_sound-clause-written g c =
    let f = c.args.channels in
    stops_same (Unit {0}) _ _ _ _ _ (file_is c.args.start c.args.frames f c.write_front.ensures.shape)
    (stops_then (Unit {0}) (made_front c.args.frames f) (made_sound c.args.start c.args.frames f) _ _ _ _ _ c.in-Ok.ensures.written
    c.in_default-write_sound.ensures.written)

pub returns-clause-written : goal.returns-clause-written
returns-clause-written g c =
    let f = c.args.channels in
    then_settled c.finish.result (made_file c.args.start c.args.frames f) _ _ _ _ _
    (adds_same _ _ _ _ _ _ (file_is c.args.start c.args.frames f c.write_front.ensures.shape)
    (adds_then (made_front c.args.frames f) (made_sound c.args.start c.args.frames f) _ _ _ _ _ _ c.in-Ok.ensures.written c.in-Ok-write_sound.ensures.written))
    c.finish.ensures.written c.finish.ensures.sure
