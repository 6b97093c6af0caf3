-- Frame by frame.
use Rattle.std.proofs.Common.{ap, sym, ◌∙◌, arith}
use Rattle.sound_maker.specs.Making.{after_frame}
use Rattle.sound_maker.proofs.Making.{maker_behind_a_frame, nothing_made}
use Rattle.dst_commands.proofs.Writing.{added, adds_nothing, adds_same, adds_then, cut_off, stops_same, stops_then}
use Rattle.dst_make.proofs.MadeSounds.{stops_in_frame, with_frame}
use Rattle.dst_make.proofs.make.write_sound.Goals as goal

pub loop-frame-init : goal.loop-frame-init
loop-frame-init g c = record {
  maker = c.new-maker.ensures;
  room = c.requires.sound;
  later = omega arith;
  written = adds_same _ _ _ _ _ _ (sym (nothing_made c.args.start c.args.channels)) (adds_nothing _ _);
}

pub loop-frame-preserved : goal.loop-frame-preserved
loop-frame-preserved g c =
    record {
      maker = c.next_frame.ensures.later ∙ ap after_frame c.loop-frame.invariant.maker
          ∙ maker_behind_a_frame c.args.start c.loop-frame.frame c.args.channels;
      room = c.next_frame.auto.out ∙ c.loop-frame.invariant.room;
      later = omega (arith, c.loop-frame.invariant.later, c.in-Ok.ensures.cause.later);
      written =
          adds_same _ _ _ _ _ _ (with_frame c.args.start c.loop-frame.frame c.args.channels c.loop-frame.invariant.maker c.next_frame.ensures.frame)
          (adds_then _ c.next_frame.new.out _ _ _ _ _ _ c.loop-frame.invariant.written
          (added c.append.result c.next_frame.new.out _ _ _ _ c.append.ensures.sure c.in-Ok.ensures.written));
    }

pub returns-in_default-clause-written : goal.returns-in_default-clause-written
returns-in_default-clause-written g c =
    stops_in_frame c.args.start c.loop-frame.frame c.args.frames c.args.channels _ _ _ c.loop-frame-test.true
    (stops_same (Unit {0}) _ _ _ _ _ (with_frame c.args.start c.loop-frame.frame c.args.channels c.loop-frame.invariant.maker c.next_frame.ensures.frame)
    (stops_then (Unit {0}) _ c.next_frame.new.out _ _ _ _ _ c.loop-frame.invariant.written
    (cut_off _ c.next_frame.new.out _ _ _ _ c.in_default.ensures.sure c.in_default.ensures.written)))
