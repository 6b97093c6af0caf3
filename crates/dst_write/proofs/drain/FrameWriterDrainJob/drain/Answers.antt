-- The frame is written whole.
use Rattle.std.proofs.Common.{Ok, length, take, refl, ap, subst, ◌∙◌}
use Rattle.std.proofs.Math.ListN.{length-set}
use Rattle.dsdiff_spec.specs.Written.{dstf}
use Rattle.dst_commands.specs.Writing.{Adds}
use Rattle.dst_commands.proofs.Writing.{added}
use Rattle.dst_write.proofs.drain.FrameWriterDrainJob.drain.Goals as goal

pub returns-clause-took : goal.returns-clause-took
returns-clause-took g c =
    let size = c.args.job.now.size in
    let old = c.args.self.now.sink.now in
    let new = c.write_frame.new.sink in
    record {
      same = record {
        lent = refl;
        sizes_lent = refl;
        long = ap length c.note.ensures ∙ simp length-set;
        grows = c.in-Ok.ensures.grows;
        later =
            c.in-Ok.ensures.cause.later;
      };
      adds = subst (λ w. Adds (dstf w) (g.K.Sink.written old) (g.K.Sink.written new) (g.K.Sink.room old) (g.K.Sink.room new))
          (ap (take size) c.deref.ensures.value)
          (added (Ok c.in-Ok.field-0) (dstf (take size c.deref.result.now)) (g.K.Sink.written old) (g.K.Sink.written new) (g.K.Sink.room old)
          (g.K.Sink.room new) c.in-Ok.ensures.sure c.in-Ok.ensures.written);
      noted = c.note.ensures;
    }
