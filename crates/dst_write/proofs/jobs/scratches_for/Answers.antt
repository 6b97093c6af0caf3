-- Scratches more are of the shape.
use Rattle.std.proofs.Common.{◌≡◌, arith}
use Rattle.std.proofs.lemmas.List.Elements.{All-push}
use Rattle.dst_commands.specs.Rooms.{shape_number}
use Rattle.dst_write.specs.Jobs.{shape_of_scratch}
use Rattle.dst_write.proofs.jobs.scratches_for.Goals as goal

pub loop-preserved : goal.loop-preserved
loop-preserved c = record {
  long = omega (arith, c.in_ok-push.ensures.len, c.loop.invariant.long);
  shapes = rw c.in_ok-push.ensures.items (All-push (λ t. shape_of_scratch t ≡ shape_number c.args.channels) c.loop.scratches.items c.in_ok-new.field-0
      c.loop.invariant.shapes c.in_ok-new.ensures.shape);
}
