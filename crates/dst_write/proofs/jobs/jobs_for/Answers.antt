-- One job more is of the shape.
use Rattle.std.proofs.Common.{◌≡◌, arith}
use Rattle.std.proofs.lemmas.List.Elements.{All-push}
use Rattle.dst_commands.specs.Rooms.{shape_number}
use Rattle.dst_write.specs.Jobs.{shape_of_job}
use Rattle.dst_write.proofs.jobs.jobs_for.Goals as goal

pub loop-preserved : goal.loop-preserved
loop-preserved c = record {
  long = omega (arith, c.in_ok-push.ensures.len, c.loop.invariant.long);
  lawful = λ some. c.in_ok-new.ensures.lawful;
  shapes = rw c.in_ok-push.ensures.items (All-push (λ j. shape_of_job j ≡ shape_number c.args.channels) c.loop.jobs.items c.in_ok-new.field-0
      c.loop.invariant.shapes c.in_ok-new.ensures.shape);
}
