-- The scratches so far are of the shape.
use Rattle.std.proofs.Common.{◌≡◌, All, length}
use Rattle.dst_commands.specs.Rooms.{shape_number}
use Rattle.dst_write.specs.Jobs.{shape_of_scratch}
use Rattle.dst_write.proofs.jobs.scratches_for.Given as goal

abbrev pub invariant-loop : goal.invariant-loop
invariant-loop l = record {
  long : length l.scratches.items ≡ l.counter;
  shapes : All (λ t. shape_of_scratch t ≡ shape_number l.channels) l.scratches.items;
}
