-- The jobs so far are of the shape.
use Rattle.std.proofs.Common.{◌≡◌, ◌<◌, All, length}
use Rattle.dst_spec.specs.Sample.{IsShape}
use Rattle.dst_commands.specs.Rooms.{shape_number}
use Rattle.dst_write.specs.Jobs.{shape_of_job}
use Rattle.dst_write.proofs.jobs.jobs_for.Given as goal

abbrev pub invariant-loop : goal.invariant-loop
invariant-loop l = record {
  long : length l.jobs.items ≡ l.counter;
  lawful : 0 < l.counter → IsShape l.channels;
  shapes : All (λ j. shape_of_job j ≡ shape_number l.channels) l.jobs.items;
}
