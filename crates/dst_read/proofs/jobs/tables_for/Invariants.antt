-- The tables so far are of the shape.
use Rattle.std.proofs.Common.{◌≡◌, All, length}
use Rattle.dst_commands.specs.Rooms.{shape_number}
use Rattle.dst_read.specs.Jobs.{shape_of_tables}
use Rattle.dst_read.proofs.jobs.tables_for.Given as goal

abbrev pub invariant-loop : goal.invariant-loop
invariant-loop l = record {
  long : length l.tables.items ≡ l.counter;
  shapes : All (λ t. shape_of_tables t ≡ shape_number l.channels) l.tables.items;
}
