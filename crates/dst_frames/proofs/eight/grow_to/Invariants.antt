-- There are as many tables as the loop has counted, and those that stood in front are what they were.
use Rattle.std.proofs.Common.{◌≡◌, length, vec_capacity}
use Rattle.dst_frames.specs.Running.{IsGrown}
use Rattle.dst_frames.proofs.eight.grow_to.Given as goal

abbrev pub invariant-loop : goal.invariant-loop
invariant-loop l = record {
  grown : IsGrown l.initial.tables.items l.tables.items 0;
  long : length l.tables.items ≡ l.counter;
  capacity : vec_capacity l.tables ≡ vec_capacity l.initial.tables;
}
