-- The chunks that pass, of those that the loop has seen.
use Rattle.std.proofs.Common.{◌≡◌, ◌≤◌, length, take, filter}
use Rattle.dst_commands.specs.Passing.{form_of, goes}
use Rattle.dst_commands.proofs.chunks.chunks_count.Given as goal

abbrev pub invariant-loop-head : goal.invariant-loop-head
invariant-loop-head l = record {
  most : l.count ≤ l.head-index;
  count_is : l.count ≡ length (filter (goes l.side (form_of l.passed)) (take l.head-index (form_of l.passed).chunks));
}
