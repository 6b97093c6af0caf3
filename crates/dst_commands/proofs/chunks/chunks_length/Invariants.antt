-- The bytes of the chunks that the loop has passed.
use Rattle.std.proofs.Common.{◌≡◌, ℕ, ◌+◌, ◌*◌, ◌^◌, ◌≤◌, List, length}
use Rattle.dst_commands.specs.Passing.{form_of}
use Rattle.dst_commands.proofs.PassedOn.{passed_to}
use Rattle.dst_commands.proofs.chunks.chunks_length.Given as goal

abbrev pub invariant-loop-head : goal.invariant-loop-head
invariant-loop-head l = record {
  most : l.length ≤ l.head-index * (2 ^ 50 + 12);
  length_is : (file : List ℕ) → (form_of l.passed).end ≤ length file → l.length ≡ length (passed_to l.side file l.passed l.head-index);
}
