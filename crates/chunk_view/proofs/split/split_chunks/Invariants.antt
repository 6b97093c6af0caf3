-- The bytes from the place on have the same fault, if any, as all bytes.
use Rattle.std.proofs.Common.{length, ◌-◌, ◌≡◌, ◌≤◌}
use Rattle.chunk_view.proofs.Walking.{all_from}
use Rattle.chunk_view.proofs.split.split_chunks.Given as goal

-- nothing before the place is at fault
abbrev pub invariant-loop-place : goal.invariant-loop-place
invariant-loop-place l = record {
  within : l.place ≤ length l.bytes;
  same_fault : (all_from l.bytes 0).fault ≡ (all_from l.bytes l.place).fault;
}

abbrev pub decreases-loop-place : goal.decreases-loop-place
decreases-loop-place l = length l.bytes - l.place
