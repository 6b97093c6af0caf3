-- The bytes in front are turned, and those behind are as they were.
use Rattle.std.proofs.Common.{◌≡◌, ℕ, ◌<◌, ◌≤◌, get_or}
use Rattle.dsf_files.specs.Rows.{turned}
use Rattle.dsf_files.proofs.row.turn_bytes.Given as goal

abbrev pub invariant-loop-byte : goal.invariant-loop-byte
invariant-loop-byte l = record {
  front : (k : ℕ) → k < l.byte-index → get_or l.bytes k 0 ≡ turned (get_or l.initial.bytes k 0);
  behind : (k : ℕ) → l.byte-index ≤ k → get_or l.bytes k 0 ≡ get_or l.initial.bytes k 0;
}
