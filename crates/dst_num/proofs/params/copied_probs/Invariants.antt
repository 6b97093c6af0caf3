-- The probability tables so far are copied.
use Rattle.std.proofs.Common.{◌≡◌, take}
use Rattle.dst_num.proofs.params.copied_probs.Given as goal

abbrev pub invariant-loop-table : goal.invariant-loop-table
invariant-loop-table l = l.copied.items ≡ take l.table-index l.probs
