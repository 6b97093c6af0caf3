-- The entries so far are from 1 to 128.
use Rattle.std.proofs.Common.{◌≤◌, take, All}
use Rattle.dst_num.proofs.tables.ProbTable.new.Given as goal

abbrev pub invariant-loop-entry : goal.invariant-loop-entry
invariant-loop-entry l = All (λ e. (1 ≤ e) × (e ≤ 128)) (take l.entry-index l.entries)
