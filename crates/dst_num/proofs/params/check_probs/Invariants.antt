-- The probability tables so far keep their rule.
use Rattle.std.proofs.Common.{take, All, map, pos}
use Rattle.dst_spec.specs.Table.{prob_kind, IsTable}
use Rattle.dst_num.proofs.params.check_probs.Given as goal

abbrev pub invariant-loop-table : goal.invariant-loop-table
invariant-loop-table l = All (λ entries. IsTable prob_kind (map pos entries)) (take l.table-index l.probs)
