-- The filters so far keep their rule.
use Rattle.std.proofs.Common.{take, All}
use Rattle.dst_spec.specs.Table.{filter_kind, IsTable}
use Rattle.dst_num.proofs.params.check_filters.Given as goal

abbrev pub invariant-loop-filter : goal.invariant-loop-filter
invariant-loop-filter l = All (IsTable filter_kind) (take l.filter-index l.filters)
