-- The filters so far are copied.
use Rattle.std.proofs.Common.{◌≡◌, take}
use Rattle.dst_num.proofs.params.copied_filters.Given as goal

abbrev pub invariant-loop-filter : goal.invariant-loop-filter
invariant-loop-filter l = l.copied.items ≡ take l.filter-index l.filters
