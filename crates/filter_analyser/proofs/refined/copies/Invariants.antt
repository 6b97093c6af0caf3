-- The filters so far are copied.
use Rattle.std.proofs.Common.{◌≡◌, take}
use Rattle.filter_analyser.proofs.refined.copies.Given as goal

abbrev pub invariant-loop-filter : goal.invariant-loop-filter
invariant-loop-filter l = l.copies.items ≡ take l.filter-index l.filters
