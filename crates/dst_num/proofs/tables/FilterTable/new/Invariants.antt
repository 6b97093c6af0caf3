-- The coefficients so far are in range.
use Rattle.std.proofs.Common.{take, All}
use Rattle.dst_spec.specs.Table.{filter_kind, InRange}
use Rattle.dst_num.proofs.tables.FilterTable.new.Given as goal

abbrev pub invariant-loop-coef : goal.invariant-loop-coef
invariant-loop-coef l = All (InRange filter_kind) (take l.coef-index l.coefs)
