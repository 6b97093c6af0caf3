-- The values so far are the first ones of the table.
use Rattle.std.proofs.Common.{◌≡◌, take}
use Rattle.table_code.proofs.kinds.values_of.Given as goal

abbrev pub invariant-loop-j : goal.invariant-loop-j
invariant-loop-j g l = l.values.items ≡ take l.j (g.K.TableKind.values l.table)
