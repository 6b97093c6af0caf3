-- The residuals so far, and those of the values that are left, are those of the whole table.
use Rattle.std.proofs.Common.{◌≡◌, ◌+◌, ◌++◌, length, take, drop, reverse}
use Rattle.std.specs.List.{AllByRecursion}
use Rattle.table_code.specs.Choices.{residuals, IsResidual}
use Rattle.table_code.proofs.spelling.residuals.Given as goal

abbrev pub invariant-loop-j : goal.invariant-loop-j
invariant-loop-j g l = record {
  counted : length l.residuals.items + (l.method + 1) ≡ l.j;
  each : AllByRecursion IsResidual l.residuals.items;
  rest : l.residuals.items ++ residuals (g.K.TableKind.kind.weights l.method) (reverse (take l.j l.values)) (drop l.j l.values)
      ≡ residuals (g.K.TableKind.kind.weights l.method) (reverse (take (l.method + 1) l.values)) (drop (l.method + 1) l.values);
}
