-- The best spelling so far is the first of the shortest among plain and the methods tried.
use Rattle.std.proofs.Common.{◌≡◌}
use Rattle.std.specs.List.{fold}
use Rattle.dst_spec.specs.Table.{plain}
use Rattle.table_code.specs.Spellings.{spelled}
use Rattle.table_code.specs.Choices.{shorter, IsChoice}
use Rattle.table_code.proofs.Choosing.{by_methods}
use Rattle.table_code.proofs.spelling.shortest.Given as goal

abbrev pub invariant-loop-method : goal.invariant-loop-method
invariant-loop-method g l = record {
  choice : IsChoice g.K.TableKind.kind l.values (spelled l.best.0) l.best.1;
  spelling : spelled l.best.0 ≡ fold (shorter g.K.TableKind.kind l.values) plain (by_methods l.method);
}
