-- The best spelling so far is the first of the shortest among the earlier ones and the Rice numbers tried.
use Rattle.std.proofs.Common.{◌≡◌}
use Rattle.std.specs.List.{fold}
use Rattle.table_code.specs.Spellings.{spelled}
use Rattle.table_code.specs.Choices.{shorter, of_method, IsChoice}
use Rattle.table_code.proofs.spelling.shortest_by_method.Given as goal

abbrev pub invariant-loop-rice : goal.invariant-loop-rice
invariant-loop-rice g l = record {
  choice : IsChoice g.K.TableKind.kind l.values (spelled l.best.0) l.best.1;
  spelling : spelled l.best.0 ≡ fold (shorter g.K.TableKind.kind l.values) (spelled l.fn.best.0) (of_method l.method l.rice);
}
