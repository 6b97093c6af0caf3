-- The bits so far, and those of the tables that are left, are those of all tables; so it is with the room.
use Rattle.std.proofs.Common.{◌≡◌, ◌+◌, ◌++◌, length, drop}
use Rattle.frame_header.specs.Written.{tables_spelling}
use Rattle.frame_header.proofs.write.write_tables.Given as goal

abbrev pub invariant-loop-table : goal.invariant-loop-table
invariant-loop-table g l = record {
  bits : l.writer.bits ++ tables_spelling g.K.TableKind.kind g.K.TableKind.values (drop l.table-index l.tables) ≡ l.initial.writer.bits
      ++ tables_spelling g.K.TableKind.kind g.K.TableKind.values l.tables;
  room : l.writer.room + length (tables_spelling g.K.TableKind.kind g.K.TableKind.values l.tables) ≡ l.initial.writer.room + length
      (tables_spelling g.K.TableKind.kind g.K.TableKind.values (drop l.table-index l.tables));
}
