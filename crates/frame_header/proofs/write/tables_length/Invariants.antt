-- The length so far is that of the tables passed, in their shortest spellings, each of at most 2^32 bits.
use Rattle.std.proofs.Common.{◌≡◌, ◌*◌, ◌≤◌, ◌^◌, length, take}
use Rattle.frame_header.specs.Written.{tables_spelling}
use Rattle.frame_header.proofs.write.tables_length.Given as goal

abbrev pub invariant-loop-table : goal.invariant-loop-table
invariant-loop-table g l = record {
  length : l.length ≡ length (tables_spelling g.K.TableKind.kind g.K.TableKind.values (take l.table-index l.tables));
  most : l.length ≤ l.table-index * 2 ^ 32;
}
