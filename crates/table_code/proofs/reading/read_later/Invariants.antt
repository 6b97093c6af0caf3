-- Reading from the first value on comes to reading those that are left behind the ones held so far.
use Rattle.std.proofs.Common.{◌≡◌, ◌+◌, ◌≤◌, length}
use Rattle.std.specs.List.{AllByRecursion}
use Rattle.dst_spec.specs.Table.{InRange}
use Rattle.dst_spec.specs.Fields.{read}
use Rattle.bit_io.specs.Reading.{left}
use Rattle.table_code.specs.Parts.{later_rest}
use Rattle.table_code.proofs.reading.read_later.Given as goal

abbrev pub invariant-loop : goal.invariant-loop
invariant-loop g l = record {
  counted : length l.values.items ≡ l.counter;
  some : l.method + 1 ≤ length l.values.items;
  each : AllByRecursion (InRange g.K.TableKind.kind) l.values.items;
  bytes : l.reader.bytes ≡ l.initial.reader.bytes;
  fewer : length (left l.reader) ≤ length (left l.initial.reader);
  rest : read (later_rest g.K.TableKind.kind (g.K.TableKind.kind.weights l.method) l.m l.count l.initial.values.items)
      (left l.initial.reader) l.initial.reader.place
      ≡ read (later_rest g.K.TableKind.kind (g.K.TableKind.kind.weights l.method) l.m l.count l.values.items) (left l.reader) l.reader.place;
}
