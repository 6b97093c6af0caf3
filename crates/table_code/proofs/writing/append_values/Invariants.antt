-- The values so far are written, and their bits are taken from the room.
use Rattle.std.proofs.Common.{◌≡◌, ◌+◌, ◌++◌, length, take}
use Rattle.std.specs.List.{flat_map}
use Rattle.dst_spec.specs.Table.{plain_value}
use Rattle.table_code.proofs.writing.append_values.Given as goal

abbrev pub invariant-loop-value : goal.invariant-loop-value
invariant-loop-value g l = record {
  bits : l.writer.bits ≡ l.initial.writer.bits ++ flat_map (plain_value g.K.TableKind.kind) (take l.value-index l.values);
  room : l.writer.room + length (flat_map (plain_value g.K.TableKind.kind) (take l.value-index l.values)) ≡ l.initial.writer.room;
}
