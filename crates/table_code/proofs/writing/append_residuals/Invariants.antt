-- The residuals so far are written, and their bits are taken from the room.
use Rattle.std.proofs.Common.{◌≡◌, ◌+◌, ◌++◌, length, take}
use Rattle.std.specs.List.{flat_map}
use Rattle.dst_spec.specs.Rice.{rice}
use Rattle.table_code.proofs.writing.append_residuals.Given as goal

abbrev pub invariant-loop-r : goal.invariant-loop-r
invariant-loop-r l = record {
  bits : l.writer.bits ≡ l.initial.writer.bits ++ flat_map (λ r. rice r l.m) (take l.r-index l.residuals);
  room : l.writer.room + length (flat_map (λ r. rice r l.m) (take l.r-index l.residuals)) ≡ l.initial.writer.room;
}
