-- So far 32 zeros are written in each turn, and their room is taken.
use Rattle.std.proofs.Common.{◌≡◌, ◌+◌, ◌*◌, ◌++◌, replicate}
use Rattle.table_code.proofs.appending.append_zeros.Given as goal

abbrev pub invariant-loop : goal.invariant-loop
invariant-loop l = record {
  bits : l.writer.bits ≡ l.initial.writer.bits ++ replicate (32 * l.counter) 0;
  room : l.writer.room + 32 * l.counter ≡ l.initial.writer.room;
}
