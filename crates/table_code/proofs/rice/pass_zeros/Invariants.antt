-- All the bits passed are zeros, 32 in each window, so the run of zeros is as many and the run that is left.
use Rattle.std.proofs.Common.{◌≡◌, ◌+◌, ◌*◌, min, length, drop}
use Rattle.dst_spec.specs.Fields.{zero_run}
use Rattle.bit_io.specs.Reading.{left}
use Rattle.table_code.proofs.rice.pass_zeros.Given as goal

abbrev pub invariant-loop : goal.invariant-loop
invariant-loop l = record {
  counted : l.passed ≡ 32 * l.counter;
  bytes : l.reader.bytes ≡ l.initial.reader.bytes;
  place : l.reader.place ≡ l.initial.reader.place + l.passed;
  rest : left l.reader ≡ drop l.passed (left l.initial.reader);
  run : zero_run (left l.initial.reader) ≡ min l.passed (length (left l.initial.reader)) + zero_run (left l.reader);
}
