-- So many tables are read, the others are to come, and no more than 2,000,000 bits are left.
use Rattle.std.proofs.Common.{◌≡◌, ◌≤◌, map, length}
use Rattle.dst_spec.specs.Offends.{table_fields}
use Rattle.arrayvec.specs.ArrayVec.{array_vec_len}
use Rattle.bit_io.specs.Reading.{left}
use Rattle.frame_header.proofs.Coming.{TimesToCome}
use Rattle.frame_header.proofs.tables.read_tables.Given as goal

abbrev pub invariant-loop-read : goal.invariant-loop-read
invariant-loop-read g l = record {
  bytes : l.reader.bytes ≡ l.initial.reader.bytes;
  few : length (left l.reader) ≤ 2000000;
  long : array_vec_len l.tables ≡ l.read;
  coming : TimesToCome (table_fields g.K.TableKind.kind) l.count l.initial.reader l.read (map g.K.TableKind.values l.tables.items) l.reader;
}
