-- The values that were read are those of a table as it is spelled, so there always is a table of them.
use Rattle.std.proofs.Common.{sym, subst}
use Rattle.dst_spec.specs.Bits.{bits}
use Rattle.dst_spec.specs.Table.{IsTable}
use Rattle.dst_spec.proofs.Numbers.{AreBits-bits}
use Rattle.bit_io.specs.Reading.{left}
use Rattle.table_code.proofs.TableSpelled.{table_spelled}
use Rattle.table_code.proofs.reading.read_table.Goals as goal
use Rattle.dst_spec.proofs.Lists.{AreBits-drop}

pub unreachable-requires : goal.unreachable-requires
unreachable-requires g c =
    let K = g.K.TableKind.kind in
    let t = table_spelled K (left c.args.reader.now) (left c.read_values.new.reader) c.args.reader.now.place c.read_values.new.reader.place
    c.in_ok-values.values.items g.met.K.TableKind.plain_values
    (AreBits-drop c.args.reader.now.place (bits c.args.reader.now.bytes) (AreBits-bits c.args.reader.now.bytes)) c.in_ok-values.ensures.values in
    c.in-None.ensures.none (subst (IsTable K) (sym c.as_slice.ensures.value) t.1.table)

pub returns-clause-spelled : goal.returns-clause-spelled
returns-clause-spelled g c =
    let K = g.K.TableKind.kind in
    rw (c.in-Some.ensures.values, c.as_slice.ensures.value)
    (table_spelled K (left c.args.reader.now) (left c.read_values.new.reader) c.args.reader.now.place c.read_values.new.reader.place
    c.in_ok-values.values.items g.met.K.TableKind.plain_values
    (AreBits-drop c.args.reader.now.place (bits c.args.reader.now.bytes) (AreBits-bits c.args.reader.now.bytes)) c.in_ok-values.ensures.values)
