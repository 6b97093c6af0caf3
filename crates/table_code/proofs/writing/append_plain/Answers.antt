-- The bit 0 and the values behind it are the body of a plain table.
use Rattle.std.proofs.Common.{[], ◌∷◌}
use Rattle.dst_spec.specs.Bits.{low_bits}
use Rattle.dst_spec.specs.Table.{plain_values}
use Rattle.table_code.proofs.Appended.{joined}
use Rattle.table_code.proofs.writing.append_plain.Goals as goal

pub returns-clause-bits : goal.returns-clause-bits
unfolding low_bits
returns-clause-bits g c =
    joined c.args.writer.now.bits c.append.new.writer.bits c.append_values.new.writer.bits (0 ∷ [])
    (plain_values g.K.TableKind.kind c.args.values.now) c.append.ensures.bits c.append_values.ensures.bits
