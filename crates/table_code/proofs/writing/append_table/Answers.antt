-- The length of a table, and the body behind it where there is one.
use Rattle.std.proofs.Common.{◌≡◌, ◌+◌, ◌-◌, ◌++◌, length, ap, sym, ◌∙◌, arith}
use Rattle.dst_spec.specs.Bits.{low_bits}
use Rattle.dst_spec.specs.Table.{body}
use Rattle.table_code.specs.Spellings.{spelled}
use Rattle.table_code.proofs.Appended.{joined, bits_alone, bits_together}
use Rattle.table_code.proofs.Lengths.{length-alone, length-table, length-least}
use Rattle.table_code.proofs.writing.append_table.Given as given
use Rattle.table_code.proofs.writing.append_table.Goals as goal
use Rattle.table_code.proofs.writing.append_table.Goals.{After-append}

pub append-requires-clause-room : goal.append-requires-clause-room
append-requires-clause-room g c =
    let K = g.K.TableKind.kind in
    let width : c.LENGTH_BITS.result ≡ K.length_bits = c.LENGTH_BITS.ensures ∙ g.met.K.TableKind.length_bits in
    omega (arith, width, length-least K c.args.values.now (spelled c.args.spelling), c.requires.room)

-- the length was put
length_put : (g : given.Over) (c : After-append g) → let K = g.K.TableKind.kind in
    (c.append.new.writer.bits ≡ c.args.writer.now.bits ++ low_bits K.length_bits (length c.args.values.now - 1))
    × (c.append.new.writer.room + K.length_bits ≡ c.args.writer.now.room)
length_put g c =
    let width : c.LENGTH_BITS.result ≡ g.K.TableKind.kind.length_bits = c.LENGTH_BITS.ensures ∙ g.met.K.TableKind.length_bits in
    (rw width at c.append.ensures.bits, rw width at c.append.ensures.room)

pub append_body-requires-clause-room : goal.append_body-requires-clause-room
append_body-requires-clause-room g c =
    let table = length-table g.K.TableKind.kind c.args.values.now (spelled c.args.spelling) (sym c.if-not-is_alone.ensures) in
    omega (arith, table, c.requires.room, (length_put g c.before.before.before).1)

pub returns-then-not-is_alone-clause-bits : goal.returns-then-not-is_alone-clause-bits
returns-then-not-is_alone-clause-bits g c =
    let K = g.K.TableKind.kind in
    let vs = c.args.values.now in
    joined c.args.writer.now.bits c.append.new.writer.bits c.append_body.new.writer.bits (low_bits K.length_bits (length vs - 1))
    (body K vs (spelled c.args.spelling)) (length_put g c.before.before.before.before).0 c.append_body.ensures.bits
    ∙ ap (λ xs. c.args.writer.now.bits ++ xs) (sym (bits_together K vs (spelled c.args.spelling) (sym c.if-not-is_alone.ensures)))

pub returns-then-not-is_alone-clause-room : goal.returns-then-not-is_alone-clause-room
returns-then-not-is_alone-clause-room g c =
    let table = length-table g.K.TableKind.kind c.args.values.now (spelled c.args.spelling) (sym c.if-not-is_alone.ensures) in
    omega (arith, table, c.append_body.ensures.room, (length_put g c.before.before.before.before).1)

pub returns-else-not-is_alone-clause-bits : goal.returns-else-not-is_alone-clause-bits
returns-else-not-is_alone-clause-bits g c =
    let alone = bits_alone g.K.TableKind.kind c.args.values.now (spelled c.args.spelling) (sym c.if-not-is_alone.ensures) in
    (length_put g c.before.before).0 ∙ ap (λ xs. c.args.writer.now.bits ++ xs) (sym alone)

pub returns-else-not-is_alone-clause-room : goal.returns-else-not-is_alone-clause-room
returns-else-not-is_alone-clause-room g c =
    let alone = length-alone g.K.TableKind.kind c.args.values.now (spelled c.args.spelling) (sym c.if-not-is_alone.ensures) in
    omega (arith, alone, (length_put g c.before.before).1)
