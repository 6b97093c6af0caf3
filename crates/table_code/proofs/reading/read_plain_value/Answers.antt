-- The field has the kind's number of bits, and any number of so many bits spells a value of the kind.
use Rattle.std.proofs.Common.{◌≡◌, ◌∙◌, rules, refl, sym, subst}
use Rattle.std.proofs.lemmas.Result.{err_from_is_err_and}
use Rattle.std.proofs.lemmas.Int.{to_z-of_z}
use mir.Val.{SFits}
use mir.Syntax.{w32}
use Rattle.dst_spec.specs.Table.{InRange}
use Rattle.dst_spec.specs.Fields.{gives, any}
use Rattle.dst_spec.specs.Offends.{value_of}
use Rattle.bit_io.specs.Reading.{left}
use Rattle.table_code.proofs.FieldSteps.{as_field, as_cut_field}
use Rattle.table_code.proofs.reading.read_plain_value.Goals as goal
use Rattle.dst_spec.proofs.Meaning.{read-gives}

pub returns-in_err-number-clause-fault : goal.returns-in_err-number-clause-fault
returns-in_err-number-clause-fault g c =
    let K = g.K.TableKind.kind in
    let p = err_from_is_err_and c.from_residual.result c.from_residual.ensures.1 in
    let width : c.VALUE_BITS.result ≡ K.value_bits = c.VALUE_BITS.ensures ∙ g.met.K.TableKind.value_bits in
    let fault = rw width at c.in_err-number.ensures.fault in
    rw (p.1, p.2) (as_cut_field K.value_bits any (λ x. gives (value_of K x)) (left c.args.reader.now) c.args.reader.now.place c.in_err-number.field-0.0 fault)

pub returns-clause-value : goal.returns-clause-value
returns-clause-value g c =
    let K = g.K.TableKind.kind in
    let width : c.VALUE_BITS.result ≡ K.value_bits = c.VALUE_BITS.ensures ∙ g.met.K.TableKind.value_bits in
    let number = rw width at c.in_ok-number.ensures.number in
    let fits : SFits w32 c.plain_value.result = search rules in
    rw (to_z-of_z w32 c.plain_value.result fits, c.plain_value.ensures)
    (as_field K.value_bits any (λ x. gives (value_of K x)) (left c.args.reader.now)
    (left c.read_number.new.reader) c.args.reader.now.place c.read_number.new.reader.place c.in_ok-number.number number refl
    ∙ read-gives (value_of K c.in_ok-number.number) (left c.read_number.new.reader) c.read_number.new.reader.place)

pub returns-clause-range : goal.returns-clause-range
returns-clause-range g c =
    let K = g.K.TableKind.kind in
    let width : c.VALUE_BITS.result ≡ K.value_bits = c.VALUE_BITS.ensures ∙ g.met.K.TableKind.value_bits in
    let below = rw width at c.in_ok-number.ensures.below in
    let fits : SFits w32 c.plain_value.result = search rules in
    rw (to_z-of_z w32 c.plain_value.result fits) (subst (InRange K) (sym c.plain_value.ensures) (g.met.K.TableKind.plain_values.0 c.in_ok-number.number below))
