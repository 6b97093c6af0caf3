-- The length of a table, and the body or the greatest value behind it.
use Rattle.std.proofs.Common.{◌≡◌, ◌+◌, ◌∙◌, [], ◌∷◌, ◌++◌, rules, sym}
use Rattle.std.proofs.lemmas.Result.{err_from_is_err_and, IfOk-weaker, IfErr-weaker}
use Rattle.std.proofs.lemmas.Int.{to_z-of_z}
use mir.Val.{SFits}
use mir.Syntax.{w32}
use Rattle.dst_spec.specs.Fields.{read}
use Rattle.dst_spec.specs.Offends.{body_fields, table_fields}
use Rattle.bit_io.specs.Reading.{left, HasRead, IsAtFault}
use Rattle.table_code.proofs.TableSteps.{length_stops, length_alone, length_then}
use Rattle.table_code.proofs.reading.read_values.Given as given
use Rattle.table_code.proofs.reading.read_values.Goals as goal

pub returns-in_err-longer-clause-fault : goal.returns-in_err-longer-clause-fault
returns-in_err-longer-clause-fault g c =
    let K = g.K.TableKind.kind in
    let p = err_from_is_err_and c.from_residual.result c.from_residual.ensures.1 in
    let width : c.LENGTH_BITS.result ≡ K.length_bits = c.LENGTH_BITS.ensures ∙ g.met.K.TableKind.length_bits in
    let fault = rw width at c.in_err-longer.ensures.fault in
    rw (p.1, p.2) (length_stops K (left c.args.reader.now) c.args.reader.now.place c.in_err-longer.field-0.0 fault)

pub returns-then-is_alone-clause-values : goal.returns-then-is_alone-clause-values
returns-then-is_alone-clause-values g c =
    let K = g.K.TableKind.kind in
    let width : c.LENGTH_BITS.result ≡ K.length_bits = c.LENGTH_BITS.ensures ∙ g.met.K.TableKind.length_bits in
    let number = rw width at c.in_ok-longer.ensures.number in
    let fits : SFits w32 c.GREATEST.result = search rules in
    let pushed : c.push.new.self.items ≡ [] ++ c.GREATEST.result ∷ [] =
    rw (to_z-of_z w32 c.GREATEST.result fits, c.new-values.ensures) at c.push.ensures.items in
    let greatest : c.GREATEST.result ≡ K.greatest = c.GREATEST.ensures ∙ g.met.K.TableKind.greatest in
    rw (pushed, greatest) (length_alone K c.in_ok-longer.longer (left c.args.reader.now)
    (left c.read_number.new.reader) c.args.reader.now.place c.read_number.new.reader.place number (sym c.is_alone.ensures ∙ c.if-is_alone.true))

-- what follows the length, of more than one value, is the body
body_follows : (g : given.Over) (c : goal.After-read_body g) → read (table_fields g.K.TableKind.kind) (left c.args.reader.now) c.args.reader.now.place
    ≡ read (body_fields g.K.TableKind.kind (c.in_ok-longer.longer + 1)) (left c.read_number.new.reader) c.read_number.new.reader.place
body_follows g c =
    let K = g.K.TableKind.kind in
    let width : c.LENGTH_BITS.result ≡ K.length_bits = c.LENGTH_BITS.ensures ∙ g.met.K.TableKind.length_bits in
    let number = rw width at c.in_ok-longer.ensures.number in
    length_then K c.in_ok-longer.longer (left c.args.reader.now)
    (left c.read_number.new.reader) c.args.reader.now.place c.read_number.new.reader.place number (sym c.is_alone.ensures ∙ c.if-is_alone.false)

pub returns-clause-values : goal.returns-clause-values
returns-clause-values g c =
    let K = g.K.TableKind.kind in
    IfOk-weaker c.read_body.result (λ v. HasRead (body_fields K (c.in_ok-longer.longer + 1)) c.read_number.new.reader v.items c.read_body.new.reader)
    (λ v. HasRead (table_fields K) c.args.reader.now v.items c.read_body.new.reader)
    (λ v h. body_follows g c ∙ h) c.read_body.ensures.values

pub returns-clause-fault : goal.returns-clause-fault
returns-clause-fault g c =
    let K = g.K.TableKind.kind in
    IfErr-weaker c.read_body.result (IsAtFault (body_fields K (c.in_ok-longer.longer + 1)) c.read_number.new.reader)
    (IsAtFault (table_fields K) c.args.reader.now) (λ t h. body_follows g c ∙ h) c.read_body.ensures.fault
