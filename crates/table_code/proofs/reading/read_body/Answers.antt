-- The first bit says whether the values behind it are plain or coded; a fault there is that of the body.
use Rattle.std.proofs.Common.{◌∙◌}
use Rattle.std.proofs.lemmas.Result.{err_from_is_err_and, IfOk-weaker, IfErr-weaker}
use Rattle.dst_spec.specs.Offends.{times, plain_fields, coded_fields, body_fields}
use Rattle.bit_io.specs.Reading.{left, HasRead, IsAtFault}
use Rattle.table_code.proofs.TableSteps.{bit_stops, bit_0_then, bit_1_then}
use Rattle.table_code.proofs.reading.read_body.Goals as goal

pub returns-in_err-coded-clause-fault : goal.returns-in_err-coded-clause-fault
returns-in_err-coded-clause-fault g c =
    let p = err_from_is_err_and c.from_residual.result c.from_residual.ensures.1 in
    rw (p.1, p.2) (bit_stops g.K.TableKind.kind c.args.count
    (left c.args.reader.now) c.args.reader.now.place c.in_err-coded.field-0.0 c.in_err-coded.ensures.fault)

pub returns-then-coded-eq0-clause-values : goal.returns-then-coded-eq0-clause-values
returns-then-coded-eq0-clause-values g c =
    let K = g.K.TableKind.kind in
    let e = bit_0_then K c.args.count c.in_ok-coded.coded (left c.args.reader.now)
    (left c.read_number.new.reader) c.args.reader.now.place c.read_number.new.reader.place c.in_ok-coded.ensures.number c.if-coded-eq0.true in
    IfOk-weaker c.read_plain.result (λ v. HasRead (times c.args.count (plain_fields K)) c.read_number.new.reader v.items c.read_plain.new.reader)
    (λ v. HasRead (body_fields K c.args.count) c.args.reader.now v.items c.read_plain.new.reader)
    (λ v h. e ∙ h) c.read_plain.ensures.values

pub returns-then-coded-eq0-clause-fault : goal.returns-then-coded-eq0-clause-fault
returns-then-coded-eq0-clause-fault g c =
    let K = g.K.TableKind.kind in
    let e = bit_0_then K c.args.count c.in_ok-coded.coded (left c.args.reader.now)
    (left c.read_number.new.reader) c.args.reader.now.place c.read_number.new.reader.place c.in_ok-coded.ensures.number c.if-coded-eq0.true in
    IfErr-weaker c.read_plain.result (IsAtFault (times c.args.count (plain_fields K)) c.read_number.new.reader)
    (IsAtFault (body_fields K c.args.count) c.args.reader.now) (λ t h. e ∙ h) c.read_plain.ensures.fault

pub returns-else-coded-eq0-clause-values : goal.returns-else-coded-eq0-clause-values
returns-else-coded-eq0-clause-values g c =
    let K = g.K.TableKind.kind in
    let e = bit_1_then K c.args.count c.in_ok-coded.coded (left c.args.reader.now)
    (left c.read_number.new.reader) c.args.reader.now.place c.read_number.new.reader.place c.in_ok-coded.ensures.number c.if-coded-eq0.false in
    IfOk-weaker c.read_coded.result (λ v. HasRead (coded_fields K c.args.count) c.read_number.new.reader v.items c.read_coded.new.reader)
    (λ v. HasRead (body_fields K c.args.count) c.args.reader.now v.items c.read_coded.new.reader)
    (λ v h. e ∙ h) c.read_coded.ensures.values

pub returns-else-coded-eq0-clause-fault : goal.returns-else-coded-eq0-clause-fault
returns-else-coded-eq0-clause-fault g c =
    let K = g.K.TableKind.kind in
    let e = bit_1_then K c.args.count c.in_ok-coded.coded (left c.args.reader.now)
    (left c.read_number.new.reader) c.args.reader.now.place c.read_number.new.reader.place c.in_ok-coded.ensures.number c.if-coded-eq0.false in
    IfErr-weaker c.read_coded.result (IsAtFault (coded_fields K c.args.count) c.read_number.new.reader)
    (IsAtFault (body_fields K c.args.count) c.args.reader.now) (λ t h. e ∙ h) c.read_coded.ensures.fault
