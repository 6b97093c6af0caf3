-- Reading goes on field by field: the method, the first values, the Rice number, the later values.
use Rattle.std.proofs.Common.{◌∙◌}
use Rattle.std.proofs.lemmas.Result.{err_from_is_err_and}
use Rattle.bit_io.specs.Reading.{left}
use Rattle.table_code.proofs.TableSteps.{method_stops, method_then, first_stops, first_then, m_stops, m_then}
use Rattle.table_code.proofs.reading.read_coded.Goals as goal

pub returns-in_err-method-clause-fault : goal.returns-in_err-method-clause-fault
returns-in_err-method-clause-fault g c =
    let p = err_from_is_err_and c.from_residual.result c.from_residual.ensures.1 in
    rw (p.1, p.2) (method_stops g.K.TableKind.kind c.args.count
    (left c.args.reader.now) c.args.reader.now.place c.in_err-method.field-0.0 c.in_err-method.ensures.fault)

pub returns-in_err-values-clause-fault : goal.returns-in_err-values-clause-fault
returns-in_err-values-clause-fault g c =
    let K = g.K.TableKind.kind in
    let p = err_from_is_err_and c.from_residual-in_err-values.result c.from_residual-in_err-values.ensures.1 in
    rw (p.1, p.2)
    (method_then K c.args.count c.in_ok-method.method (left c.args.reader.now)
    (left c.read_method.new.reader) c.args.reader.now.place c.read_method.new.reader.place c.in_ok-method.ensures.method
    ∙ first_stops K c.args.count c.in_ok-method.method (left c.read_method.new.reader) c.read_method.new.reader.place c.in_err-values.field-0.0
    c.in_err-values.ensures.fault)

pub returns-in_err-m-clause-fault : goal.returns-in_err-m-clause-fault
returns-in_err-m-clause-fault g c =
    let K = g.K.TableKind.kind in
    let p = err_from_is_err_and c.from_residual-in_err-m.result c.from_residual-in_err-m.ensures.1 in
    rw (p.1, p.2)
    (method_then K c.args.count c.in_ok-method.method (left c.args.reader.now)
    (left c.read_method.new.reader) c.args.reader.now.place c.read_method.new.reader.place c.in_ok-method.ensures.method
    ∙ first_then K c.args.count c.in_ok-method.method c.in_ok-values.values.items (left c.read_method.new.reader)
    (left c.read_plain.new.reader) c.read_method.new.reader.place c.read_plain.new.reader.place c.in_ok-values.ensures.values
    ∙ m_stops K c.args.count c.in_ok-method.method c.in_ok-values.values.items
    (left c.read_plain.new.reader) c.read_plain.new.reader.place c.in_err-m.field-0.0 c.in_err-m.ensures.fault)

pub returns-in_err-read_later-clause-fault : goal.returns-in_err-read_later-clause-fault
returns-in_err-read_later-clause-fault g c =
    let K = g.K.TableKind.kind in
    let p = err_from_is_err_and c.from_residual-in_err-read_later.result c.from_residual-in_err-read_later.ensures.1 in
    rw (p.1, p.2)
    (method_then K c.args.count c.in_ok-method.method (left c.args.reader.now)
    (left c.read_method.new.reader) c.args.reader.now.place c.read_method.new.reader.place c.in_ok-method.ensures.method
    ∙ first_then K c.args.count c.in_ok-method.method c.in_ok-values.values.items (left c.read_method.new.reader)
    (left c.read_plain.new.reader) c.read_method.new.reader.place c.read_plain.new.reader.place c.in_ok-values.ensures.values
    ∙ m_then K c.args.count c.in_ok-method.method c.in_ok-m.m c.in_ok-values.values.items (left c.read_plain.new.reader)
    (left c.read_number.new.reader) c.read_plain.new.reader.place c.read_number.new.reader.place c.in_ok-values.ensures.length c.in_ok-m.ensures.number
    ∙ c.in_err-read_later.ensures.fault)

pub returns-clause-values : goal.returns-clause-values
returns-clause-values g c =
    let K = g.K.TableKind.kind in
    method_then K c.args.count c.in_ok-method.method (left c.args.reader.now)
    (left c.read_method.new.reader) c.args.reader.now.place c.read_method.new.reader.place c.in_ok-method.ensures.method
    ∙ first_then K c.args.count c.in_ok-method.method c.in_ok-values.values.items (left c.read_method.new.reader)
    (left c.read_plain.new.reader) c.read_method.new.reader.place c.read_plain.new.reader.place c.in_ok-values.ensures.values
    ∙ m_then K c.args.count c.in_ok-method.method c.in_ok-m.m c.in_ok-values.values.items (left c.read_plain.new.reader)
    (left c.read_number.new.reader) c.read_plain.new.reader.place c.read_number.new.reader.place c.in_ok-values.ensures.length c.in_ok-m.ensures.number
    ∙ c.in_ok-read_later.ensures.values
