-- A method is cut short, is the reserved 3, asks for more values than the table has, or keeps its rules.
use Rattle.std.proofs.lemmas.Result.{err_from_is_err_and}
use Rattle.dst_spec.specs.Fields.{gives, read}
use Rattle.dst_spec.specs.Offends.{method_rule}
use Rattle.dst_spec.specs.declared.faults.Reason.TheVariants.{MethodReserved, TableTooShort}
use Rattle.bit_io.specs.Reading.{left}
use Rattle.table_code.proofs.FieldSteps.{as_field, as_broken_field, as_cut_field, method_keeps, method_reserved, method_short}
use Rattle.table_code.proofs.reading.read_method.Goals as goal

pub returns-in_err-method-clause-fault : goal.returns-in_err-method-clause-fault
returns-in_err-method-clause-fault c =
    let p = err_from_is_err_and c.from_residual.result c.from_residual.ensures.1 in
    rw (p.1, p.2) (as_cut_field 2 (method_rule c.args.count) gives
    (left c.args.reader.now) c.args.reader.now.place c.in_err-method.field-0.0 c.in_err-method.ensures.fault)

pub returns-then-method-eq3-clause-fault : goal.returns-then-method-eq3-clause-fault
returns-then-method-eq3-clause-fault c =
    rw (c.fault.ensures, c.place-bit.ensures.place)
    (as_broken_field 2 (method_rule c.args.count) gives (left c.args.reader.now)
    (left c.read_number.new.reader) c.args.reader.now.place c.read_number.new.reader.place c.in_ok-method.method MethodReserved
    c.in_ok-method.ensures.number (method_reserved c.args.count c.in_ok-method.method c.if-method-eq3.true))

pub returns-then-count-method-clause-fault : goal.returns-then-count-method-clause-fault
returns-then-count-method-clause-fault c =
    rw (c.fault-then-count-method.ensures, c.place-bit.ensures.place)
    (as_broken_field 2 (method_rule c.args.count) gives (left c.args.reader.now)
    (left c.read_number.new.reader) c.args.reader.now.place c.read_number.new.reader.place c.in_ok-method.method TableTooShort
    c.in_ok-method.ensures.number (method_short c.args.count c.in_ok-method.method c.if-method-eq3.false c.if-count-method.true))

pub returns-clause-method : goal.returns-clause-method
unfolding read
returns-clause-method c =
    as_field 2 (method_rule c.args.count) gives (left c.args.reader.now)
    (left c.read_number.new.reader) c.args.reader.now.place c.read_number.new.reader.place c.in_ok-method.method
    c.in_ok-method.ensures.number (method_keeps c.args.count c.in_ok-method.method c.if-method-eq3.false c.if-count-method.false)
