-- A number without a rule is given where its bits are there, and is cut short where they aren't.
use Rattle.dst_spec.specs.Fields.{gives, any}
use Rattle.bit_io.specs.Reading.{left}
use Rattle.table_code.proofs.FieldSteps.{number_gives, field_cut}
use Rattle.table_code.proofs.reading.read_number.Goals as goal

pub returns-in-Some-clause-number : goal.returns-in-Some-clause-number
returns-in-Some-clause-number c =
    rw (c.in-Some.ensures.rest, c.in-Some.ensures.place) (number_gives c.args.n
    (left c.args.reader.now) c.args.reader.now.place c.in-Some.number c.in-Some.ensures.enough c.in-Some.ensures.first)

pub returns-in-None-clause-fault : goal.returns-in-None-clause-fault
returns-in-None-clause-fault c =
    rw (c.fault.ensures, c.place-bit.ensures.place) (field_cut c.args.n any gives (left c.args.reader.now) c.args.reader.now.place c.in-None.ensures.none)
