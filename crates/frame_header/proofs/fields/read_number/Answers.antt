-- A number without a rule is given where its bits are there, and is cut short where they aren't.
use Rattle.frame_header.proofs.Stepping.{number_gave, number_cut}
use Rattle.frame_header.proofs.fields.read_number.Goals as goal

pub returns-in-Some-clause-read : goal.returns-in-Some-clause-read
returns-in-Some-clause-read c =
    let e = c.in-Some.ensures in
    number_gave c.args.n c.args.reader.now c.read.new.self c.in-Some.value e.enough e.first e.rest e.place

pub returns-in-None-clause-fault : goal.returns-in-None-clause-fault
returns-in-None-clause-fault c = rw c.place-bit.ensures.place (number_cut c.args.n c.args.reader.now c.in-None.ensures.none)
