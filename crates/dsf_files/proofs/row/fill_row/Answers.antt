-- A row in the front of the room is that of the file, whatever stands behind it.
use Rattle.std.proofs.Common.{ℕ, arith}
use Rattle.std.proofs.lemmas.List.{length-take}
use Rattle.dsf_files.proofs.Reading.{front_of_row}
use Rattle.dsf_files.proofs.row.fill_row.Goals as goal

pub returns-in-Ok-clause-row : goal.returns-in-Ok-clause-row
returns-in-Ok-clause-row g c f told says =
    front_of_row f c.args.form.now c.args.number c.count-size.result c.read_row.new.row _ says c.count-size.ensures.count
    (omega (arith, c.in-Ok.ensures.long, length-take {A = ℕ}, c.requires.long, c.count-size.ensures.count, c.count-size.ensures.shape.most))
    (c.in-Ok.ensures.row f told says)
