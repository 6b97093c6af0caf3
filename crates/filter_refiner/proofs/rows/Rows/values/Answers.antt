-- The values are those of the row, as many as there are rows before it.
use Rattle.std.proofs.Common.{[], length, get_or, length-take, ap, sym, arith}
use Rattle.filter_refiner.proofs.Keeping.{row-of, length-states}
use Rattle.filter_refiner.proofs.rows.Rows.values.Goals as goal

pub shared_ref_as_front-result : goal.shared_ref_as_front-result
shared_ref_as_front-result c =
    let row = row-of c.self.inside.errors c.self.inside.values c.self.view_is c.self.invariant.1 c.requires.inside in
    omega (arith, row.2.long, length-take c.args.place (get_or c.self.inside.values c.args.place []))

pub returns : goal.returns
returns c =
    let row = row-of c.self.inside.errors c.self.inside.values c.self.view_is c.self.invariant.1 c.requires.inside in
    let many = length-states c.self.inside.errors c.self.inside.values c.self.inside.count in
    let few = c.self.invariant.0 in
    record { values = sym (ap (λ s. s.values) row.1); long = row.2.long; small = row.2.small; few = omega (arith, ap length c.self.view_is) }
