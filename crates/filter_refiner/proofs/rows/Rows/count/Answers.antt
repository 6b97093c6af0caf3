-- The states made of the arrays are as many as the count.
use Rattle.std.proofs.Common.{length, ap, sym, ◌∙◌}
use Rattle.filter_refiner.proofs.Keeping.{length-states}
use Rattle.filter_refiner.proofs.rows.Rows.count.Goals as goal

pub returns-clause-count : goal.returns-clause-count
returns-clause-count c = let long = length-states c.self.inside.errors c.self.inside.values c.self.inside.count in sym (sym (ap length c.self.view_is) ∙ long)
