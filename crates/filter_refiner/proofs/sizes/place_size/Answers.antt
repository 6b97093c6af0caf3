-- The size is what the symbols of the place come to.
use Rattle.std.proofs.Common.{rules}
use Rattle.filter_refiner.proofs.sizes.place_size.Goals as goal

pub returns-clause-bits : goal.returns-clause-bits
returns-clause-bits c = search rules
