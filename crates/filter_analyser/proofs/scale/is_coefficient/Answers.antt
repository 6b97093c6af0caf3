-- A number of nine signed bits is a coefficient, another isn't.
use Rattle.std.proofs.Common.{rules}
use Rattle.filter_analyser.proofs.scale.is_coefficient.Goals as goal

pub returns-then-number-geminus256 : goal.returns-then-number-geminus256
returns-then-number-geminus256 c = search rules
