-- A value of 40 bits at a scale of at most 8, with the half for rounding, fits, and shifted it is the coefficient.
use Rattle.std.proofs.Common.{arith}
use Rattle.std.proofs.lemmas.Int.{ints}
use Rattle.filter_analyser.proofs.Scaling.{scaled-most, coefficient-is}
use Rattle.filter_analyser.proofs.scale.coefficient.Goals as goal

pub overflow_mul-result : goal.overflow_mul-result
overflow_mul-result c = let most = scaled-most c.args.value c.args.scale c.requires.scale c.requires.value in omega (arith, ints)

pub overflow_add-result : goal.overflow_add-result
overflow_add-result c = let most = scaled-most c.args.value c.args.scale c.requires.scale c.requires.value in omega (arith, ints)

pub returns : goal.returns
returns c = coefficient-is c.args.value c.args.scale c.requires.scale c.requires.value
