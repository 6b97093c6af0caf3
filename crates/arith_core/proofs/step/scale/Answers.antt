-- Shifts and an OR make the scale, and it is from 8 to 15 since a range is from 2,048 to 4,095.
use Rattle.std.proofs.Common.{arith}
use Rattle.dst_spec.proofs.Intervals.{scale-least, scale-below}
use Rattle.arith_core.proofs.Masks.{scale_shifted}
use Rattle.arith_core.proofs.step.scale.Goals as goal

pub returns-clause-scale : goal.returns-clause-scale
returns-clause-scale c = scale_shifted c.args.range

pub returns-clause-least : goal.returns-clause-least
returns-clause-least c = rw (scale_shifted c.args.range) (scale-least c.args.range c.requires.least)

pub returns-clause-most : goal.returns-clause-most
returns-clause-most c = rw (scale_shifted c.args.range) (omega (arith, scale-below c.args.range c.requires.most))
