-- There is a shape for the counts and the multiples that the standard has, and for no others.
use Rattle.std.proofs.Common.{rules}
use Rattle.dst_num.proofs.channels.Channels.at.Goals as goal

pub invariant_of-result : goal.invariant_of-result
invariant_of-result c = search rules

pub returns-clause-shape : goal.returns-clause-shape
returns-clause-shape c = search rules
