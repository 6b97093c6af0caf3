-- Intervals of one range and as many doublings narrow alike wherever they lie, and no symbol takes one back.
use Rattle.dst_spec.proofs.CodeLengths.{code_length_law as law}
use Rattle.dst_spec.proofs.laws.code_length_law.Goals as goal

pub returns : goal.returns
returns c = law
