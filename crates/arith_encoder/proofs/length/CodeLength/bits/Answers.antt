-- A code has 13 bits and one for each doubling, and the doublings are those that were measured.
use Rattle.std.proofs.Common.{ap, arith}
use Rattle.dst_spec.proofs.CodeLengths.{code_bits}
use Rattle.arith_encoder.proofs.length.CodeLength.bits.Goals as goal

pub returns-clause-code : goal.returns-clause-code
returns-clause-code c = λ pairs h. omega (arith, code_bits pairs, h.1, ap (λ i. i.doublings) c.self.view_is)
