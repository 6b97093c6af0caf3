-- Bytes are made again from their bits, since each is below 256.
use Rattle.std.proofs.Common.{arith}
use Rattle.bit_io.proofs.ByteLists.{octets-bits}
use Rattle.bit_io.proofs.writer.as_octets.Goals as goal

pub returns-clause-bytes : goal.returns-clause-bytes
returns-clause-bytes c = octets-bits c.args.bytes.now (λ i. omega (arith, c.type_inv.bytes i))
