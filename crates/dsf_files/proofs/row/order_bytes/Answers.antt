-- The bits of each byte are turned round where they are stored the other way.
use Rattle.std.proofs.Common.{rules}
use Rattle.dsf_files.proofs.row.order_bytes.Goals as goal

pub returns-then-order-eq1-clause-ordered : goal.returns-then-order-eq1-clause-ordered
returns-then-order-eq1-clause-ordered c = search rules
