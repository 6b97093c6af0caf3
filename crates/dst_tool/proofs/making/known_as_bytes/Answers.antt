-- What is lent as bytes are numbers below 256.
use Rattle.dst_spec.proofs.Lists.{are_bytes}
use Rattle.dst_tool.proofs.making.known_as_bytes.Goals as goal

pub returns : goal.returns
returns c = are_bytes c.args.bytes.now c.type_inv.bytes
