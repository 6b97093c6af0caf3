-- A writer has room for the plain form and no more, so its bytes aren't more than that form's.
use Rattle.std.proofs.Common.{length, ap, subst, arith}
use Rattle.dst_spec.proofs.Numbers.{length-octets}
use Rattle.frame_store.specs.Storing.{IsWriter}
use Rattle.frame_store.proofs.scratch.written_in.Goals as goal

pub returns-clause-short : goal.returns-clause-short
returns-clause-short c =
    let w = c.in-Some.writer in
    let is = subst (IsWriter c.args.channels) c.in-Some.is c.requires in
    omega (arith, ap length c.bytes.ensures.bytes, length-octets w.bits, is.1)
