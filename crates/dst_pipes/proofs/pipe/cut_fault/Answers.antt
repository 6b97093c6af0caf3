-- A stream of which nothing is due hasn't ended, so it doesn't close without a fault.
use Rattle.dst_pipes.proofs.Waiting.{waits_for_more}
use Rattle.dst_pipes.proofs.pipe.cut_fault.Goals as goal

pub unreachable-requires : goal.unreachable-requires
unreachable-requires c =
    let r = c.requires.waits in
    waits_for_more r.0 r.1 r.3 (c.in-Ok.ensures.ending r.0 r.1 r.2)
