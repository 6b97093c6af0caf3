-- Where no lane is short each has enough bits ahead without a refill.
use Rattle.std.proofs.Common.{refl}
use Rattle.dst_frames.specs.Batch.{code_at}
use Rattle.dst_frames.proofs.octets.refill_where_short.Goals as goal

pub returns-else-are_short : goal.returns-else-are_short
returns-else-are_short c = λ n h.
    let lane = c.requires.lanes.lane n h in
    record { lane = lane; same = refl; ahead = c.are_short.ensures.long c.if-are_short.false n (code_at c.args.frames.now n) h lane }
