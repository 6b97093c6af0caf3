-- A lane is short where its middle and low registers are 0, and one such lane is enough.
use Rattle.std.proofs.Common.{arith}
use Rattle.arith_lanes.proofs.Ahead.{longer, shorter}
use Rattle.arith_lanes.proofs.lanes.ArithLanes.are_short.Goals as goal

pub loop-n-preserved : goal.loop-n-preserved
loop-n-preserved c =
    let s = c.args.self.now in
    let i = c.loop-n.n in
    let inv = c.loop-n.invariant in
    record {
      long = longer s i c.loop-n.short inv.long (omega arith) (omega arith);
      short = shorter s i c.loop-n.short (omega arith) inv.short;
    }

pub returns-clause-long : goal.returns-clause-long
returns-clause-long c e n bytes h lane = c.loop-n.invariant.long e n bytes (omega arith) lane
