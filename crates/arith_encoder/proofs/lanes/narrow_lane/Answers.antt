-- Sums in sixteen bits are the part of the symbol, doubled once more where it is below 2,048.
use Rattle.std.proofs.Common.{◌+◌, ◌/◌, ◌%◌, refl, ap}
use Rattle.arith_encoder.proofs.SideBySide.{lane_is}
use Rattle.arith_encoder.proofs.lanes.narrow_lane.Goals as goal

pub returns : goal.returns
returns c = λ symbol p is r.
    lane_is symbol p c.args.range c.args.step c.either-signed.result c.either-before.result c.either-rounded.result _ c.either-more.result _
    (c.args.step / 256 % 8 + c.from.result) is r c.either-signed.ensures c.either-before.ensures c.either-rounded.ensures refl c.either-more.ensures refl
    (ap (λ n. c.args.step / 256 % 8 + n) c.from.ensures)
