-- The element 0 alone keeps the rule of maps.
use Rattle.std.proofs.Common.{◌∷◌, [], refl, arith}
use Rattle.dst_spec.specs.Map.{Numbers}
use Rattle.dst_num.specs.Map.{IsChannelMap}
use Rattle.dst_num.proofs.map.MapDefault.default.Goals as goal

one_channel : IsChannelMap (0 ∷ [])
unfolding Numbers
one_channel = (omega arith, omega arith, (refl, (omega arith, tt)))

pub invariant_of-result : goal.invariant_of-result
invariant_of-result c = rw (c.push.ensures.items, c.new-elements.ensures) one_channel
