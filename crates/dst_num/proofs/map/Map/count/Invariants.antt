-- The count is that of the elements so far.
use Rattle.std.proofs.Common.{◌≡◌, take}
use Rattle.dst_spec.specs.Map.{element_count}
use Rattle.dst_num.proofs.map.Map.count.Given as goal

abbrev pub invariant-loop-element : goal.invariant-loop-element
invariant-loop-element l = l.count ≡ element_count (take l.element-index l.elements)
