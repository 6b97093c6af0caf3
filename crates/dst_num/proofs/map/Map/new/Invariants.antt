-- All elements keep the rule where those ahead keep it from the count on, and only there.
use Rattle.std.proofs.Common.{drop}
use Rattle.dst_spec.specs.Map.{Numbers}
use Rattle.dst_num.proofs.map.Map.new.Given as goal

abbrev pub invariant-loop-element : goal.invariant-loop-element
invariant-loop-element l = record {
  on : Numbers 0 l.elements → Numbers l.count (drop l.element-index l.elements);
  back : Numbers l.count (drop l.element-index l.elements) → Numbers 0 l.elements;
}
