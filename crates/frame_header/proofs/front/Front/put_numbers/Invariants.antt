-- The bits so far, and those of the numbers that are left, are the map's, with at most 3 bits for each number.
use Rattle.std.proofs.Common.{◌≡◌, ◌+◌, ◌*◌, ◌≤◌, ◌++◌, length, drop}
use Rattle.dst_spec.specs.Map.{Numbers, map_numbers}
use Rattle.frame_header.proofs.front.Front.put_numbers.Given as goal

abbrev pub invariant-loop-element : goal.invariant-loop-element
invariant-loop-element l = record {
  numbers : Numbers l.count (drop l.element-index l.elements);
  count : l.count ≤ 1 + l.element-index;
  whole : l.self ++ map_numbers l.count (drop l.element-index l.elements) ≡ l.initial.self ++ map_numbers 1 l.elements;
  long : length l.self ≤ length l.initial.self + 3 * l.element-index;
}
