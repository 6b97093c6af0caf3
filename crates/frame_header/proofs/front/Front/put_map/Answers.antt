-- A map of zeros is the bit 1; any other one is the bit 0 and the numbers behind the first.
use Rattle.std.proofs.Common.{sym, ◌∙◌}
use Rattle.frame_header.proofs.SpelledMaps.{later_numbers, one_bit_map, numbered_map}
use Rattle.frame_header.proofs.front.Front.put_map.Goals as goal

pub put_numbers-requires-clause-numbers : goal.put_numbers-requires-clause-numbers
put_numbers-requires-clause-numbers c = later_numbers c.args.elements.now c.requires.map

pub returns-then-are_zeros-clause-bits : goal.returns-then-are_zeros-clause-bits
returns-then-are_zeros-clause-bits c = one_bit_map c.args.self.now c.put.new.self c.args.elements.now (sym c.are_zeros.ensures
    ∙ c.if-are_zeros.true) c.put.ensures.bits

pub returns-else-are_zeros-clause-bits : goal.returns-else-are_zeros-clause-bits
returns-else-are_zeros-clause-bits c =
    numbered_map c.args.self.now c.put-else-are_zeros.new.self c.put_numbers.new.self c.args.elements.now (sym c.are_zeros.ensures
    ∙ c.if-are_zeros.false) c.put-else-are_zeros.ensures.bits c.put_numbers.ensures.bits
