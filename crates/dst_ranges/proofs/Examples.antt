-- Parts in frames of four bytes each.
use Rattle.std.proofs.Common.{◌≡◌, [], ◌∷◌, refl}
use Rattle.dst_ranges.specs.Parts.{part, parts_between, parts_of}

-- bytes that end on the border of a frame don't touch the next one
pub up_to_a_border : parts_between 4 2 8 ≡ part 0 2 2 ∷ part 1 4 4 ∷ []
up_to_a_border = refl

pub one_byte_past_it : parts_between 4 2 9 ≡ part 0 2 2 ∷ part 1 4 4 ∷ part 2 8 1 ∷ []
one_byte_past_it = refl

pub from_the_border : parts_between 4 4 6 ≡ part 1 4 2 ∷ []
from_the_border = refl

pub inside_a_frame : parts_between 4 5 7 ≡ part 1 5 2 ∷ []
inside_a_frame = refl

pub nothing_has_no_part : parts_between 4 4 4 ≡ []
nothing_has_no_part = refl

-- pairs of groups of two bytes, in their order
pub pair_by_pair : parts_of 4 2 ((3, 1) ∷ (2, 0) ∷ (0, 3) ∷ []) ≡ part 1 6 2 ∷ part 0 0 4 ∷ part 1 4 2 ∷ []
pair_by_pair = refl
