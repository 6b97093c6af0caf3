-- The two tables one behind the other have at an entry's place its chance, with the mark of the entry.
use Rattle.std.proofs.Common.{◌≡◌}
use lib.Count.{count_leading_zeros}
use Rattle.arith_lanes.proofs.Tables.{all_chances, is_chance, mark_is}
use Rattle.arith_lanes.proofs.chances.chance.Goals as goal

pub returns-clause-prob : goal.returns-clause-prob
unfolding count_leading_zeros
returns-clause-prob c =
    let value : c.as_flattened.result.now ≡ all_chances = c.as_flattened.ensures.value in
    is_chance c.args.entry c.as_flattened.result.now c.ranges.entry.fits value

pub returns-clause-mark : goal.returns-clause-mark
unfolding count_leading_zeros
returns-clause-mark c =
    let value : c.as_flattened.result.now ≡ all_chances = c.as_flattened.ensures.value in
    mark_is c.args.entry c.as_flattened.result.now c.ranges.entry.fits value
