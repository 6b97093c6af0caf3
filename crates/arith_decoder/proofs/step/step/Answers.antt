-- The gap and the range of the part that the gap is in.
use Rattle.std.proofs.Common.{◌≡◌, ◌∙◌, ◌≤◌, ◌*◌, ◌^◌, nat_lt, arith}
use Rattle.arith_decoder.proofs.Steps.{IsBefore, before}
use Rattle.arith_decoder.proofs.Parting.{gap_behind, less, gap_is, within_left, parted}
use Rattle.arith_decoder.proofs.step.step.Goals as goal

-- what the cut says of the part
at_cut : (c : goal.After-select) → IsBefore c.requires.cut.0 0 c.args.range c.args.part c.args.factor
at_cut c =
    let n = c.requires.cut in
    before n.0 0 c.args.range c.args.part c.args.factor n.2 c.requires.range n.3

pub overflow_mul-part : goal.overflow_mul-part
overflow_mul-part c = omega (arith, (at_cut c).most)

pub overflow_sub-range : goal.overflow_sub-range
overflow_sub-range c = omega (arith, (at_cut c).small)

-- the gap is compared with the part, and the new gap goes by that
chosen : (c : goal.After-select-2) → let zero = c.overflowing_sub-rest.result.1 in
    (nat_lt c.args.gap (c.args.part * 2 ^ 52) ≡ zero) × (c.select.result ≡ gap_behind zero c.args.gap c.args.part c.args.factor)
chosen c =
    let b = at_cut c.before in
    let small : c.args.part ≤ 4095 = omega (arith, b.small, c.requires.range.most) in
    let zero = c.overflowing_sub-rest.result.1 in
    let is = less zero c.args.gap c.args.part small c.overflowing_sub-rest.ensures.overflow in
    let gap = gap_is zero c.args.gap c.args.part c.args.factor c.overflowing_sub-rest.result.0 small b.most c.ranges.gap.fits
    (omega arith) is c.overflowing_sub-rest.ensures.value in
    (is, c.select.ensures ∙ gap)

pub returns-clause-within : goal.returns-clause-within
returns-clause-within c =
    let some : c.args.part ≤ c.args.range = omega (arith, (at_cut c.before).small) in
    let k = chosen c in
    rw (k.1, c.select-2.ensures)
    (within_left c.overflowing_sub-rest.result.1 c.args.range c.args.gap c.args.part c.args.factor some c.requires.within k.0)

pub returns-clause-step : goal.returns-clause-step
returns-clause-step c p least most cut =
    let k = chosen c in
    parted p c.args.range c.args.gap c.args.part c.args.factor c.overflowing_sub-rest.result.1 most c.requires.range c.requires.within
    c.requires.some cut k.0 c.select.result c.select-2.result k.1 c.select-2.ensures
