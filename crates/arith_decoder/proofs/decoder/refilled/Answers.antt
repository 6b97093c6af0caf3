-- The gap as it is refilled, for the range that is held and for each.
use Rattle.std.proofs.Common.{◌∙◌, ℕ, ◌+◌, ◌-◌, ◌*◌, ◌/◌, ◌%◌, ◌^◌, ◌≤◌, arith}
use Rattle.std.specs.Int.{trailing_zeros, w64}
use Rattle.dst_spec.specs.Bits.{bits}
use Rattle.arith_decoder.specs.Registers.{IsValue, value_below}
use Rattle.arith_decoder.proofs.Gaps.{IsRefilled, refilled}
use Rattle.arith_decoder.proofs.decoder.refilled.Goals as goal

-- the bits that were read refill the gap
refills : (c : goal.After-from-more) (range start : ℕ) → range ≤ 4095 → c.args.gap ≤ range * 2 ^ 52 →
    IsValue (bits c.args.bytes.now) start c.args.place (value_below range c.args.gap / 2 ^ 52) (value_below range c.args.gap) →
    let zeros = trailing_zeros w64 c.args.gap in
    IsRefilled (bits c.args.bytes.now) start c.args.place range (value_below range c.args.gap / 2 ^ 52) c.args.gap c.from-more.result
    zeros (1 * 2 ^ zeros % 18446744073709551616) ((2 * c.from-more.result + 1) * 2 ^ (zeros - 32) % 18446744073709551616)
refills c range start most within v =
    refilled (bits c.args.bytes.now) start c.args.place range (value_below range c.args.gap / 2 ^ 52) c.args.gap c.from-more.result
    most c.ranges.gap.fits within v c.requires.low (omega (arith, c.read_or_zero.ensures.fits, c.from-more.ensures))

pub overflow_add-result : goal.overflow_add-result
overflow_add-result c =
    let h = c.requires.held in
    omega (arith, (refills c h.0 h.1 h.2 h.3 h.4).fits)

pub overflow_sub-result : goal.overflow_sub-result
overflow_sub-result c =
    let h = c.requires.held in
    (refills c h.0 h.1 h.2 h.3 h.4).many

pub overflow_sub-result-2 : goal.overflow_sub-result-2
overflow_sub-result-2 c =
    let h = c.requires.held in
    (refills c h.0 h.1 h.2 h.3 h.4).enough

pub returns : goal.returns
returns c range start most within v =
    let all = refills c range start most within v in
    (all.within, all.holds (c.from-more.ensures ∙ rw (c.over-reader.ensures.bytes, c.over-reader.ensures.place) at c.read_or_zero.ensures.number))
