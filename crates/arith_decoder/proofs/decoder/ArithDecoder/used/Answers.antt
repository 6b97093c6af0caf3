-- How many bits are used, by the zeros behind the last bit 1 of the gap.
use Rattle.std.proofs.Common.{◌≡◌, ◌+◌, ◌-◌, ◌*◌, ◌/◌, ◌^◌, ◌≤◌, ℕ, List, refl, ap, ◌∙◌, arith}
use Rattle.std.specs.Int.{trailing_zeros, w64}
use Rattle.dst_spec.specs.Bits.{bits}
use Rattle.arith_decoder.specs.Registers.{AreRegisters, due, value_below}
use Rattle.arith_decoder.proofs.Gaps.{zeros_alike}
use Rattle.arith_decoder.proofs.decoder.ArithDecoder.used.Goals as goal

-- the gap ends in as many zeros as the value
zeros_of_fields : (bytes : List ℕ) (first place range gap : ℕ) →
    AreRegisters bytes first (place + trailing_zeros w64 (due range (value_below range gap)) - 51 - first) place (due range (value_below range gap))
    (due range range) →
    gap ≤ range * 2 ^ 52 → trailing_zeros w64 (due range gap) ≡ trailing_zeros w64 (due range (value_below range gap))
zeros_of_fields bytes first place range gap r within =
    zeros_alike (bits bytes) (first + (place + trailing_zeros w64 (due range (value_below range gap)) - 51 - first)) place range
    (due range (value_below range gap) / 2 ^ 52) gap r.in_range.most within r.holds

-- they are the zeros behind the last bit 1 of the value
zeros_is : (c : goal.After-from) → c.from.result
    ≡ trailing_zeros w64 (due c.self.inside.range (value_below c.self.inside.range c.self.inside.gap))
zeros_is c =
    let i = c.self.inside in
    c.from.ensures ∙ ap (trailing_zeros w64) c.doubled-gap.ensures.gap
    ∙ zeros_of_fields i.bytes.now i.first i.place i.range i.gap c.self.invariant.registers c.self.invariant.within

pub overflow_sub-result : goal.overflow_sub-result
overflow_sub-result c = omega (arith, zeros_is c, c.self.invariant.registers.some)

pub overflow_sub-result-2 : goal.overflow_sub-result-2
overflow_sub-result-2 c = omega (arith, zeros_is c, c.self.invariant.registers.some)

pub returns : goal.returns
returns c = rw (zeros_is c, ← c.self.view_is) (record { used = refl })
