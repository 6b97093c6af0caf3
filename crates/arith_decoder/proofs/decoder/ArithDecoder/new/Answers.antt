-- The first bit and the twelve behind it, or what they break, and the registers from the 32 that follow.
use Rattle.std.proofs.Common.{◌≡◌, ◌+◌, get_or, refl, ap, sym, ◌∙◌, arith, inl, inr}
use Rattle.dst_spec.specs.Bits.{bits, number_from}
use Rattle.dst_spec.proofs.Numbers.{AreBits-bits}
use Rattle.arith_decoder.proofs.Begun.{IsBegun, begun, first_value, first_gap}
use Rattle.arith_decoder.proofs.Faults.{one_bit, first_is_zero, first_fault, range_fault}
use Rattle.arith_decoder.proofs.decoder.ArithDecoder.new.Goals as goal
use Rattle.arith_decoder.proofs.decoder.ArithDecoder.new.Goals.{After-read_or_zero-2}

pub returns-then-read_or_zero-eq1-clause-fault : goal.returns-then-read_or_zero-eq1-clause-fault
returns-then-read_or_zero-eq1-clause-fault c =
    let number = rw (c.over-reader.ensures.bytes, c.over-reader.ensures.place) at c.read_or_zero.ensures.number in
    inl (sym (one_bit (bits c.args.code.bytes.now) c.args.code.first) ∙ sym number ∙ c.if-read_or_zero-eq1.true, refl)

pub returns-then-read_or_zero-eq1-clause-offends : goal.returns-then-read_or_zero-eq1-clause-offends
returns-then-read_or_zero-eq1-clause-offends c =
    let number = rw (c.over-reader.ensures.bytes, c.over-reader.ensures.place) at c.read_or_zero.ensures.number in
    first_fault (bits c.args.code.bytes.now) c.args.code.first c.args.code.first (sym number ∙ c.if-read_or_zero-eq1.true)

-- a first bit that isn't 1 is 0, and the offset is the twelve bits behind it
begins : (c : After-read_or_zero-2) → let xs = bits c.args.code.bytes.now in
    (get_or xs c.args.code.first 0 ≡ 0) × (c.read_or_zero-2.result ≡ number_from xs (c.args.code.first + 1) 12)
begins c =
    let number = rw (c.over-reader.ensures.bytes, c.over-reader.ensures.place) at c.read_or_zero.ensures.number in
    let offset = rw (
      c.read_or_zero.ensures.bytes,
      c.read_or_zero.ensures.place,
      c.over-reader.ensures.bytes,
      c.over-reader.ensures.place,
    ) at c.read_or_zero-2.ensures.number in (
      first_is_zero (bits c.args.code.bytes.now) c.args.code.first c.read_or_zero.result (AreBits-bits c.args.code.bytes.now) number
          c.if-read_or_zero-eq1.false,
      offset,
    )

pub returns-then-offset-eq4095-clause-fault : goal.returns-then-offset-eq4095-clause-fault
returns-then-offset-eq4095-clause-fault c =
    let b = begins c.before.before in
    inr (b.0, sym b.1 ∙ sym c.from-offset.ensures ∙ c.if-offset-eq4095.true, refl)

pub returns-then-offset-eq4095-clause-offends : goal.returns-then-offset-eq4095-clause-offends
returns-then-offset-eq4095-clause-offends c =
    let b = begins c.before.before in
    range_fault (bits c.args.code.bytes.now) c.args.code.first b.0 (sym b.1 ∙ sym c.from-offset.ensures ∙ c.if-offset-eq4095.true)

-- the point behind the offset, seen from the end
abbrev at_offset : goal.After-result-1 → After-read_or_zero-2
at_offset c = c.before.before.before.before.before.before

pub returns-clause-first_bit : goal.returns-clause-first_bit
returns-clause-first_bit c = (begins (at_offset c)).0

-- the registers at the beginning, in front of the struct
begun_at : (c : goal.After-result-1) → IsBegun c.args.code.bytes.now c.args.code.first (first_value c.from-offset.result c.from-next.result)
begun_at c =
    let code = c.args.code in
    let offset = c.from-offset.ensures ∙ (begins (at_offset c)).1 in
    let next = c.from-next.ensures ∙ rw (
      c.read_or_zero-2.ensures.bytes,
      c.read_or_zero-2.ensures.place,
      c.read_or_zero.ensures.bytes,
      c.read_or_zero.ensures.place,
      c.over-reader.ensures.bytes,
      c.over-reader.ensures.place,
    ) at c.read_or_zero-3.ensures.number in
    let place : code.first + 1 + 12 ≡ code.first + 13 = omega arith in
    begun code.bytes.now code.first c.from-offset.result c.from-next.result c.requires.short c.requires.early offset c.if-offset-eq4095.false
    (next ∙ ap (λ k. number_from (bits code.bytes.now) k 32) place)

pub overflow_sub-result : goal.overflow_sub-result
overflow_sub-result c = (begun_at c).below

pub invariant_of-result : goal.invariant_of-result
invariant_of-result c =
    let b = begun_at c in
    record { registers = rw (first_gap (first_value c.from-offset.result c.from-next.result) b.below) b.registers; within = omega arith }

pub returns-clause-used : goal.returns-clause-used
returns-clause-used c =
    let b = begun_at c in
    rw (first_gap (first_value c.from-offset.result c.from-next.result) b.below) b.used_is

pub returns-clause-stands : goal.returns-clause-stands
returns-clause-stands c =
    let b = begun_at c in
    rw (first_gap (first_value c.from-offset.result c.from-next.result) b.below) b.stands
