-- A number is small, and so is what it spells: the sum with a least value from 0 up, itself below half its range, and above it a negative value.
use Rattle.std.proofs.Common.{◌≡◌, ◌-◌, ◌^◌, ◌<◌, ◌≤◌, ◌≤ℤ◌, ◌<ℤ◌, pos, ◌∙◌, arith}
use Rattle.std.proofs.lemmas.Int.{ints}
use Rattle.std.proofs.lemmas.Nat.{one_shl}
use Rattle.std.proofs.Math.Pow.{pow_mono}
use Rattle.dst_spec.specs.Offends.{value_of}
use Rattle.table_code.proofs.PlainNumbers.{value_high, value_low, value_from_least, few_numbers, raised}
use Rattle.table_code.proofs.reading.plain_value.Given as given
use Rattle.table_code.proofs.reading.plain_value.Goals as goal

-- the number is small
number_small : (g : given.Over) (c : goal.Start g) → c.args.number < 512
number_small g c = omega (arith, few_numbers g.K.TableKind.kind g.met.K.TableKind.small, c.requires)

pub overflow_cast-number : goal.overflow_cast-number
overflow_cast-number g c = omega (arith, ints, number_small g c)

pub returns-then-least-ge0 : goal.returns-then-least-ge0
returns-then-least-ge0 g c =
    let K = g.K.TableKind.kind in
    let n = c.args.number in
    let same : c.LEAST-least.result ≡ K.least = c.LEAST-least.ensures ∙ g.met.K.TableKind.least in
    let some : pos 0 ≤ℤ K.least = omega (arith, ints, same, c.if-least-ge0.true) in
    let is = value_from_least K n some in
    let most : value_of K n ≤ℤ K.greatest = (g.met.K.TableKind.plain_values.0 n c.requires).1 in
    let few = few_numbers K g.met.K.TableKind.small in
    rw (same, is) (raised n K.least (omega (arith, few, c.requires)) some (omega (arith, ints, is, most, g.met.K.TableKind.small.greatest)))

pub returns-then-number-VALUE_BITS : goal.returns-then-number-VALUE_BITS
returns-then-number-VALUE_BITS g c =
    let K = g.K.TableKind.kind in
    let few = few_numbers K g.met.K.TableKind.small in
    let most = g.met.K.TableKind.small.most_value in
    let width : c.VALUE_BITS.result ≡ K.value_bits = c.VALUE_BITS.ensures ∙ g.met.K.TableKind.value_bits in
    let half = one_shl (K.value_bits - 1) 32 (omega arith) in
    let least : K.least <ℤ pos 0 = omega (arith, ints, c.LEAST-least.ensures, g.met.K.TableKind.least, c.if-least-ge0.false) in
    let fewer : 2 ^ (K.value_bits - 1) ≤ 2 ^ K.value_bits = pow_mono (omega arith) in
    let test = rw (width, half) at c.if-number-VALUE_BITS.true in
    let low : c.args.number < 2 ^ (K.value_bits - 1) = omega (arith, ints, test, c.requires) in
    rw (value_low K c.args.number least low) (omega (arith, ints, c.requires))

pub overflow_sub-VALUE_BITS : goal.overflow_sub-VALUE_BITS
overflow_sub-VALUE_BITS g c =
    let width = c.VALUE_BITS.ensures ∙ g.met.K.TableKind.value_bits in
    omega (arith, width, g.met.K.TableKind.small.some_value)

pub overflow_cast-VALUE_BITS : goal.overflow_cast-VALUE_BITS
overflow_cast-VALUE_BITS g c =
    let width = c.VALUE_BITS.ensures ∙ g.met.K.TableKind.value_bits in
    omega (arith, ints, width, g.met.K.TableKind.small.most_value)

pub overflow_shl-VALUE_BITS : goal.overflow_shl-VALUE_BITS
overflow_shl-VALUE_BITS g c =
    let width = c.VALUE_BITS.ensures ∙ g.met.K.TableKind.value_bits in
    omega (arith, width, g.met.K.TableKind.small.most_value)

pub overflow_cast-result : goal.overflow_cast-result
overflow_cast-result g c =
    let width = c.VALUE_BITS-else-number-VALUE_BITS.ensures ∙ g.met.K.TableKind.value_bits in
    omega (arith, ints, width, g.met.K.TableKind.small.most_value)

pub overflow_shl-result : goal.overflow_shl-result
overflow_shl-result g c =
    let width = c.VALUE_BITS-else-number-VALUE_BITS.ensures ∙ g.met.K.TableKind.value_bits in
    omega (arith, width, g.met.K.TableKind.small.most_value)

pub overflow_sub-result : goal.overflow_sub-result
overflow_sub-result g c =
    let K = g.K.TableKind.kind in
    let width : c.VALUE_BITS-else-number-VALUE_BITS.result ≡ K.value_bits = c.VALUE_BITS-else-number-VALUE_BITS.ensures ∙ g.met.K.TableKind.value_bits in
    rw (width, one_shl K.value_bits 32 (omega (arith, g.met.K.TableKind.small.most_value)))
    (omega (arith, ints, few_numbers K g.met.K.TableKind.small, c.requires))

pub returns-else-number-VALUE_BITS : goal.returns-else-number-VALUE_BITS
returns-else-number-VALUE_BITS g c =
    let K = g.K.TableKind.kind in
    let few = few_numbers K g.met.K.TableKind.small in
    let most = g.met.K.TableKind.small.most_value in
    let some = g.met.K.TableKind.small.some_value in
    let width : c.VALUE_BITS.result ≡ K.value_bits = c.VALUE_BITS.ensures ∙ g.met.K.TableKind.value_bits in
    let width_2 : c.VALUE_BITS-else-number-VALUE_BITS.result ≡ K.value_bits = c.VALUE_BITS-else-number-VALUE_BITS.ensures ∙ g.met.K.TableKind.value_bits in
    let shift = one_shl K.value_bits 32 (omega arith) in
    let half = one_shl (K.value_bits - 1) 32 (omega arith) in
    let fewer : 2 ^ (K.value_bits - 1) ≤ 2 ^ K.value_bits = pow_mono (omega arith) in
    let least : K.least <ℤ pos 0 = omega (arith, ints, c.LEAST-least.ensures, g.met.K.TableKind.least, c.if-least-ge0.false) in
    let test = rw (width, half) at c.if-number-VALUE_BITS.false in
    let high : 2 ^ (K.value_bits - 1) ≤ c.args.number = omega (arith, ints, test, c.requires) in
    rw (width_2, shift, value_high K c.args.number least high) (omega (arith, ints, c.requires))
