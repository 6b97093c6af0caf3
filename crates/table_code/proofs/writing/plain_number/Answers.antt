-- A value less the least one, or a negative one moved up by a power of 2, is the number that spells it.
use Rattle.std.proofs.Common.{◌≡◌, ℕ, ◌*◌, ◌%◌, ◌^◌, ◌<◌, ℤ, pos, ◌+ℤ◌, ◌-ℤ◌, ◌≤ℤ◌, ◌<ℤ◌, nat_abs, rules, ap, sym, subst, ◌∙◌, arith, Fits}
use Rattle.std.proofs.lemmas.Int.{ints}
use Rattle.std.proofs.lemmas.Nat.{one_shl}
use lib.Dec.{T}
use lib.Signed.{non_neg}
use mir.Val.{SFits, to_z, of_z}
use mir.Syntax.{w32}
use Rattle.dst_spec.specs.Bits.{low_bits}
use Rattle.dst_spec.specs.Table.{plain_value}
use Rattle.table_code.proofs.PlainNumbers.{few_numbers, number_from_least, number_high, moved_up, moved_down}
use Rattle.table_code.proofs.writing.plain_number.Given as given
use Rattle.table_code.proofs.writing.plain_number.Goals as goal

-- a value below 0, moved up
moved : (g : given.Over) (c : goal.After-VALUE_BITS g) → ℤ
moved g c = to_z w32 (of_z w32 (to_z w32 (of_z w32 c.args.value) +ℤ to_z w32 (1 * 2 ^ c.VALUE_BITS.result % 4294967296)))

moved_is : (g : given.Over) (c : goal.After-VALUE_BITS g) →
    (x : ℕ) × (x < 2 ^ g.K.TableKind.kind.value_bits) × (low_bits g.K.TableKind.kind.value_bits x ≡ plain_value g.K.TableKind.kind c.args.value)
    × (moved g c ≡ pos x)
unfolding moved
moved_is g c =
    let K = g.K.TableKind.kind in
    let few = few_numbers K g.met.K.TableKind.small in
    let most = g.met.K.TableKind.small.most_value in
    let least : K.least <ℤ pos 0 = omega (arith, ints, c.LEAST.ensures, g.met.K.TableKind.least, c.if-LEAST-ge0.false) in
    let below : c.args.value <ℤ pos 0 = omega (arith, ints, c.if-value-ge0.false) in
    let p = number_high K c.args.value g.met.K.TableKind.plain_values c.requires least below in
    let width : c.VALUE_BITS.result ≡ K.value_bits = c.VALUE_BITS.ensures ∙ g.met.K.TableKind.value_bits in
    let shift = one_shl K.value_bits 32 (omega arith) in
    (p.0, p.1.below, p.1.spelled, rw (width, shift) (moved_up c.args.value (2 ^ K.value_bits) p.0 c.ranges.value few p.1.below p.2))

pub overflow_cast-result-else-value-ge0-2 : goal.overflow_cast-result-else-value-ge0-2
unfolding moved
overflow_cast-result-else-value-ge0-2 g c =
    let few = few_numbers g.K.TableKind.kind g.met.K.TableKind.small in
    let p = moved_is g c in
    let number : T (non_neg (pos p.0)) × Fits w32 (nat_abs (pos p.0)) = (tt, record { fits = omega (arith, p.1) }) in
    subst (λ z. T (non_neg z) × Fits w32 (nat_abs z)) (sym p.3) number

pub returns-else-value-ge0-clause-bits : goal.returns-else-value-ge0-clause-bits
unfolding moved
returns-else-value-ge0-clause-bits g c =
    let p = moved_is g c in
    ap (λ z. low_bits g.K.TableKind.kind.value_bits (nat_abs z)) p.3 ∙ p.2

pub returns-else-value-ge0-clause-fits : goal.returns-else-value-ge0-clause-fits
unfolding moved
returns-else-value-ge0-clause-fits g c =
    let p = moved_is g c in
    subst (λ z. nat_abs z < 2 ^ g.K.TableKind.kind.value_bits) (sym p.3) p.1

-- a value less the least one
lowered : (g : given.Over) (c : goal.After-LEAST-then-LEAST-ge0 g) → ℤ
lowered g c = to_z w32 (of_z w32 (to_z w32 (of_z w32 c.args.value) -ℤ to_z w32 (of_z w32 c.LEAST-then-LEAST-ge0.result)))

lowered_is : (g : given.Over) (c : goal.After-LEAST-then-LEAST-ge0 g) →
    (x : ℕ) × (x < 2 ^ g.K.TableKind.kind.value_bits) × (low_bits g.K.TableKind.kind.value_bits x ≡ plain_value g.K.TableKind.kind c.args.value)
    × (lowered g c ≡ pos x)
unfolding lowered
lowered_is g c =
    let K = g.K.TableKind.kind in
    let few = few_numbers K g.met.K.TableKind.small in
    let least_is : c.LEAST-then-LEAST-ge0.result ≡ K.least = c.LEAST-then-LEAST-ge0.ensures ∙ g.met.K.TableKind.least in
    let least : pos 0 ≤ℤ K.least = omega (arith, ints, c.LEAST.ensures, g.met.K.TableKind.least, c.if-LEAST-ge0.true) in
    let p = number_from_least K c.args.value g.met.K.TableKind.plain_values c.requires least in
    let fits : SFits w32 c.LEAST-then-LEAST-ge0.result = search rules in (
      p.0,
      p.1.below,
      p.1.spelled,
      moved_down c.args.value c.LEAST-then-LEAST-ge0.result p.0 c.ranges.value fits (omega (arith, p.1.below))
          (ap (λ l. c.args.value -ℤ l) least_is ∙ p.2),
    )

pub returns-then-LEAST-ge0-clause-bits : goal.returns-then-LEAST-ge0-clause-bits
unfolding lowered
returns-then-LEAST-ge0-clause-bits g c =
    let p = lowered_is g c in
    ap (λ z. low_bits g.K.TableKind.kind.value_bits (nat_abs z)) p.3 ∙ p.2

pub returns-then-LEAST-ge0-clause-fits : goal.returns-then-LEAST-ge0-clause-fits
unfolding lowered
returns-then-LEAST-ge0-clause-fits g c =
    let p = lowered_is g c in
    subst (λ z. nat_abs z < 2 ^ g.K.TableKind.kind.value_bits) (sym p.3) p.1
