-- A value below the least or above the greatest is refused; one between them is small, so it is the same in 32 bits.
use Rattle.std.proofs.Common.{◌≡◌, ℤ, ◌≤ℤ◌, ◌<ℤ◌, true, Some, None, if◌then◌else◌, int_lt, refl, arith, ◌∙◌}
use Rattle.std.proofs.lemmas.Int.{ints}
use Rattle.dst_spec.specs.Table.{Kind}
use Rattle.dst_spec.specs.Offends.{range_rule}
use Rattle.dst_spec.specs.declared.faults.Reason.TheVariants.{CoefRange, ProbRange}
use Rattle.dst_spec.proofs.Tables.{not_below}
use Rattle.table_code.proofs.reading.within_range.Given as given
use Rattle.table_code.proofs.reading.within_range.Goals as goal

refused_below : (K : Kind) (v : ℤ) → v <ℤ K.least → range_rule K v ≡ Some (if K.lone then ProbRange else CoefRange)
refused_below K v h = let below : int_lt v K.least ≡ true = grind (arith, ints) in rw below refl

refused_above : (K : Kind) (v : ℤ) → K.least ≤ℤ v → K.greatest <ℤ v → range_rule K v ≡ Some (if K.lone then ProbRange else CoefRange)
refused_above K v h k = let above : int_lt K.greatest v ≡ true = grind (arith, ints) in rw (not_below K.least v h, above) refl

kept_between : (K : Kind) (v : ℤ) → K.least ≤ℤ v → v ≤ℤ K.greatest → range_rule K v ≡ None
kept_between K v h k = rw (not_below K.least v h, not_below v K.greatest k) refl

pub returns-then-value-from-clause-none : goal.returns-then-value-from-clause-none
returns-then-value-from-clause-none g c =
    let least = c.LEAST.ensures ∙ g.met.K.TableKind.least in
    refused_below g.K.TableKind.kind c.args.value (omega (arith, ints, least, g.met.K.TableKind.small.least))

pub returns-then-value-from-2-clause-none : goal.returns-then-value-from-2-clause-none
returns-then-value-from-2-clause-none g c =
    let least = c.LEAST.ensures ∙ g.met.K.TableKind.least in
    let greatest = c.GREATEST.ensures ∙ g.met.K.TableKind.greatest in
    refused_above g.K.TableKind.kind c.args.value (omega (arith, ints, least)) (omega (arith, ints, greatest))

-- the value is between the bounds, which are small
between : (g : given.Over) (c : goal.Else-value-from-2 g) → (g.K.TableKind.kind.least ≤ℤ c.args.value) × (c.args.value ≤ℤ g.K.TableKind.kind.greatest)
between g c =
    let least = c.LEAST.ensures ∙ g.met.K.TableKind.least in
    let greatest = c.GREATEST.ensures ∙ g.met.K.TableKind.greatest in
    (omega (arith, ints, least), omega (arith, ints, greatest))

pub overflow_cast-result : goal.overflow_cast-result
overflow_cast-result g c = let p = between g c in omega (arith, ints, p.0, p.1, g.met.K.TableKind.small.least, g.met.K.TableKind.small.greatest)

pub returns-clause-met : goal.returns-clause-met
returns-clause-met g c = let p = between g c in kept_between g.K.TableKind.kind c.args.value p.0 p.1

pub returns-clause-value : goal.returns-clause-value
returns-clause-value g c = let p = between g c in omega (arith, ints, p.0, p.1, g.met.K.TableKind.small.least, g.met.K.TableKind.small.greatest)
