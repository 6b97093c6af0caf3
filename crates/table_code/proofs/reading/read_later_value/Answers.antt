-- The value is the residual less the eighth, refused where the kind has no such value or bits are missing.
use Rattle.std.proofs.Common.{◌≡◌, ◌∙◌, ℤ, ◌-ℤ◌, reverse, rules, if◌then◌else◌, ap, arith}
use Rattle.std.proofs.lemmas.Int.{ints, to_z-of_z}
use mir.Val.{SFits, to_z, of_z}
use mir.Syntax.{w32, w64}
use Rattle.dst_spec.specs.Table.{eighth}
use Rattle.dst_spec.specs.Offends.{range_rule}
use Rattle.dst_spec.specs.declared.faults.Reason.TheVariants.{CoefRange, ProbRange}
use Rattle.bit_io.specs.Reading.{left}
use Rattle.dst_spec.proofs.Tables.{InRange-range_rule}
use Rattle.table_code.proofs.GoingOn.{later_given, later_cut, later_refused}
use Rattle.table_code.proofs.reading.read_later_value.Goals as goal

pub returns-in_default-clause-fault : goal.returns-in_default-clause-fault
returns-in_default-clause-fault g c =
    let K = g.K.TableKind.kind in
    rw (c.fault.ensures, c.place-bit.ensures.place) (later_cut K (K.weights c.args.method) c.args.m (reverse c.args.earlier.now)
    (left c.args.reader.now) c.args.reader.now.place c.in_default.ensures.none)

-- the value is the residual less the eighth
pub returns-in-Some-within_range-clause-value : goal.returns-in-Some-within_range-clause-value
returns-in-Some-within_range-clause-value g c =
    let K = g.K.TableKind.kind in
    let v = c.in-Some-within_range.value in
    let fits : SFits w32 v = search rules in
    let fits_r : SFits w32 c.in-Some.residual = search rules in
    let fits_e : SFits w32 c.eighth.result = search rules in
    let is : v ≡ c.in-Some.residual -ℤ eighth (K.weights c.args.method) (reverse c.args.earlier.now) =
    omega (arith, ints, c.in-Some-within_range.ensures.value, c.from.ensures, c.from-2.ensures, c.eighth.ensures.eighth) in
    let keeps = ap (range_rule K) c.in-Some-within_range.ensures.value ∙ c.in-Some-within_range.ensures.met in
    rw (to_z-of_z w32 v fits, c.in-Some.ensures.rest, c.in-Some.ensures.place)
    (later_given K (K.weights c.args.method) c.args.m (reverse c.args.earlier.now)
    (left c.args.reader.now) c.args.reader.now.place c.in-Some.residual v c.in-Some.ensures.enough c.in-Some.ensures.residual is keeps)

pub returns-in-Some-within_range-clause-range : goal.returns-in-Some-within_range-clause-range
returns-in-Some-within_range-clause-range g c =
    let K = g.K.TableKind.kind in
    let fits : SFits w32 c.in-Some-within_range.value = search rules in
    let keeps = ap (range_rule K) c.in-Some-within_range.ensures.value ∙ c.in-Some-within_range.ensures.met in
    rw (to_z-of_z w32 c.in-Some-within_range.value fits) (InRange-range_rule K c.in-Some-within_range.value keeps)

pub returns-in-None-clause-fault : goal.returns-in-None-clause-fault
returns-in-None-clause-fault g c =
    let K = g.K.TableKind.kind in
    let fits_r : SFits w32 c.in-Some.residual = search rules in
    let fits_e : SFits w32 c.eighth.result = search rules in
    let v : ℤ = to_z w64 (of_z w64 (to_z w64 (of_z w64 c.from.result) -ℤ to_z w64 (of_z w64 c.from-2.result))) in
    let is : v ≡ c.in-Some.residual -ℤ eighth (K.weights c.args.method) (reverse c.args.earlier.now) =
    omega (arith, ints, c.from.ensures, c.from-2.ensures, c.eighth.ensures.eighth) in
    rw (c.fault-in-None.ensures, c.place-bit.ensures.place, c.range_reason.ensures)
    (later_refused K (K.weights c.args.method) c.args.m (reverse c.args.earlier.now) (left c.args.reader.now) c.args.reader.now.place c.in-Some.residual v
    (if K.lone then ProbRange else CoefRange)
    c.in-Some.ensures.enough c.in-Some.ensures.residual is c.in-None.ensures.none)
