-- Six zeros are passed, any other number breaks the rule of the stuffing, and a missing bit cuts it short.
use Rattle.std.proofs.Common.{◌≡◌, ℕ, ◌++◌, Some, refl, ap, subst, ◌∙◌}
use Rattle.std.proofs.lemmas.Bool.{ne_eqb}
use Rattle.dst_spec.specs.Bits.{low_bits}
use Rattle.dst_spec.specs.Fields.{field, gives}
use Rattle.dst_spec.specs.Offends.{stuffing_rule}
use Rattle.dst_spec.specs.declared.faults.Reason.TheVariants.{PlainStuffing}
use Rattle.bit_io.specs.Reading.{left, HasRead}
use Rattle.frame_header.proofs.Stepping.{rule_met, rule_broken, field_cut}
use Rattle.frame_header.proofs.fields.read_stuffing.Goals as goal

stuffed : (v : ℕ) → (v ≡ 0 → ⊥) → stuffing_rule v ≡ Some PlainStuffing
stuffed v h = rw (ne_eqb v 0 h) refl

pub returns-in-Ok-eq0-clause-read : goal.returns-in-Ok-eq0-clause-read
returns-in-Ok-eq0-clause-read c =
    let a = c.in-Ok-eq0 in
    let old = c.args.reader.now in
    let new = c.read_number.new.reader in
    subst (λ v. HasRead (field 6 stuffing_rule gives) old v new) a.field-0-test
    (rule_met 6 stuffing_rule old new a.field-0 a.ensures.read (ap stuffing_rule a.field-0-test))

pub returns-in-Ok-clause-fault : goal.returns-in-Ok-clause-fault
returns-in-Ok-clause-fault c =
    let a = c.in-Ok in
    rw c.place-bit.ensures.place (rule_broken 6 stuffing_rule c.args.reader.now c.read_number.new.reader a.field-0 PlainStuffing a.ensures.read
    (stuffed a.field-0 a.field-0-test.1))

pub returns-in-Err-clause-fault : goal.returns-in-Err-clause-fault
returns-in-Err-clause-fault c = field_cut 6 stuffing_rule c.args.reader.now c.in-Err.fault c.in-Err.ensures.fault

pub returns-in-Ok-eq0-clause-zeros : goal.returns-in-Ok-eq0-clause-zeros
unfolding low_bits
returns-in-Ok-eq0-clause-zeros c =
    let a = c.in-Ok-eq0 in
    a.ensures.bits ∙ ap (λ v. low_bits 6 v ++ left c.read_number.new.reader) a.field-0-test
