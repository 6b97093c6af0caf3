-- An end bit 1 is passed, an end bit 0 breaks the rule of one segment, and one that isn't there is cut short.
use Rattle.std.proofs.Common.{◌≡◌, ℕ, None, refl, ap}
use Rattle.std.proofs.lemmas.Bool.{ne_eqb}
use Rattle.dst_spec.specs.Offends.{end_rule}
use Rattle.dst_spec.specs.declared.faults.Reason.TheVariants.{MultiSegment}
use Rattle.frame_header.proofs.Stepping.{rule_met, rule_broken, field_cut}
use Rattle.frame_header.proofs.fields.read_end.Goals as goal

ends : (v : ℕ) → (v ≡ 0 → ⊥) → end_rule v ≡ None
ends v h = rw (ne_eqb v 0 h) refl

pub returns-in-Ok-eq0-clause-fault : goal.returns-in-Ok-eq0-clause-fault
returns-in-Ok-eq0-clause-fault c =
    let a = c.in-Ok-eq0 in
    rw c.place-bit.ensures.place (rule_broken 1 end_rule c.args.reader.now c.read_number.new.reader a.field-0 MultiSegment a.ensures.read
    (ap end_rule a.field-0-test))

pub returns-in-Ok-clause-read : goal.returns-in-Ok-clause-read
returns-in-Ok-clause-read c =
    let a = c.in-Ok in
    (a.field-0, rule_met 1 end_rule c.args.reader.now c.read_number.new.reader a.field-0 a.ensures.read (ends a.field-0 a.field-0-test.1))

pub returns-in-Err-clause-fault : goal.returns-in-Err-clause-fault
returns-in-Err-clause-fault c = field_cut 1 end_rule c.args.reader.now c.in-Err.fault c.in-Err.ensures.fault
