-- The number is at most the count of different ones in front, or breaks the rule of maps, or is cut short.
use Rattle.std.proofs.Common.{◌≡◌, ℕ, ◌<◌, ◌≤◌, Some, None, refl, lt-ltb, le-ltb}
use Rattle.dst_spec.specs.Map.{map_bits}
use Rattle.dst_spec.specs.Offends.{number_rule}
use Rattle.dst_spec.specs.declared.faults.Reason.TheVariants.{MapSkips}
use Rattle.frame_header.proofs.Stepping.{rule_met, rule_broken, field_cut}
use Rattle.frame_header.proofs.fields.read_map_number.Goals as goal

skips : (count e : ℕ) → count < e → number_rule count e ≡ Some MapSkips
skips count e h = rw (lt-ltb count e h) refl

follows : (count e : ℕ) → e ≤ count → number_rule count e ≡ None
follows count e h = rw (le-ltb count e h) refl

pub returns-then-element-count-clause-fault : goal.returns-then-element-count-clause-fault
returns-then-element-count-clause-fault c =
    let count = c.args.count in
    let e = c.in-Ok.element in
    let a = rw c.map_bits.ensures.bits at c.in-Ok.ensures.read in
    rw c.place-bit.ensures.place (rule_broken (map_bits count) (number_rule count) c.args.reader.now c.read_number.new.reader e MapSkips a
    (skips count e c.if-element-count.true))

pub returns-else-element-count-clause-read : goal.returns-else-element-count-clause-read
returns-else-element-count-clause-read c =
    let count = c.args.count in
    let e = c.in-Ok.element in
    let a = rw c.map_bits.ensures.bits at c.in-Ok.ensures.read in
    rule_met (map_bits count) (number_rule count) c.args.reader.now c.read_number.new.reader e a (follows count e c.if-element-count.false)

pub returns-in-Err-clause-fault : goal.returns-in-Err-clause-fault
returns-in-Err-clause-fault c =
    let count = c.args.count in
    let a = rw c.map_bits.ensures.bits at c.in-Err.ensures.fault in
    field_cut (map_bits count) (number_rule count) c.args.reader.now c.in-Err.fault a
