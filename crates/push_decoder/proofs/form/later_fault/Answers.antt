-- By the id the rules are those on a `PROP`, a `DSD ` or a `DST `.
use Rattle.std.proofs.Common.{rules, ◌≡◌, true, false, sym, ◌∙◌}
use Rattle.dsdiff_spec.specs.Bytes.{◌is◌}
use Rattle.dsdiff_chunks.specs.Seen.{head_seen}
use Rattle.push_decoder.proofs.FormSteps.{rules_of_prop, rules_of_plain, rules_of_sound}
use Rattle.push_decoder.proofs.form.later_fault.Goals as goal

pub returns-then-eq-clause-fault : goal.returns-then-eq-clause-fault
returns-then-eq-clause-fault c version prop tells =
    let p : ((head_seen c.args.head).id is "PROP") ≡ true = search rules in
    c.prop_fault.ensures.fault version prop ∙ sym (rules_of_prop _ (head_seen c.args.head) p)

pub returns-then-eq-2-clause-fault : goal.returns-then-eq-2-clause-fault
returns-then-eq-2-clause-fault c version prop tells =
    let p : ((head_seen c.args.head).id is "PROP") ≡ false = search rules in
    let q : ((head_seen c.args.head).id is "DSD ") ≡ true = search rules in
    c.plain_fault.ensures version prop ∙ sym (rules_of_plain _ (head_seen c.args.head) p q)

pub returns-then-eq-3-clause-fault : goal.returns-then-eq-3-clause-fault
returns-then-eq-3-clause-fault c version prop tells =
    let p : ((head_seen c.args.head).id is "PROP") ≡ false = search rules in
    let q : ((head_seen c.args.head).id is "DSD ") ≡ false = search rules in
    let r : ((head_seen c.args.head).id is "DST ") ≡ true = search rules in
    c.sound_fault.ensures.fault version prop tells ∙ sym (rules_of_sound _ (head_seen c.args.head) p q r)
