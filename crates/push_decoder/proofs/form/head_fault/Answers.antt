-- Behind the first chunk the rules on a head are those on later ones.
use Rattle.std.proofs.Common.{rules, ◌≡◌, sym, ◌∙◌, Some, arith}
use Rattle.dsdiff_chunks.specs.Seen.{head_seen}
use Rattle.push_decoder.specs.Stages.{came_of}
use Rattle.push_decoder.proofs.FormSteps.{later_rules}
use Rattle.push_decoder.proofs.form.head_fault.Goals as goal

pub returns-clause-fault : goal.returns-clause-fault
returns-clause-fault c version prop tells =
    let came = came_of c.args.form.now version prop in
    let e : came.version ≡ Some version = search rules in
    c.later_fault.ensures.fault version prop tells ∙ sym (later_rules c.args.form.now.end version came (head_seen c.args.head) e (omega arith))
