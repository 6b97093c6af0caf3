-- Sixteen bytes that break a rule stop the stream; behind any others the form's chunks are read.
use Rattle.std.proofs.Common.{sym, ◌∙◌, rules}
use Rattle.push_decoder.proofs.Starting.{start_refused, start_taken}
use Rattle.push_decoder.proofs.moving.started.Goals as goal

pub returns-in-Some-clause-goes_on : goal.returns-in-Some-clause-goes_on
returns-in-Some-clause-goes_on c w version prop at there =
    start_refused w c.args.bytes.now c.in-Some.fault at there (sym c.start_fault.ensures.fault ∙ c.in-Some.is)

pub returns-clause-goes_on : goal.returns-clause-goes_on
returns-clause-goes_on c w version prop at there =
    start_taken w c.args.bytes.now _ at there (sym c.start_fault.ensures.fault ∙ c.in_default.is) (search rules)
    ∙ c.form_at.ensures.goes_on w version prop
