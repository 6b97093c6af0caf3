-- Where the form ends, has too many chunks or no room for a head, the stream comes to that fault.
use Rattle.std.proofs.Common.{arith}
use Rattle.push_decoder.specs.Stages.{came_of}
use Rattle.push_decoder.proofs.FormSteps.{missing_at, too_many_at, overruns_at}
use Rattle.push_decoder.proofs.form.form_at.Goals as goal

pub returns-then-place-form-clause-goes_on : goal.returns-then-place-form-clause-goes_on
returns-then-place-form-clause-goes_on c w version prop =
    missing_at w c.args.form.end _ (came_of c.args.form version prop) c.args.place c.missing.result (omega arith) (c.missing.ensures version prop)

pub returns-then-form-eq-MOST_CHUNKS-clause-goes_on :
    goal.returns-then-form-eq-MOST_CHUNKS-clause-goes_on
returns-then-form-eq-MOST_CHUNKS-clause-goes_on c w version prop =
    too_many_at w c.args.form.end c.args.form.chunks (came_of c.args.form version prop) c.args.place (omega arith) (omega arith)

pub returns-then-form-place-lt12-clause-goes_on : goal.returns-then-form-place-lt12-clause-goes_on
returns-then-form-place-lt12-clause-goes_on c w version prop =
    overruns_at w c.args.form.end c.args.form.chunks (came_of c.args.form version prop) c.args.place (omega arith) (omega arith) (omega arith)
