-- By `ComingBack`: the form that stands for an accepted DSF file has four chunks, which keep all rules of a plain form.
use Rattle.dsf_laws.proofs.ComingBack.{plain_form_accepted}
use Rattle.dsf_laws.proofs.laws.plain_form_is_accepted.Goals as goal

pub returns : goal.returns
returns c = plain_form_accepted
