-- What stops the reading of a body is no rule's fault, so it stops this step too.
use Rattle.dsdiff_chunks.proofs.common.read_body_of_prop.Goals as goal

pub returns-in-Err-clause-stops : goal.returns-in-Err-clause-stops
returns-in-Err-clause-stops g c = c.in-Err.ensures.stops _
