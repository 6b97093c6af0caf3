-- A fault of the first rules is that of all.
use Rattle.dsdiff_spec.specs.Faults.{◌otherwise◌}
use Rattle.dsdiff_spec.specs.Parts.{in_prop}
use Rattle.dsdiff_spec.specs.Rules.{moved, type_fault, rate_fault, channels_fault, compression_fault}
use Rattle.dsdiff_chunks.proofs.Fields.{both_here}
use Rattle.dsdiff_chunks.proofs.prop.read_prop.Goals as goal

pub returns-in-Err-clause-refused : goal.returns-in-Err-clause-refused
returns-in-Err-clause-refused c =
    let body = c.args.body.now in
    both_here (type_fault body) (moved c.args.start (in_prop body).fault)
    (rate_fault body otherwise channels_fault body otherwise compression_fault body) c.in-Err.fault
    c.in-Err.ensures.refused
