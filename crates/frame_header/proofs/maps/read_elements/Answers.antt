-- The numbers of a map, or zeros where all are the same.
use Rattle.std.proofs.Common.{subst, sym}
use Rattle.std.proofs.lemmas.Result.{IfOk-weaker, IfErr-weaker}
use Rattle.dst_spec.specs.Offends.{map_fields}
use Rattle.frame_header.specs.Steps.{element_fields}
use Rattle.frame_header.proofs.Stepping.{handed_on}
use Rattle.frame_header.proofs.Parts.{map_cut, zeros_gave, elements_gave, elements_failed}
use Rattle.frame_header.proofs.maps.read_elements.Goals as goal
use Rattle.bit_io.specs.Reading.{HasRead, IsAtFault}

pub returns-in_err-same-clause-fault : goal.returns-in_err-same-clause-fault
returns-in_err-same-clause-fault c =
    handed_on _ _ _ c.from_residual.ensures.1 (map_cut _ _ _ c.in_err-same.ensures.fault)

pub returns-then-same-eq1-clause-read : goal.returns-then-same-eq1-clause-read
returns-then-same-eq1-clause-read c =
    subst (λ xs. HasRead (map_fields c.args.channels) c.args.reader.now xs c.read_number.new.reader) (sym c.zeros.ensures)
    (zeros_gave _ _ _ _ c.in_ok-same.ensures.read c.if-same-eq1.true)

pub returns-else-same-eq1-clause-read : goal.returns-else-same-eq1-clause-read
returns-else-same-eq1-clause-read c =
    let new = c.read_numbers.new.reader in
    IfOk-weaker c.read_numbers.result (λ v. HasRead (element_fields c.args.channels) c.read_number.new.reader v.items new)
    (λ v. HasRead (map_fields c.args.channels) c.args.reader.now v.items new)
    (λ v h. elements_gave _ _ _ _ new v.items c.in_ok-same.ensures.read c.if-same-eq1.false h) c.read_numbers.ensures.read

pub returns-else-same-eq1-clause-fault : goal.returns-else-same-eq1-clause-fault
returns-else-same-eq1-clause-fault c =
    IfErr-weaker c.read_numbers.result (IsAtFault (element_fields c.args.channels) c.read_number.new.reader)
    (IsAtFault (map_fields c.args.channels) c.args.reader.now)
    (λ fault h. elements_failed _ _ _ _ fault c.in_ok-same.ensures.read c.if-same-eq1.false h) c.read_numbers.ensures.fault
