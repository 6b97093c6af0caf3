-- The parameters and the bits that were read are a header of these channels, which ends inside the frame.
use Rattle.std.proofs.Common.{subst}
use Rattle.dst_spec.specs.Offends.{header_fields}
use Rattle.frame_header.proofs.Whole.{IsFound, header_found}
use Rattle.frame_header.proofs.header.read_header.Goals as goal
use Rattle.bit_io.specs.Reading.{HasRead}

found : (c : goal.After-place) → IsFound c.args.channels.channels c.args.reader.now c.read_params.new.reader c.in_ok-params.params
found c =
    let n = c.args.channels.channels in
    let old = c.args.reader.now in
    let new = c.read_params.new.reader in
    let P = c.in_ok-params.params in
    let read = subst (λ k. HasRead (header_fields k) old P new) c.count.ensures.count c.in_ok-params.ensures.read in
    header_found n old new P c.count.ensures.shape.least c.requires.place c.requires.coded read

pub returns-clause-inside : goal.returns-clause-inside
returns-clause-inside c = rw c.place.ensures.place (found c).inside

pub returns-clause-header : goal.returns-clause-header
returns-clause-header c = rw c.place.ensures.place (found c).header

pub returns-clause-params : goal.returns-clause-params
returns-clause-params c = (found c).header.params
