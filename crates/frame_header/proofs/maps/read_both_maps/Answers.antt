-- Both maps, or the first field of them that fails.
use Rattle.std.proofs.Common.{subst, sym}
use Rattle.dst_spec.specs.Offends.{both_maps}
use Rattle.frame_header.proofs.Stepping.{handed_on}
use Rattle.frame_header.proofs.Parts.{both_maps_cut, first_map_failed, second_map_failed, same_map_gave, both_maps_gave}
use Rattle.frame_header.proofs.maps.read_both_maps.Goals as goal
use Rattle.bit_io.specs.Reading.{HasRead}

pub returns-in_err-same-clause-fault : goal.returns-in_err-same-clause-fault
returns-in_err-same-clause-fault c = handed_on _ _ _ c.from_residual.ensures.1 (both_maps_cut _ _ _ c.in_err-same.ensures.fault)

pub returns-in_err-filter_map-clause-fault : goal.returns-in_err-filter_map-clause-fault
returns-in_err-filter_map-clause-fault c =
    handed_on _ _ _ c.from_residual-in_err-filter_map.ensures.1
    (first_map_failed _ _ _ _ _ c.in_ok-same.ensures.read c.in_err-filter_map.ensures.fault)

pub returns-then-same-eq1-clause-read : goal.returns-then-same-eq1-clause-read
returns-then-same-eq1-clause-read c =
    let m = c.in_ok-filter_map.filter_map in
    subst (λ k. HasRead (both_maps c.args.channels) c.args.reader.now (m, k) c.read_map.new.reader) (sym c.copy_of-prob_map.ensures)
    (same_map_gave _ _ _ _ _ m c.in_ok-same.ensures.read c.in_ok-filter_map.ensures.read c.if-same-eq1.true)

pub returns-in_err-prob_map-clause-fault : goal.returns-in_err-prob_map-clause-fault
returns-in_err-prob_map-clause-fault c =
    handed_on _ _ _ c.from_residual-in_err-prob_map.ensures.1
    (second_map_failed _ _ _ _ _ _ _ c.in_ok-same.ensures.read c.in_ok-filter_map.ensures.read c.if-same-eq1.false c.in_err-prob_map.ensures.fault)

pub returns-clause-read : goal.returns-clause-read
returns-clause-read c =
    both_maps_gave _ _ _ _ _ _ _ _ c.in_ok-same.ensures.read c.in_ok-filter_map.ensures.read c.if-same-eq1.false c.in_ok-prob_map.ensures.read
