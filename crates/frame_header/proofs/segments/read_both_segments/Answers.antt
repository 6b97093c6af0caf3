-- Both segmentations, or the first field of them that fails.
use Rattle.std.proofs.Common.{◌≡◌, arith}
use Rattle.frame_header.proofs.Stepping.{handed_on}
use Rattle.frame_header.proofs.Parts.{both_segments_cut, first_segments_failed, second_segments_failed, same_segments_passed, both_segments_passed}
use Rattle.frame_header.proofs.segments.read_both_segments.Goals as goal

pub returns-in_err-same-clause-fault : goal.returns-in_err-same-clause-fault
returns-in_err-same-clause-fault c = handed_on _ _ _ c.from_residual.ensures.1 (both_segments_cut _ _ _ c.in_err-same.ensures.fault)

pub returns-in_err-read_segments-clause-fault : goal.returns-in_err-read_segments-clause-fault
returns-in_err-read_segments-clause-fault c =
    handed_on _ _ _ c.from_residual-in_err-read_segments.ensures.1
    (first_segments_failed _ _ _ _ _ c.in_ok-same.ensures.read c.in_err-read_segments.ensures.fault)

pub returns-in_err-read_segments-2-clause-fault : goal.returns-in_err-read_segments-2-clause-fault
returns-in_err-read_segments-2-clause-fault c =
    let zero : c.in_ok-same.same ≡ 0 = c.if-same-eq0.true in
    handed_on _ _ _ c.from_residual-in_err-read_segments-2.ensures.1
    (second_segments_failed _ _ _ _ _ _ c.in_ok-same.ensures.read c.in_ok-read_segments.ensures.read (λ one. omega (arith, zero, one))
    c.in_err-read_segments-2.ensures.fault)

pub returns-in_ok-read_segments-2-clause-read : goal.returns-in_ok-read_segments-2-clause-read
returns-in_ok-read_segments-2-clause-read c =
    let zero : c.in_ok-same.same ≡ 0 = c.if-same-eq0.true in
    both_segments_passed _ _ _ _ _ _ c.in_ok-same.ensures.read c.in_ok-read_segments.ensures.read (λ one. omega (arith, zero, one))
    c.in_ok-read_segments-2.ensures.read

pub returns-else-same-eq0-clause-read : goal.returns-else-same-eq0-clause-read
returns-else-same-eq0-clause-read c =
    same_segments_passed _ _ _ _ _ c.in_ok-same.ensures.read c.in_ok-read_segments.ensures.read
    (omega (arith, c.in_ok-same.ensures.fits, c.if-same-eq0.false))
