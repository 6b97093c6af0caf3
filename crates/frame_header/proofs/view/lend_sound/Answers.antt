-- The sound that follows the stuffing, or what fails in front of it.
use Rattle.std.proofs.Common.{◌+◌, ◌<◌, ◌≤◌, ◌∙◌, arith, length}
use Rattle.dst_spec.specs.Sample.{sound_bytes}
use Rattle.frame_header.proofs.Stepping.{handed_on}
use Rattle.frame_header.proofs.Frames.{reserved_cut, stuffing_fails, sound_cut, sound_there}
use Rattle.frame_header.proofs.view.lend_sound.Goals as goal

pub returns-in_err-reserved-clause-fault : goal.returns-in_err-reserved-clause-fault
returns-in_err-reserved-clause-fault c = handed_on _ _ _ c.from_residual.ensures.1 (reserved_cut _ _ _ c.in_err-reserved.ensures.fault)

pub returns-in_err-read_stuffing-clause-fault : goal.returns-in_err-read_stuffing-clause-fault
returns-in_err-read_stuffing-clause-fault c =
    handed_on _ _ _ c.from_residual-in_err-read_stuffing.ensures.1
    (stuffing_fails _ _ _ _ _ c.in_ok-reserved.ensures.read c.in_err-read_stuffing.ensures.fault)

pub returns-then-frame-bytes-clause-fault : goal.returns-then-frame-bytes-clause-fault
returns-then-frame-bytes-clause-fault c =
    let r = c.in_ok-reserved.ensures in
    let s = c.in_ok-read_stuffing.ensures in
    let size = c.sound_bytes-bytes.ensures in
    let short : length c.args.frame.now < 1 + sound_bytes c.args.channels = omega (arith, size.bytes, c.if-frame-bytes.true) in
    rw c.place-bit.ensures.place (sound_cut _ _ _ _ _ _ r.read s.read (s.bytes ∙ r.bytes ∙ c.requires.bytes)
    (omega (arith, s.place, r.place, c.requires.place)) (omega (arith, size.bytes, size.least)) short)

pub returns-clause-whole : goal.returns-clause-whole
returns-clause-whole c =
    let r = c.in_ok-reserved.ensures in
    let s = c.in_ok-read_stuffing.ensures in
    let long : 1 + sound_bytes c.args.channels ≤ length c.args.frame.now = omega (arith, c.sound_bytes-bytes.ensures.bytes, c.if-frame-bytes.false) in
    sound_there _ _ _ _ _ _ r.read s.read (s.bytes ∙ r.bytes ∙ c.requires.bytes) (omega (arith, s.place, r.place, c.requires.place)) long
