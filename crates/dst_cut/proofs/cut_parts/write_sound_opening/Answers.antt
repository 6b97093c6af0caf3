-- The head of `DST ` with its size, and `FRTE` with the number of frames.
use Rattle.std.proofs.Common.{◌++◌, ap, ap₂}
use Rattle.std.specs.Prelude.{codes}
use Rattle.byteorder.specs.Endian.{big_bytes}
use Rattle.dsdiff_spec.specs.Written.{frte}
use Rattle.dst_commands.proofs.Writing.{added, cut_off, then_appended, stops_first, stops_same}
use Rattle.dst_cut.specs.CutLayout.{count}
use Rattle.dst_commands.proofs.OneCall.{call_same}
use Rattle.dst_cut.proofs.cut_parts.write_sound_opening.Goals as goal

pub returns-in_default-clause-written : goal.returns-in_default-clause-written
returns-in_default-clause-written g c =
    let n = frte (count c.args.cut.now.first c.args.cut.now.last) in
    let head = codes "DST " ++ big_bytes 8 c.sound_size.result in
    stops_same (Unit {0}) (head ++ n) _ _ _ _ (ap (λ s. codes "DST " ++ big_bytes 8 s ++ n) c.sound_size.ensures.size)
    (stops_first (Unit {0}) head n _ _ _ (cut_off _ head _ _ _ _ c.in_default.ensures.sure c.in_default.ensures.written))

pub returns-clause-written : goal.returns-clause-written
returns-clause-written g c =
    let head = codes "DST " ++ big_bytes 8 c.sound_size.result in
    call_same c.write_frte.result (head ++ frte c.count.result) _ _ _ _ _
    (ap₂ (λ s n. codes "DST " ++ big_bytes 8 s ++ frte n) c.sound_size.ensures.size c.count.ensures.count)
    (then_appended c.write_frte.result head (frte c.count.result) _ _ _ _ _ _ (added _ head _ _ _ _ c.in-Ok.ensures.sure c.in-Ok.ensures.written)
    c.write_frte.ensures.written c.write_frte.ensures.sure)
