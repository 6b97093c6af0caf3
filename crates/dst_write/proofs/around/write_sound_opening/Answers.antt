-- The head of `DST `, then `FRTE`: it stops in one of them, or both are there.
use Rattle.std.proofs.Common.{◌++◌}
use Rattle.std.specs.Prelude.{codes}
use Rattle.byteorder.specs.Endian.{big_bytes}
use Rattle.dsdiff_spec.specs.Written.{frte}
use Rattle.dst_commands.proofs.Writing.{added, cut_off, then_appended, stops_first}
use Rattle.dst_write.proofs.around.write_sound_opening.Goals as goal

pub returns-in_default-clause-written : goal.returns-in_default-clause-written
returns-in_default-clause-written g c =
    stops_first (Unit {0}) (codes "DST " ++ big_bytes 8 0) (frte c.args.frames) _ _ _
    (cut_off _ (codes "DST " ++ big_bytes 8 0) _ _ _ _ c.in_default.ensures.sure c.in_default.ensures.written)

pub returns-clause-written : goal.returns-clause-written
returns-clause-written g c =
    then_appended c.write_frte.result (codes "DST " ++ big_bytes 8 0) (frte c.args.frames) _ _ _ _ _ _
    (added _ (codes "DST " ++ big_bytes 8 0) _ _ _ _ c.in-Ok.ensures.sure c.in-Ok.ensures.written)
    c.write_frte.ensures.written c.write_frte.ensures.sure
