-- The head of `FVER`, then its body: it stops in one of them, or both are there.
use Rattle.std.proofs.Common.{◌++◌}
use Rattle.std.specs.Prelude.{codes}
use Rattle.byteorder.specs.Endian.{big_bytes}
use Rattle.dst_commands.proofs.Writing.{added, cut_off, then_appended, stops_first}
use Rattle.dst_pipes.proofs.front.write_version.Goals as goal

pub returns-in_default-clause-written : goal.returns-in_default-clause-written
returns-in_default-clause-written g c =
    stops_first (Unit {0}) (codes "FVER" ++ big_bytes 8 4) c.args.version.now _ _ _
    (cut_off _ (codes "FVER" ++ big_bytes 8 4) _ _ _ _ c.in_default.ensures.sure c.in_default.ensures.written)

pub returns-clause-written : goal.returns-clause-written
returns-clause-written g c =
    then_appended c.append.result (codes "FVER" ++ big_bytes 8 4) c.args.version.now _ _ _ _ _ _
    (added _ (codes "FVER" ++ big_bytes 8 4) _ _ _ _ c.in-Ok.ensures.sure c.in-Ok.ensures.written)
    c.append.ensures.written c.append.ensures.sure
