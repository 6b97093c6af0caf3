-- The chunks on one side of the sound, as they stand.
use Rattle.std.proofs.Common.{◌≡◌, subst}
use Rattle.std.specs.Prelude.{MatchResult}
use Rattle.dsdiff_chunks.specs.Forms.{coded_seen}
use Rattle.dsdiff_chunks.specs.declared.copy.CopyFault.{CopyFault}
use Rattle.dst_commands.specs.Writing.{Adds, Stops}
use Rattle.dst_cut.proofs.CutWhole.{side_is}
use Rattle.dst_cut.proofs.cut_parts.pass_side.Goals as goal

pub returns-clause-written : goal.returns-clause-written
returns-clause-written g c file told =
    subst
    (λ w. MatchResult c.pass_chunks.result
    (λ _. Adds w (g.K.Sink.written c.args.sink.now) (g.K.Sink.written c.pass_chunks.new.sink) (g.K.Sink.room c.args.sink.now)
    (g.K.Sink.room c.pass_chunks.new.sink))
    (λ fault. Stops (fault ≡ CopyFault.Write) w (g.K.Sink.written c.args.sink.now) (g.K.Sink.written c.pass_chunks.new.sink) (g.K.Sink.room c.args.sink.now)))
    (side_is c.args.side file (coded_seen c.args.cut.now.form)) (c.pass_chunks.ensures.written file told)
