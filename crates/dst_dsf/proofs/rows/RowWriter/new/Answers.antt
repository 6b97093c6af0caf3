-- An empty row has taken no sound, and nothing of it is written.
use Rattle.std.proofs.Common.{refl}
use Rattle.dst_dsf.proofs.Gathering.{begins}
use Rattle.dst_dsf.proofs.rows.RowWriter.new.Goals as goal

pub returns-clause-begins : goal.returns-clause-begins
returns-clause-begins g c =
    begins g.K.Sink.written g.K.Sink.room _ (g.K.Sink.written c.args.sink.now) (g.K.Sink.room c.args.sink.now) c.new.ensures.taken c.new.ensures.empty refl refl
