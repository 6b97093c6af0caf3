-- The sound, and what is left of it where the sink fails.
use Rattle.dst_commands.proofs.Writing.{added, then_settled}
use Rattle.dst_show.proofs.frame.write_sound.Goals as goal

pub returns-clause-written : goal.returns-clause-written
returns-clause-written g c =
    then_settled c.finish.result c.args.sound.now _ _ _ _ _
    (added c.append.result c.args.sound.now _ _ _ _ c.append.ensures.sure c.in-Ok.ensures.written) c.finish.ensures.written c.finish.ensures.sure
