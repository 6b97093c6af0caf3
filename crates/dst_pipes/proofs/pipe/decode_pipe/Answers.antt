-- Each answer follows from how the run over the flow ends.
use Rattle.std.proofs.Common.{subst}
use Rattle.dst_pipes.proofs.Runs.{ends_decoded, ends_short, ends_lacking}
use Rattle.dst_pipes.specs.Endings.{PipeEnds}
use Rattle.dst_pipes.proofs.pipe.decode_pipe.Goals as goal

pub returns-clause-decoded : goal.returns-clause-decoded
returns-clause-decoded g c = ends_decoded c.run.result _ _ _ _ c.run.ensures.ends

pub returns-clause-file : goal.returns-clause-file
returns-clause-file g c fault e w told =
    let ends = subst (λ r. PipeEnds r w (g.K.Sink.written c.args.sink.now) (g.K.Sink.written c.run.new.sink) (g.K.Sink.room c.args.sink.now)) e
    (c.run.ensures.ends w told) in
    (ends.0, ends.1.0, ends.1.1)

pub returns-clause-frame : goal.returns-clause-frame
returns-clause-frame g c k fault e w told =
    let ends = subst (λ r. PipeEnds r w (g.K.Sink.written c.args.sink.now) (g.K.Sink.written c.run.new.sink) (g.K.Sink.room c.args.sink.now)) e
    (c.run.ensures.ends w told) in
    (ends.0, ends.1.0, ends.1.1)

pub returns-clause-cut_short : goal.returns-clause-cut_short
returns-clause-cut_short g c which w told = ends_short c.run.result w _ _ _ which (c.run.ensures.ends w told)

pub returns-clause-sure : goal.returns-clause-sure
returns-clause-sure g c e w told = ends_lacking c.run.result w _ _ _ e (c.run.ensures.ends w told)
